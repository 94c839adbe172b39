-- One input has one result: any two answers, boards and slices that asking may give are equal.
use Rattle.std.specs.Prelude.{◌≡◌, List, ℤ}
use Rattle.refusal.specs.Unique.{unique_by_equation}
use Rattle.lending.specs.Lending.{Lent}
use Rattle.fetching.specs.OfBoard.Answered.{Answered}
use Rattle.fetching.specs.OfBoard.Unique.{AllowsBoth}

pub unique_asked : (l : Lent) {r s : Answered} {v w t u : List ℤ} → AllowsBoth l r v t → AllowsBoth l s w u →
    (r ≡ s) × ((v ≡ w) × (t ≡ u))
unique_asked l p q = (
  unique_by_equation p.0 q.0,
  (unique_by_equation p.1.1.0 q.1.1.0, unique_by_equation p.1.1.1 q.1.1.1),
)
