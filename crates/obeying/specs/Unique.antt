-- One input has one result: whatever board, slices, shelf and page obeying a command may leave, they are the same.
use Rattle.std.specs.Prelude.{◌≡◌, List, ℕ, ℤ}
use Rattle.refusal.specs.Unique.{unique_by_equation}
use Rattle.page.specs.declared.Page.{Page}
use Rattle.page.specs.Unique.{unique_writes}
use Rattle.evening.specs.OfBoard.Board.{Board}
use Rattle.obeying.specs.Obeyed.{Obeyed, Obeys}

pub unique_obeys : {N : ℕ} (o : Obeyed) {r s : Board} {v w t u : List ℤ} {shelf shelf' : List ℕ} {old new new' : Page N} →
    Obeys o r v t shelf old new → Obeys o s w u shelf' old new' →
    (r ≡ s) × ((v ≡ w) × ((t ≡ u) × ((shelf ≡ shelf') × (new ≡ new'))))
unique_obeys o p q = (
  unique_by_equation p.board q.board,
  (
    unique_by_equation p.volts q.volts,
    (
      unique_by_equation p.totals q.totals,
      (unique_by_equation p.shelf q.shelf, unique_writes p.said q.said),
    ),
  ),
)
