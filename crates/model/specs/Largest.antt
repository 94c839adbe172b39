-- The largest size of a branch at a node, by where the branches start and end.
use Rattle.std.specs.Prelude.{Bool, cond, ◌||◌, List, ℕ, eqb, get_or, ℤ, pos, nat_abs}
use Rattle.settle.specs.OfTerms.Rows.{branches}
use Rattle.settle.specs.OfTerms.Ends.{from_roles, to_roles}
use Rattle.settle.specs.OfRows.inner.FromTerms.{list_up}
use Rattle.settle.specs.OfGiven.Lists.{largest}

-- the branch k of a transistor on these nodes starts or ends at node n
abbrev pub ends_at : ℕ → List ℕ → ℕ → Bool
ends_at n nodes k = eqb (get_or nodes (get_or from_roles k 0) 0) n || eqb (get_or nodes (get_or to_roles k 0) 0) n

-- the largest size of its branches there, of so many ticks; 0 where there is none
unfoldable pub size_at : ℕ → List ℕ → List ℤ → ℕ
size_at n nodes ticks =
    largest (list_up (λ (k : ℕ). cond (ends_at n nodes k) (nat_abs (get_or ticks k (pos 0))) 0) branches 0)
