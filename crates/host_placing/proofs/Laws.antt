-- What standing a transistor leaves, from what the board's method and the words of its answer ensure.
use mathlib.Core.Path.{◌≡◌, refl, ap, ap₂, ◌∙◌, subst}
use mathlib.Core.Bool.{true, false}
use mathlib.Core.List.{List}
use Prim.Native.Nat.{ℕ}
use lib.IntN.{ℤ}
use Rattle.lending.specs.Rest.{State}
use Rattle.lending.specs.Lending.{Lent, placed_lent}
use Rattle.host_changes.specs.OfBoard.Board.{Board}
use Rattle.host_changes.specs.OfBoard.Answered.{Answered}
use Rattle.host_changes.specs.OfBoard.Promise.{state_in, handed_as, Reached}
use Rattle.host_changes.specs.OfBoard.Unique.{AllowsTotals}
use Rattle.host_words.specs.Words.{result_of, issue_over, who_over, branch_over}
use Rattle.host_changes.proofs.Laws.{leaves}
use Rattle.roles.specs.Roles.{roles_of}
use Rattle.host_placing.specs.Placing.{is_list, placing_of, Placed}

pub places : {a : Answered} (s : State) (card : ℤ) (nodes : List ℤ) {card° : ℤ} {roles t' : List ℤ}
    {i i' w w' k k' r : ℕ} →
    is_list nodes ≡ true → card° ≡ card → roles ≡ roles_of nodes → AllowsTotals (placed_lent s card° roles) a t' →
    (r ≡ result_of a.answer)
    × ((i' ≡ issue_over a.answer i) × ((w' ≡ who_over a.answer w) × (k' ≡ branch_over a.answer k))) →
    Placed (placing_of s card nodes) a.board t' i i' w w' k k' r
unfolding placing_of
places {a} s card nodes {card°} {roles} {t'} {i} {i'} {w} {w'} {k} on e f p q =
    let g = subst (λ (l : Lent). AllowsTotals l a t') (ap₂ (placed_lent s) e f) p in
    rw on
    (record {
      leaves = leaves (handed_as (placed_lent s card (roles_of nodes))) a g.0 g.1.0 q.0;
      totals = g.1.1;
      issue = q.1.0 ∙ ap (λ (x : Answered). issue_over x.answer i) g.0;
      who = q.1.1.0 ∙ ap (λ (x : Answered). who_over x.answer w) g.0;
      branch = q.1.1.1 ∙ ap (λ (x : Answered). branch_over x.answer k) g.0;
    })

-- a list of another length changes nothing
pub places_none : (b : Board) (v t : List ℤ) (card : ℤ) (nodes : List ℤ) (i w k : ℕ) → Reached b →
    is_list nodes ≡ false → Placed (placing_of (state_in b v t) card nodes) b t i i w w k k 1
unfolding placing_of
places_none b v t card nodes i w k h off =
    rw off
    (record {
      leaves = record { result = refl; board = refl; reached = h };
      totals = refl;
      issue = refl;
      who = refl;
      branch = refl;
    })
