-- What is said and left, from what the calls ensure.
use mathlib.Core.Path.{◌≡◌, refl, sym, ap, ap₂, ◌∙◌}
use mathlib.Core.List.{List}
use Prim.Native.Nat.{ℕ, ◌+◌}
use native.Mathlib.Numerals.{add-one}
use lib.IntN.{ℤ, pos}
use Rattle.page.specs.declared.Page.{Page}
use Rattle.page.specs.Page.{Writes}
use Rattle.page.proofs.Pages.{as_bytes, then}
use Rattle.places.specs.Counts.{transistors_most}
use Rattle.model.specs.Board.{Board}
use Rattle.model.specs.declared.Answer.{Answer}
use Rattle.model.specs.declared.Answer.TheVariants as told
use Rattle.model.specs.Model as model
use Rattle.telling.specs.Said.{listed_of, row_of}
use Rattle.lending.specs.Rest.{State}
use Rattle.lending.specs.Lending.{showed_lent}
use Rattle.board.specs.declared.Answered.{Answered}
use Rattle.board.specs.Unique.{AllowsLent, AllowsList}
use Rattle.evening.specs.Said.{no_list, who_said, rows_to, rows_said, sheet_if}

module _ {N : ℕ} {old new : Page N} {a : Answered} where
  pub who_said_lem : (b : Board) {n n° : ℤ} {list : List ℕ} → n° ≡ n →
      AllowsList (model.listed_of b n° transistors_most) no_list a list →
      Writes (listed_of a.answer list) old new → Writes (who_said b n) old new
  unfolding who_said
  who_said_lem b e p w =
      rw (sym e)
      (as_bytes (ap₂ listed_of (ap (λ (x : Answered). x.answer) p.0) p.1.1) w)

  -- the row of one node more
  pub row_said : (s : State) (n : ℕ) {z : ℤ} {first : Page N} → z ≡ pos n →
      Writes (rows_to s n) first old → AllowsLent (showed_lent s z) a →
      Writes (row_of n a.answer) old new → Writes (rows_to s (n + 1)) first new
  unfolding rows_to
  row_said s n e p q w =
      let f = ap (λ (x : Answered). x.answer) q.0 ∙ ap (λ (x : ℤ). (showed_lent s x).answer) e in
      rw add-one (then p (as_bytes (ap (row_of n) f) w))

-- every answer but a refusal has the sheet
pub sheet_taken : (s : State) (a : Answer) → ((f : _) → a ≡ told.Refused f → ⊥) → rows_said s ≡ sheet_if a s
sheet_taken s (told.Refused f) h = absurd (h f refl)
sheet_taken s (told.Issue i) h = refl
sheet_taken s told.Done h = refl
sheet_taken s (told.Node v t) h = refl
sheet_taken s told.Currents h = refl
sheet_taken s (told.Listed n) h = refl
sheet_taken s (told.Summed t c most) h = refl
