-- As many numbers as there are, written on a page, a space before each.
use mathlib.Core.Path.{◌≡◌, refl, sym, ap, ◌∙◌}
use mathlib.Core.List.{List, [], ◌∷◌}
use Prim.Native.Nat.{ℕ, suc, ◌+◌, ◌<◌, ◌≤◌}
use native.Mathlib.Numerals.{add-one}
use lib.ListN.{length, drop, get_or, drop_of_length-le}
use lib.Seq.{drop-cons}
use Rattle.spelling.specs.Bytes.{space, newline}
use Rattle.page.specs.declared.Page.{Page}
use Rattle.page.specs.Page.{with_bytes, Writes}
use Rattle.page.proofs.Pages.{write_two}
use Rattle.spaced.specs.Spaced.{spaced_line}

-- what is left to write are the numbers from i on
pub record SpacedLeft {A : Type 0} {N : ℕ} (digits : A → List ℕ) (l : List A) (old new : Page N) (i : ℕ) : Type 0 where
  pub same : with_bytes old (spaced_line digits l) ≡ with_bytes new (spaced_line digits (drop i l))

pub spaced_all : {A : Type 0} {N : ℕ} {digits : A → List ℕ} {l : List A} {old : Page N} → SpacedLeft digits l old old 0
spaced_all = record { same = refl }

module _ {A : Type 0} {N : ℕ} {digits : A → List ℕ} {l : List A} {old new : Page N} {i : ℕ}
    (v : SpacedLeft digits l old new i) where
  -- one more, which is `none` past the last
  pub spaced_on : (none : A) {next : Page N} → i < length l → Writes (space ∷ digits (get_or l i none)) new next
      → SpacedLeft digits l old next (i + 1)
  unfolding spaced_line
  spaced_on none h w =
      let rest = spaced_line digits (drop (suc i) l) in record {
        same =
            v.same ∙ ap (λ (k : List A). with_bytes new (spaced_line digits k)) (drop-cons l i none h)
            ∙ write_two new (space ∷ digits (get_or l i none)) rest
            ∙ rw add-one (ap (λ (g : Page N). with_bytes g rest) (sym w.written));
      }

  pub spaced_end : {next : Page N} → length l ≤ i → Writes (newline ∷ []) new next → Writes (spaced_line digits l) old next
  unfolding spaced_line
  spaced_end h w = record {
    written =
        w.written
        ∙ sym (v.same ∙ ap (λ (k : List A). with_bytes new (spaced_line digits k)) (drop_of_length-le l h));
  }
