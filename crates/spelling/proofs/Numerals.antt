-- Numerals: a number held among those of 64 bits, and a word read as one.
use mathlib.Core.Path.{◌≡◌, refl, ap, ◌∙◌}
use mathlib.Core.List.{List, [], ◌∷◌}
use mathlib.Core.Bool.{Bool, true, false}
use Prim.Native.Nat.{ℕ, ◌-◌, ◌<◌, ◌≤◌, min}
use native.Mathlib.Nat.{le_refl}
use native.Mathlib.Omega.{arith}
use borrow.Author.Tests.{lt-ltb, le-ltb, eq-eqb, ne_eqb}
use lib.Dec.{eqb}
use lib.ListN.{length, take, drop, get_or, length-drop}
use lib.Seq.{take_all}
use lib.IntN.{ℤ, pos, neg_ℤ}
use Rattle.std.specs.Prelude.{Option, Some, None}
use Rattle.spelling.specs.Number.{first_beyond, first_past, all_digits, decimal_from, decimal_value, nearest}
use Rattle.spelling.specs.Number.{parsed_with, parsed_after, parsed_of, within_ends, fits_after, fits_of}

-- ---- a number held among those of 64 bits

-- held at the first past both ends a number is as near to them as before
pub held_near : (below : Bool) (n : ℕ) → nearest below (min n first_past) ≡ nearest below n
held_near false n =
    let e : min (min n first_past) (first_beyond - 1) ≡ min n (first_beyond - 1) = omega arith in
    ap pos e
held_near true n =
    let e : min (min n first_past) first_beyond ≡ min n first_beyond = omega arith in
    ap (λ (m : ℕ). neg_ℤ (pos m)) e

-- ---- a numeral read

module _ (s : List ℕ) (below : Bool) where
  pub empty_numeral : length s ≤ 0 → None ≡ parsed_with below s
  unfolding parsed_with
  empty_numeral h = rw (le-ltb 0 (length s) h)

  pub bad_numeral : false ≡ all_digits s → 0 < length s → None ≡ parsed_with below s
  unfolding parsed_with
  bad_numeral e h = rw (lt-ltb 0 (length s) h, ← e)

  pub good_numeral : true ≡ all_digits s → 0 < length s → {x : ℕ} → x ≡ min (decimal_value s) first_past → {z : ℤ}
      → z ≡ nearest below x → Some z ≡ parsed_with below s
  unfolding parsed_with
  good_numeral e h f g =
      rw (lt-ltb 0 (length s) h, ← e) (ap (λ (y : ℤ). Some y) (g ∙ ap (nearest below) f ∙ held_near below (decimal_value s)))

module _ (w : List ℕ) where
  pub no_numeral : length w < 1 → None ≡ parsed_of w
  unfolding parsed_of parsed_with
  no_numeral e = by w e
    where
      by : (w : List ℕ) → length w < 1 → None ≡ parsed_after (eqb (get_or w 0 0) 45) w
      by [] e = refl
      by (b ∷ w) e = absurd (omega arith)

  pub with_minus : {r : Option ℤ} → get_or w 0 0 ≡ 45 → r ≡ parsed_with true (take (length w - 1) (drop 1 w))
      → r ≡ parsed_of w
  unfolding parsed_of
  with_minus z e =
      rw (eq-eqb (get_or w 0 0) 45 z)
      (e ∙ ap (parsed_with true) (take_all (length w - 1) (drop 1 w) (rw length-drop (le_refl _))))

  pub without_minus : {r : Option ℤ} → (get_or w 0 0 ≡ 45 → ⊥) → r ≡ parsed_with false w → r ≡ parsed_of w
  unfolding parsed_of
  without_minus z e = rw (ne_eqb (get_or w 0 0) 45 z) e

-- ---- whether a number is one of 64 bits

module _ (w : List ℕ) where
  pub fits_none : length w < 1 → true ≡ fits_of w
  unfolding fits_of decimal_from
  fits_none e = by w e
    where
      by : (w : List ℕ) → length w < 1 → true ≡ fits_after (eqb (get_or w 0 0) 45) w
      by [] e = refl
      by (b ∷ w) e = absurd (omega arith)

  pub fits_below : {r : Bool} → get_or w 0 0 ≡ 45 →
      r ≡ within_ends true (decimal_value (take (length w - 1) (drop 1 w))) → r ≡ fits_of w
  unfolding fits_of
  fits_below z e =
      rw (eq-eqb (get_or w 0 0) 45 z)
      (e
      ∙ ap (λ (l : List ℕ). within_ends true (decimal_value l))
      (take_all (length w - 1) (drop 1 w) (rw length-drop (le_refl _))))

  pub fits_above : {r : Bool} → (get_or w 0 0 ≡ 45 → ⊥) → r ≡ within_ends false (decimal_value w) → r ≡ fits_of w
  unfolding fits_of
  fits_above z e = rw (ne_eqb (get_or w 0 0) 45 z) e
