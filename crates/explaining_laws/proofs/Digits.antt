-- The digits of a number are a word, which spells the number.
use mathlib.Core.Path.{◌≡◌, refl, ap}
use mathlib.Core.Bool.{Bool, true, false, cond, ◌&&◌}
use mathlib.Core.List.{List, [], ◌∷◌, ◌++◌}
use Prim.Native.Nat.{ℕ, zero, suc, ◌+◌, ◌-◌, ◌/◌, ◌%◌, ◌^◌, ◌≤◌, ◌<◌}
use native.Mathlib.Nat.{min-eq_left}
use native.Mathlib.Omega.{arith}
use borrow.Author.Tests.{lt-ltb, le-leb, ltb-true, leb-true, ne_eqb}
use lib.Dec.{eqb, leb, ltb}
use lib.IntN.{pos}
use lib.ListN.{length, get_or, length-append}
use Rattle.std.specs.Prelude.{Some}
use Rattle.spelling.specs.Bytes.{space}
use Rattle.spelling.specs.Digits.{glyph_of, plain_digits}
use Rattle.spelling.specs.Number.{is_digit, all_digits, decimal_value, first_beyond, parsed_with, parsed_of}
use Rattle.packing.proofs.Packs.{both}
use Rattle.words.specs.laws.Split.{spaceless, IsWord}
use Rattle.sheet.specs.Digits.{decimal_of, most_digits}
use Rattle.sheet.specs.laws.DigitsSpell.{decimal_spells}

-- ---- digits alone

glyph_digit : (d : ℕ) → d < 10 → is_digit (glyph_of d) ≡ true
glyph_digit d h = rw (lt-ltb d 10 h, le-leb 48 (48 + d) (omega arith), le-leb (48 + d) 57 (omega arith))

digits_two : (a b : List ℕ) → all_digits a ≡ true → all_digits b ≡ true → all_digits (a ++ b) ≡ true
unfolding all_digits
digits_two [] b h k = k
digits_two (x ∷ a) b h k =
    let g = both (is_digit x) (all_digits a) h in rw g.0 (digits_two a b g.1 k)

plain_digits_lem : (k n : ℕ) → all_digits (plain_digits k n) ≡ true
unfolding plain_digits all_digits
plain_digits_lem zero n = refl
plain_digits_lem (suc k) n = by (ltb n 10) refl (plain_digits_lem k (n / 10))
  where
    one : (d : ℕ) → d < 10 → all_digits (glyph_of d ∷ []) ≡ true
    one d h = ap (λ (t : Bool). t && true) (glyph_digit d h)

    by : (t : Bool) → ltb n 10 ≡ t → all_digits (plain_digits k (n / 10)) ≡ true
        → all_digits (cond t (glyph_of n ∷ []) (plain_digits k (n / 10) ++ glyph_of (n % 10) ∷ [])) ≡ true
    by true e r = one n (ltb-true n 10 e)
    by false e r = digits_two (plain_digits k (n / 10)) (glyph_of (n % 10) ∷ []) r (one (n % 10) (omega arith))

plain_some : (k n : ℕ) → 0 < length (plain_digits (suc k) n)
unfolding plain_digits
plain_some k n = by (ltb n 10)
  where
    by : (t : Bool) → 0 < length (cond t (glyph_of n ∷ []) (plain_digits k (n / 10) ++ glyph_of (n % 10) ∷ []))
    by true = omega arith
    by false = rw length-append (omega arith)

-- ---- a word

-- a digit is neither a space nor a minus sign
digit_another : (b c : ℕ) → c < 48 → is_digit b ≡ true → eqb b c ≡ false
digit_another b c h e =
    let l = leb-true 48 b (both (leb 48 b) (leb b 57) e).0 in ne_eqb b c (λ x. omega arith)

digits_spaceless : (w : List ℕ) → all_digits w ≡ true → spaceless w ≡ true
unfolding all_digits
digits_spaceless [] h = refl
digits_spaceless (b ∷ w) h =
    let g = both (is_digit b) (all_digits w) h in
    rw (digit_another b space (omega arith) g.0) (digits_spaceless w g.1)

pub decimal_word : (n : ℕ) → IsWord (decimal_of n)
decimal_word n = record {
  some = plain_some 19 n;
  letters = digits_spaceless (decimal_of n) (plain_digits_lem most_digits n);
}

-- ---- and the number that it spells

no_minus : (w : List ℕ) → 0 < length w → all_digits w ≡ true → eqb (get_or w 0 0) 45 ≡ false
unfolding all_digits
no_minus [] s h = absurd (omega arith)
no_minus (b ∷ w) s h = digit_another b 45 (omega arith) (both (is_digit b) (all_digits w) h).0

pub decimal_parsed : (n : ℕ) → n < 2 ^ 63 → parsed_of (decimal_of n) ≡ Some (pos n)
unfolding parsed_of parsed_with
decimal_parsed n h =
    let w = decimal_of n in
    let v : decimal_value w ≡ n = decimal_spells n (omega arith) in
    let k : n ≤ first_beyond - 1 = omega arith in
    rw (
      no_minus w (plain_some 19 n) (plain_digits_lem most_digits n),
      lt-ltb 0 (length w) (plain_some 19 n),
      plain_digits_lem most_digits n,
      v,
      min-eq_left k,
    )

-- ---- which is short

pub plain_short : (k n : ℕ) → length (plain_digits k n) ≤ k
unfolding plain_digits
plain_short zero n = omega arith
plain_short (suc k) n = by (ltb n 10) (plain_short k (n / 10))
  where
    by : (t : Bool) → length (plain_digits k (n / 10)) ≤ k
        → length (cond t (glyph_of n ∷ []) (plain_digits k (n / 10) ++ glyph_of (n % 10) ∷ [])) ≤ suc k
    by true h = omega arith
    by false h = rw length-append (omega arith)
