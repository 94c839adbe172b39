-- Decimal digits that are printed spell the number: read as a numeral they give it again.
use Rattle.std.specs.Prelude.{◌≡◌, refl, Bool, true, false, cond, List, [], ◌∷◌, ◌++◌, ℕ, zero, suc, ◌+◌, ◌*◌, ◌/◌, ◌%◌, ◌^◌, ◌<◌, ltb}
use Rattle.std.proofs.Common.{sym, ap, ap₂, ◌∙◌, zero-add, pow-suc, div-lt_iff_lt-mul, arith, lt-ltb, le-leb, ltb-true, lit<}
use Rattle.std.proofs.Math.Nat.{pow-zero}
use Rattle.std.proofs.Math.Arith.{lt-one}
use Rattle.sheet.specs.Digits.{glyph_of, plain_digits, decimal_of, most_digits}
use Rattle.spelling.specs.Number.{digit_of, decimal_from, decimal_value}

value_two : (x : ℕ) (a b : List ℕ) → decimal_from x (a ++ b) ≡ decimal_from (decimal_from x a) b
unfolding decimal_from
value_two x [] b = refl
value_two x (d ∷ a) b = value_two (10 * x + digit_of d) a b

digit_back : (d : ℕ) → d < 10 → digit_of (glyph_of d) ≡ d
digit_back d h = rw (lt-ltb d 10 h, le-leb 48 (48 + d) (omega arith), le-leb (48 + d) 57 (omega arith)) (omega arith)

plain_spells : (k n : ℕ) → n < 10 ^ k → decimal_value (plain_digits k n) ≡ n
unfolding plain_digits decimal_from
plain_spells zero n h = sym (lt-one (rw pow-zero at h))
plain_spells (suc k) n h =
    let q : n / 10 < 10 ^ k = (div-lt_iff_lt-mul (lit< tt)).1 (rw pow-suc at h) in
    by (ltb n 10) refl (plain_spells k (n / 10) q)
  where
    by : (t : Bool) → ltb n 10 ≡ t → decimal_value (plain_digits k (n / 10)) ≡ n / 10
        → decimal_value (cond t (glyph_of n ∷ []) (plain_digits k (n / 10) ++ glyph_of (n % 10) ∷ [])) ≡ n
    by true e r = ap (λ (y : ℕ). 0 + y) (digit_back n (ltb-true n 10 e)) ∙ zero-add n
    by false e r =
        let d = digit_back (n % 10) (omega arith) in
        value_two 0 (plain_digits k (n / 10)) (glyph_of (n % 10) ∷ []) ∙ ap₂ (λ (x y : ℕ). 10 * x + y) r d ∙ omega arith

pub decimal_spells : (n : ℕ) → n < 2 ^ 64 → decimal_value (decimal_of n) ≡ n
decimal_spells n h = plain_spells most_digits n (omega arith)
