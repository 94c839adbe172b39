-- Which words are the bits of a finite number: those whose exponent's field is not all ones.
use mathlib.Core.Path.{◌≡◌, refl, sym, subst}
use mathlib.Core.Bool.{Bool, true, false, not, cond}
use Prim.Native.Nat.{ℕ, zero, suc, ◌+◌, ◌%◌, ◌/◌, ◌^◌}
use lib.Dec.{T, leb, eqb}
use lib.Ieee.{Float, nan, inf, fin, binary64, odd, of_fields, of_bits, nan_bits, is_nan}
use lib.Ieee.Scale.{finite}
use borrow.Author.Tests.{ne_eqb}

odd_finite : (s : Bool) (q k : ℕ) → finite (odd 53 s q k 1074) ≡ true
unfolding odd
odd_finite s zero k = refl
odd_finite s (suc q) k = refl

top_infinite : (b s : Bool) → finite (cond b (inf s) nan) ≡ false
top_infinite true s = refl
top_infinite false s = refl

pub all_ones : (s : Bool) (x t : ℕ) → x ≡ 2047 → finite (of_fields binary64 s x t) ≡ false
unfolding of_fields
all_ones s x t e =
    subst (λ (k : ℕ). finite (of_fields binary64 s k t) ≡ false) (sym e) (top_infinite (eqb t 0) s)

not_ones : (s : Bool) (x t : ℕ) → (x ≡ 2047 → ⊥) → finite (of_fields binary64 s x t) ≡ true
unfolding of_fields
not_ones s zero t h = odd_finite s t 0
not_ones s (suc x) t h = rw (ne_eqb (suc x) 2047 h) (odd_finite s (2 ^ 52 + t) x)

module _ (w : ℕ) where
  pub is_nothing : w % 9223372036854775808 / 4503599627370496 ≡ 2047 → finite (of_bits binary64 w) ≡ false
  unfolding of_bits
  is_nothing e = all_ones (leb (2 ^ 63) w) (w % 2 ^ 63 / 2 ^ 52) (w % 2 ^ 52) e

  pub is_real : (w % 9223372036854775808 / 4503599627370496 ≡ 2047 → ⊥) → finite (of_bits binary64 w) ≡ true
  unfolding of_bits
  is_real h = not_ones (leb (2 ^ 63) w) (w % 2 ^ 63 / 2 ^ 52) (w % 2 ^ 52) h

  pub no_nan_bits : (w % 9223372036854775808 / 4503599627370496 ≡ 2047 → ⊥) → T (not (nan_bits binary64 w))
  unfolding nan_bits
  no_nan_bits h = rw (ne_eqb (w % 9223372036854775808 / 4503599627370496) 2047 h) tt

pub finite_no_nan : (x : Float) → T (finite x) → T (not (is_nan x))
unfolding is_nan
finite_no_nan nan h = absurd h
finite_no_nan (inf s) h = absurd h
finite_no_nan (fin s m e) h = tt
