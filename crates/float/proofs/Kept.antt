-- Every finite f64 is some units of 2^-1074: its split is within bounds, and the bias added to its power loses nothing.
use mathlib.Core.Path.{◌≡◌, sym, ap, subst, ◌∙◌}
use mathlib.Core.Bool.{Bool}
use Prim.Native.Nat.{ℕ, zero, suc, ◌+◌, ◌/◌, ◌%◌, ◌^◌, ◌≤◌, ◌<◌}
use native.Mathlib.Omega.{arith}
use lib.Dec.{T, leb}
use lib.IntN.{sub_ℕ}
use lib.Ieee.{Float, binary64, fits, odd, of_bits, to_bits, of_fields}
use lib.Ieee.Bits.{of_bits-to_bits}
use lib.Ieee.Digits.{size-le}
use lib.Ieee.Scale.{finite}
use Rattle.float.specs.Split.{whole_f, split_b, split_of, split_bias, IsSplit}
use Rattle.float.proofs.Digits.{filled, some_digit}
use Rattle.float.proofs.Units.{units_of, odd_split, odd_power, unled_value, led_value}
use Rattle.float.proofs.Words.{all_ones}

-- x is q * 2^k units
record InUnits (x : Float) : Type 0 where
  pub sign : Bool
  pub q : ℕ
  pub k : ℕ
  pub value : x ≡ odd 53 sign q k 1074
  pub few : q < 2 ^ 53
  pub near : k ≤ 2045

-- what its bits are read as
pub read_back : (x : Float) → T (fits binary64 x)
    → of_fields binary64 (leb (2 ^ 63) (to_bits binary64 x)) (to_bits binary64 x % 2 ^ 63 / 2 ^ 52)
    (to_bits binary64 x % 2 ^ 52)
    ≡ x
unfolding of_bits
read_back x f = of_bits-to_bits binary64 x f

from_fields : (x : Float) (s : Bool) (d n : ℕ) → of_fields binary64 s d n ≡ x → n < 2 ^ 52 → d < 2048 → T (finite x)
    → InUnits x
from_fields x s zero n e l h f =
    record { sign = s; q = n; k = 0; value = sym e ∙ unled_value s n; few = omega arith; near = omega arith }
from_fields x s (suc j) n e l h f =
    let g = subst (λ (y : Float). T (finite y)) (sym e) f in
    record { sign = s; q = 2 ^ 52 + n; k = j; value = sym e ∙ led_value s j n g; few = omega arith; near = below g }
  where
    below : T (finite (of_fields binary64 s (suc j) n)) → j ≤ 2045
    below g = let ones : suc j ≡ 2047 → ⊥ = λ e. subst T (all_ones s (suc j) n e) g in omega arith

in_units : (x : Float) → T (fits binary64 x) → T (finite x) → InUnits x
in_units x f g =
    let b = to_bits binary64 x in
    from_fields x (leb (2 ^ 63) b) (b % 2 ^ 63 / 2 ^ 52) (b % 2 ^ 52) (read_back x f) (omega arith) (omega arith) g

bounds : (q k : ℕ) → q < 2 ^ 53 → k ≤ 2045 → IsSplit (units_of q k)
bounds zero k h l = record { short = omega arith; full = λ g. omega arith; low = omega arith; high = omega arith }
bounds (suc q) k h l =
    let f = filled (suc q) (omega arith) h in
    let a = sized (whole_f (suc q)) f.0 f.1 in
    let u = size-le (suc q) 53 h in
    let o = some_digit (suc q) (omega arith) in
    record { short = a.0; full = λ g. a.1; low = omega arith; high = omega arith }
  where
    sized : (x : ℕ) → 2 ^ 52 ≤ x → x < 2 ^ 53 → (x / 2 ^ 22 < 2147483648) × (1073741824 ≤ x / 2 ^ 22)
    sized x a b = (omega arith, omega arith)

near_enough : {k : ℕ} → k ≤ 2045 → k ≤ 2047
near_enough h = omega arith

module _ (x : Float) (f : T (fits binary64 x)) (g : T (finite x)) where
  same_split : split_of x ≡ units_of (in_units x f g).q (in_units x f g).k
  same_split = let u = in_units x f g in ap split_of u.value
      ∙ odd_split u.sign u.q u.k u.few (near_enough u.near)

  pub is_split : IsSplit (split_of x)
  is_split = let u = in_units x f g in subst IsSplit (sym same_split) (bounds u.q u.k u.few u.near)

  -- the power that a caller reads off is the paper's b
  pub power_kept : sub_ℕ split_bias (split_of x).down ≡ split_b x
  power_kept =
      let u = in_units x f g in
      ap (λ v. sub_ℕ split_bias v.down) same_split ∙ odd_power u.sign u.q u.k u.few (near_enough u.near)
      ∙ ap split_b (sym u.value)
