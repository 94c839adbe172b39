-- A value as a * 2^b: 'Working a card', its last lines.
use Rattle.std.specs.Prelude.{ℕ, zero, suc, ◌+◌, ◌-◌, ◌*◌, ◌/◌, ◌^◌, ◌≤◌, ◌<◌, ℤ, pos, negsuc, ◌+ℤ◌, Float}
use Rattle.std.proofs.Math.IntN.{sub_ℕ}
use Rattle.std.specs.Float.{nan, inf, fin}
use Rattle.std.specs.Float.Ieee.{size}
use Rattle.float.specs.declared.Split.{Split}

-- m * 2^e as F * 2^k with 2^52 <= F < 2^53: m, which has `size m` binary digits, is given 53
abbrev pub whole_f : ℕ → ℕ
whole_f m = m * 2 ^ (53 - size m)

abbrev pub power_k : ℕ → ℤ → ℤ
power_k m e = e +ℤ sub_ℕ (size m) 53

-- a = floor(F / 2^22), and 0 for a zero; what is no finite number has 0 too
abbrev pub split_a : Float → ℕ
split_a nan = 0
split_a (inf s) = 0
split_a (fin s zero e) = 0
split_a (fin s (suc m) e) = whole_f (suc m) / 2 ^ 22

-- b = k + 22, and 0 for a zero
abbrev pub split_b : Float → ℤ
split_b nan = pos 0
split_b (inf s) = pos 0
split_b (fin s zero e) = pos 0
split_b (fin s (suc m) e) = power_k (suc m) e +ℤ pos 22

-- how the desk keeps b: taken from a bias, so that it is never negative (`power_kept` in proofs/Kept). The bias is 20
-- less than that of the exponential's n, so that what is kept, less n as it is kept, is by how many places ticks are
-- shifted down
abbrev pub split_bias : ℕ
split_bias = 8172

abbrev pub kept_power : ℤ → ℕ
kept_power (pos n) = split_bias - n
kept_power (negsuc n) = split_bias + suc n

abbrev pub split_of : Float → Split
split_of x = record { a = split_a x; down = kept_power (split_b x) }

-- what stands where there is no value
abbrev pub no_split : Split
no_split = record { a = 0; down = 0 }

-- what the split of a finite value is sure to be (`is_split` in proofs/Kept)
pub record IsSplit (v : Split) : Type 0 where
  pub short : v.a < 2147483648
  pub full : 0 < v.a → 1073741824 ≤ v.a
  pub low : 7179 ≤ v.down
  pub high : v.down ≤ 9276
