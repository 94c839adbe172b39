-- Numbers as digits times a power of two: a worked value, the exponential of a voltage, their product; T of one, the
-- floor that a ratio counts, and how large these may be.
use Rattle.std.specs.Prelude.{ℕ, ◌*◌, ◌^◌, ℤ, pos, ◌+ℤ◌, ◌-ℤ◌}
use Rattle.std.proofs.Math.IntN.{sub_ℕ}
use Rattle.octave.specs.OfWhole.Scale.{floor_scale}
use Rattle.octave.specs.Table.{places, mantissa_of}
use Rattle.octave.specs.Position.{whole_of, part_of}
use Rattle.float.specs.declared.Split.{Split}
use Rattle.float.specs.Split.{split_bias}

-- digits * 2^power
pub record Scaled : Type 0 where
  pub digits : ℕ
  pub power : ℤ

-- a * 2^b of a worked value; the card keeps b taken from a bias
abbrev pub value_at : Split → Scaled
value_at s = record { digits = s.a; power = sub_ℕ split_bias s.down }

-- G(V) = m * 2^(n - 30) for an octave of w nanovolts
unfoldable pub exp_of : ℤ → ℕ → Scaled
exp_of v w = record { digits = mantissa_of (part_of v w); power = whole_of v w -ℤ pos places }

abbrev pub times : Scaled → Scaled → Scaled
times x y = record { digits = x.digits * y.digits; power = x.power +ℤ y.power }

-- a whole number, as a voltage's microvolts
abbrev pub whole_number : ℕ → Scaled
whole_number n = record { digits = n; power = pos 0 }

-- binary places of a tick, 2^-50 ampere, and of the unit in which ratios count, 2^-20
abbrev pub tick_places : ℕ
tick_places = 50

abbrev pub part_places : ℕ
part_places = 20

-- T(x): whole ticks not above x
abbrev pub whole_ticks : Scaled → ℕ
whole_ticks x = floor_scale x.digits (x.power +ℤ pos tick_places)

-- floor(x * 2^20)
abbrev pub whole_parts : Scaled → ℕ
whole_parts x = floor_scale x.digits (x.power +ℤ pos part_places)

-- the most ticks that a T may have, and the most that a ratio's floor may
abbrev pub tick_limit : ℕ
tick_limit = 2 ^ 53

abbrev pub ratio_limit : ℕ
ratio_limit = 2 ^ 40
