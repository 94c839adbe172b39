-- The exponential G(V) = m * 2^(n - 30).
use Rattle.std.specs.Prelude.{ℕ, ℤ, pos, nat_abs, ◌+ℤ◌}
use Rattle.octave.specs.declared.Exponential.{Exponential}
use Rattle.octave.specs.Table.{mantissa_of}
use Rattle.octave.specs.Position.{whole_of, part_of}

-- what is added to n so that it is no negative number
abbrev pub bias : ℕ
bias = 8192

-- m at V's part, and n raised by the bias
unfoldable pub exponential_of : ℤ → ℕ → Exponential
exponential_of v w = record { m = mantissa_of (part_of v w); n = nat_abs (whole_of v w +ℤ pos bias) }
