-- Products as the code has them, shifted down: right up to their limits, and above them only known to be above.
use Rattle.std.specs.Prelude.{◌≡◌, List, ℕ, suc, ◌+◌, ◌-◌, ◌*◌, ◌/◌, ◌^◌, ◌≤◌, ◌<◌, ltb, length, ℤ}
use Rattle.std.proofs.Math.IntN.{sub_ℕ}
use Rattle.octave.specs.OfWhole.Scale.{held_at}
use Rattle.octave.specs.OfVolts.Volts.{span, AllNear}
use Rattle.float.specs.declared.Split.{Split}
use Rattle.float.specs.Split.{IsSplit}
use Rattle.octave.specs.declared.Exponential.{Exponential}
use Rattle.octave.specs.declared.Reciprocal.{Reciprocal}
use Rattle.octave.specs.Table.{places, entries, IsMantissa}
use Rattle.octave.specs.Exponential.{bias}
use Rattle.octave.specs.inner.Reciprocal.{IsReciprocal}
use Rattle.octave.specs.laws.Places.{exponent_most}
use Rattle.scaling.specs.Roles.{roles}
use Rattle.scaling.specs.Scaled.{Scaled, value_at, exp_of, times, whole_number, tick_places}
use Rattle.scaling.specs.Scaled.{part_places, whole_ticks, tick_limit}

-- T of a value by itself, held at the first number that is too much
abbrev pub alone_of : Split → ℕ
alone_of x = held_at (suc tick_limit) (whole_ticks (value_at x))

-- T of a conductance times so many microvolts, held likewise
abbrev pub through_of : Split → ℕ → ℕ
through_of x d = held_at (suc tick_limit) (whole_ticks (times (value_at x) (whole_number d)))

-- asked by `through`: a worked value, and no more microvolts than from one node to another
pub record Drop (x : Split) (d : ℕ) : Type 0 where
  pub split : IsSplit x
  pub near : d ≤ span

-- the exponential m * 2^(n - 30) as the code has it, with n raised by a bias
unfoldable pub exp_at : Exponential → Scaled
exp_at g = record { digits = g.m; power = sub_ℕ g.n (bias + places) }

-- x is t as far as the limit goes: both are above it, or they are equal; and x is well within 64 bits
pub record UpTo (limit x t : ℕ) : Type 0 where
  pub above : ltb limit x ≡ ltb limit t
  pub same : x ≤ limit → x ≡ t
  pub small : x < 2 ^ 62

-- the size of an exponential: a product of its digits with a value's is 0 or from 2^60 to 2^62
pub record Sized (g : Exponential) : Type 0 where
  pub digits : IsMantissa g.m
  pub small : g.n ≤ exponent_most

-- the exponential of a voltage for an octave
pub record IsExp (w : ℕ) (v : ℤ) (g : Exponential) : Type 0 where
  pub is : exp_at g ≡ exp_of v w
  pub sized : Sized g

-- by how many places ratios, in parts of 2^-20, are shifted further down than ticks of 2^-50
abbrev pub more_parts : ℕ
more_parts = tick_places - part_places

-- asked by `scaled`: a worked value, an exponential, and no further shift than a ratio's
pub record Scalable (x : Split) (g : Exponential) (more : ℕ) : Type 0 where
  pub split : IsSplit x
  pub sized : Sized g
  pub near : more ≤ more_parts

-- asked by `exponential`: the table, kept voltages of the roles, two of them, and an octave's reciprocal
pub record Junction (table v : List ℕ) (p q : ℕ) (o : Reciprocal) : Type 0 where
  pub table_is : table ≡ entries
  pub long : length v ≡ roles
  pub near : AllNear v
  pub from : p < roles
  pub to : q < roles
  pub reciprocal : IsReciprocal o

-- a value times an exponential, shifted down
abbrev pub scaled_of : Split → Exponential → ℕ → ℕ
scaled_of x g more = x.a * g.m / 2 ^ (x.down + more - g.n)
