-- The entry of the table is the power's.
use Rattle.std.proofs.Common.{rules, ap, ◌-◌, get_or, le-ltb, lt-ltb, List}
use Rattle.std.specs.Float.{Float, nan, binary64}
use Rattle.std.specs.Float.Ieee.{div, mul}
use Rattle.decimal.specs.Decimal.{times_power}
use Rattle.decimal.proofs.PowersOfTen.times.Goals as goal

pub returns-then-q-lt-NO_POWER : goal.returns-then-q-lt-NO_POWER
unfolding times_power
returns-then-q-lt-NO_POWER c =
    rw (lt-ltb c.args.q 22 c.if-q-lt-NO_POWER.true)
    (ap (λ (l : List Float). div binary64 c.args.x (get_or l (22 - c.args.q) nan)) (search rules))

pub returns-else-q-lt-NO_POWER : goal.returns-else-q-lt-NO_POWER
unfolding times_power
returns-else-q-lt-NO_POWER c =
    rw (le-ltb c.args.q 22 c.if-q-lt-NO_POWER.false)
    (ap (λ (l : List Float). mul binary64 c.args.x (get_or l (c.args.q - 22) nan)) (search rules))
