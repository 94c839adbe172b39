-- The places that are left are the measure.
use Prim.Native.Nat.{◌-◌}
use Rattle.places.specs.Counts.{transistors_most}
use Rattle.settling.proofs.+settle_from.Given as goal

abbrev pub decreases-settle_from : goal.decreases-settle_from
decreases-settle_from l = transistors_most - l.i
