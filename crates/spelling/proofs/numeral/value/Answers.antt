-- A digit more at each turn, held at the first past both ends.
use Rattle.std.proofs.Common.{refl, rules}
use Rattle.spelling.proofs.ByteLoops.{value_on, value_end}
use Rattle.spelling.proofs.numeral.value.Goals as goal

pub loop-b-init : goal.loop-b-init
loop-b-init c = record { within = search rules; so_far = refl; held = search rules }

pub loop-b-preserved : goal.loop-b-preserved
loop-b-preserved c = value_on c.loop-b.invariant (search rules) _ _ c.digit.ensures.0 c.longer-x.ensures

pub returns : goal.returns
returns c = value_end c.loop-b.invariant (search rules)
