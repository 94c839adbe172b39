-- A shift up, a shift down, and one that leaves nothing.
use Rattle.std.proofs.Common.{◌∙◌, arith}
use Rattle.quotients.proofs.Shifts.{scaled_up, scaled_down, scaled_far}
use Rattle.quotients.proofs.floor_scale.Goals as goal

pub returns-then-down-up : goal.returns-then-down-up
returns-then-down-up c =
    let a = c.args in c.scale_up.ensures ∙ scaled_up a.x a.up a.down a.over c.if-down-up.true

pub returns-then-s-lt-PLACES : goal.returns-then-s-lt-PLACES
returns-then-s-lt-PLACES c =
    let a = c.args in c.hold.ensures ∙ scaled_down a.x a.up a.down a.over c.if-down-up.false

pub returns-else-s-lt-PLACES : goal.returns-else-s-lt-PLACES
returns-else-s-lt-PLACES c =
    let a = c.args in scaled_far a.x a.up a.down a.over (omega arith) c.if-down-up.false c.if-s-lt-PLACES.false
