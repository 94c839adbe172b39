-- Nothing, a product that is held, and one above any limit.
use Rattle.std.proofs.Common.{◌∙◌, arith}
use Rattle.quotients.proofs.Shifts.{up_none, up_fits, up_over, up_far}
use Rattle.quotients.proofs.scale_up.Goals as goal
use Rattle.quotients.proofs.scale_up.Goals.{else-s-lt-PLACES-via-then-s-lt-PLACES+else-x-s}
use Rattle.quotients.proofs.scale_up.Goals.{else-s-lt-PLACES-via-else-s-lt-PLACES}

pub returns-then-x-eq0 : goal.returns-then-x-eq0
returns-then-x-eq0 c = up_none c.args.x c.args.s c.args.over c.if-x-eq0.true

pub returns-then-x-s : goal.returns-then-x-s
returns-then-x-s c = c.hold.ensures ∙ up_fits _ _ _ c.if-x-s.true

pub returns : goal.returns
returns c =
    elim c.else-s-lt-PLACES.branch [
      | else-s-lt-PLACES-via-then-s-lt-PLACES+else-x-s w ↦ up_over _ _ _ (omega arith) w.if-x-s.false
      | else-s-lt-PLACES-via-else-s-lt-PLACES w ↦
          up_far _ _ _ (omega arith) (omega arith) w.if-s-lt-PLACES.false
    ]
