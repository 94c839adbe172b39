-- At once, or by parts, and held at its limit.
use Rattle.std.proofs.Common.{◌∙◌, arith}
use Rattle.quotients.proofs.Parts.{at_once, beyond, base_within, held_parts}
use Rattle.quotients.proofs.shifted_quotient.Goals as goal

pub returns-then-n-lt-DIVISOR_MOST : goal.returns-then-n-lt-DIVISOR_MOST
returns-then-n-lt-DIVISOR_MOST c = c.hold.ensures ∙ at_once _ _ _ _ c.requires c.if-n-lt-DIVISOR_MOST.true

pub returns-then-over-s : goal.returns-then-over-s
returns-then-over-s c = beyond _ _ _ _ c.requires c.if-over-s.true

pub overflow_sub-over : goal.overflow_sub-over
overflow_sub-over c = base_within _ _ _ _ c.requires (omega arith) c.if-over-s.false

pub returns : goal.returns
returns c = held_parts _ _ _ _ c.requires (omega arith) c.if-over-s.false c.min.ensures
