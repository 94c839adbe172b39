-- The exponent's field says whether the word is a finite number's.
use Rattle.float.proofs.Words.{is_nothing, is_real, no_nan_bits}
use Rattle.float.proofs.read.Goals as goal

pub float_from_bits-result : goal.float_from_bits-result
float_from_bits-result c = no_nan_bits c.args.w c.if-w-eq-NO_NUMBER.false

pub returns-then-w-eq-NO_NUMBER : goal.returns-then-w-eq-NO_NUMBER
returns-then-w-eq-NO_NUMBER c = rw (is_nothing c.args.w c.if-w-eq-NO_NUMBER.true)

pub returns-else-w-eq-NO_NUMBER : goal.returns-else-w-eq-NO_NUMBER
returns-else-w-eq-NO_NUMBER c = rw (is_real c.args.w c.if-w-eq-NO_NUMBER.false)
