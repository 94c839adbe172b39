use Rattle.std.proofs.Common.{arith}
use Rattle.roots.proofs.Bits.{begun, ended, small, squared, taken, passed}
use Rattle.roots.proofs.bitwise.Goals as goal

pub loop-k-init : goal.loop-k-init
loop-k-init c = begun c.args.x

pub overflow_add-u : goal.overflow_add-u
overflow_add-u c = omega (arith, small _ _ c.loop-k.k c.loop-k.invariant c.loop-k-test.true)

pub overflow_mul-u : goal.overflow_mul-u
overflow_mul-u c = omega (arith, squared _ _ c.loop-k.k c.loop-k.invariant c.loop-k-test.true)

pub loop-k-preserved-then-u-x : goal.loop-k-preserved-then-u-x
loop-k-preserved-then-u-x c = taken _ _ c.loop-k.k c.loop-k.invariant c.loop-k-test.true c.if-u-x.true

pub loop-k-preserved : goal.loop-k-preserved
loop-k-preserved c = passed _ _ c.loop-k.k c.loop-k.invariant c.loop-k-test.true c.if-u-x.false

pub returns : goal.returns
returns c = ended _ _ _ c.loop-k.invariant (omega arith)
