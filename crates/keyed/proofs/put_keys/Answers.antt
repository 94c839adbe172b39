-- The keys before the one at hand were put, and each has a form.
use Rattle.std.proofs.Common.{arith}
use Rattle.keyed.proofs.Keys.{keys_begun, keys_more, keys_fail}
use Rattle.keyed.proofs.put_keys.Goals as goal

pub loop-k-init : goal.loop-k-init
loop-k-init c = keys_begun _ _ _

pub returns-in_err-at : goal.returns-in_err-at
returns-in_err-at c =
    keys_fail _ c.loop-k.invariant c.u64_at-w.ensures.value (omega arith) c.in_err-at.ensures c.from_residual.ensures

pub loop-k-preserved : goal.loop-k-preserved
loop-k-preserved c = keys_more c.loop-k.invariant c.u64_at-w.ensures.value c.in_ok-at.ensures
