-- `copying::store` meets its contract: each turn puts the bytes of the next word.
use Rattle.copying.proofs.BytesWritten.{store_more}
use Rattle.copying.proofs.store.Goals as goal

pub loop-i-preserved : goal.loop-i-preserved
loop-i-preserved c = store_more c.loop-i.invariant c.loop-i-test.true c.bytes.ensures c.copy.ensures
