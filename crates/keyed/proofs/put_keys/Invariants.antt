use Rattle.keyed.specs.inner.Parts.{KeysPut}
use Rattle.keyed.proofs.put_keys.Given as goal

-- the first k keys are put
abbrev pub invariant-loop-k : goal.invariant-loop-k
invariant-loop-k l = KeysPut l.rec l.fn.room l.from l.room l.k l.at
