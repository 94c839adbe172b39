-- Nothing but spaces was passed.
use Rattle.std.proofs.Common.{refl, ◌∙◌, arith}
use Rattle.trimming.proofs.Ends.{none_last, last_kept, last_passed}
use Rattle.trimming.proofs.to_last.Goals as goal

pub loop-t-init : goal.loop-t-init
loop-t-init c = record { so_far = refl }

pub returns-then-last-ne32 : goal.returns-then-last-ne32
returns-then-last-ne32 c = last_kept c.loop-t.t.now (omega arith) c.if-last-ne32.true ∙ c.loop-t.invariant.so_far

pub loop-t-preserved : goal.loop-t-preserved
loop-t-preserved c = record {
  so_far = last_passed c.loop-t.t.now (omega arith) c.if-last-ne32.false ∙ c.loop-t.invariant.so_far;
}

pub returns : goal.returns
returns c = none_last c.loop-t.t.now (omega arith) ∙ c.loop-t.invariant.so_far
