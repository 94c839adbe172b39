-- Nothing but spaces was passed.
use Rattle.std.proofs.Common.{refl, ◌∙◌, arith}
use Rattle.trimming.proofs.Ends.{none_first, first_kept, first_passed}
use Rattle.trimming.proofs.from_first.Goals as goal

pub loop-t-init : goal.loop-t-init
loop-t-init c = record { so_far = refl }

pub returns-then-first-ne32 : goal.returns-then-first-ne32
returns-then-first-ne32 c = first_kept c.loop-t.t.now (omega arith) c.if-first-ne32.true ∙ c.loop-t.invariant.so_far

pub loop-t-preserved : goal.loop-t-preserved
loop-t-preserved c = record {
  so_far = first_passed c.loop-t.t.now (omega arith) c.if-first-ne32.false ∙ c.loop-t.invariant.so_far;
}

pub returns : goal.returns
returns c = none_first c.loop-t.t.now (omega arith) ∙ c.loop-t.invariant.so_far
