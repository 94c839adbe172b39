-- Another length, no byte that a name may hold, and zeros after those that it holds.
use Rattle.std.proofs.Common.{◌∙◌, arith}
use borrow.Author.Tests.{le-ltb}
use Rattle.name.proofs.Laws.{run_within, not_sixteen, no_mark, then_zeros}
use Rattle.name.proofs.is_well_formed.Goals as goal

pub returns-then-s-ne-LENGTH : goal.returns-then-s-ne-LENGTH
returns-then-s-ne-LENGTH c = not_sixteen c.args.s.now c.if-s-ne-LENGTH.true

pub slice_bounds-blank-count : goal.slice_bounds-blank-count
slice_bounds-blank-count c = omega (arith, c.leading-k.ensures, run_within c.args.s.now)

pub slice_bounds-blank-start : goal.slice_bounds-blank-start
slice_bounds-blank-start c = omega (arith, c.leading-k.ensures, run_within c.args.s.now)

pub returns-then-k-gt0 : goal.returns-then-k-gt0
returns-then-k-gt0 c =
    then_zeros c.args.s.now c.if-s-ne-LENGTH.false c.leading-k.ensures (λ e. omega (arith, c.if-k-gt0.true, e)) _
    c.blank.ensures

pub returns-else-k-gt0 : goal.returns-else-k-gt0
returns-else-k-gt0 c =
    le-ltb _ _ c.if-k-gt0.false
    ∙ no_mark c.args.s.now c.if-s-ne-LENGTH.false c.leading-k.ensures (omega (arith, c.if-k-gt0.false))
