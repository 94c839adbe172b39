-- Too much above the highest power, else the sum where digits are raised, shifted down.
use Rattle.std.proofs.Common.{ap, ◌∙◌, ℕ, ◌+◌, ◌-◌, ◌*◌, ◌/◌, ◌^◌}
use Rattle.reverse.proofs.Sums.{within_top, above_top}
use Rattle.reverse.proofs.summed.Goals as goal

pub returns-then-high-gt-TOP : goal.returns-then-high-gt-TOP
returns-then-high-gt-TOP c = let p = c.requires in above_top p.0 p.1 p.2 c.if-high-gt-TOP.true

pub returns : goal.returns
returns c =
    let p = c.requires in
    within_top p.0 p.1 p.2 c.if-high-gt-TOP.false
    (c.shift_down-2.ensures
    ∙ ap (λ (y : ℕ). (c.args.high.m * 2 ^ 30 + y) / 2 ^ (8232 - c.args.high.n)) c.shift_down.ensures)
