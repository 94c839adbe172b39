use Rattle.std.proofs.Common.{rules}
use Rattle.sheet.proofs.ByteLoops.{all_left, append_on, append_end}
use Rattle.sheet.proofs.Text.append.Goals as goal

pub loop-b-init : goal.loop-b-init
loop-b-init c = all_left

pub loop-b-preserved : goal.loop-b-preserved
loop-b-preserved c = append_on c.args.s.now c.loop-b.b-index c.loop-b.invariant (search rules) c.push.ensures

pub returns : goal.returns
returns c = append_end c.args.s.now c.loop-b.b-index c.loop-b.invariant (search rules)
