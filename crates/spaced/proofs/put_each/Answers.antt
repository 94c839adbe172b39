use Rattle.std.proofs.Common.{subst}
use Rattle.page.proofs.Pages.{as_bytes, then}
use Rattle.spaced.proofs.Written.{spaced_all, spaced_on, spaced_end}
use Rattle.spaced.proofs.put_each.Goals as goal

pub loop-x-init : goal.loop-x-init
loop-x-init g c digits spells = spaced_all

pub loop-x-preserved : goal.loop-x-preserved
loop-x-preserved g c digits spells =
    let x = c.x-item.result in
    let t = c.text.result in
    let made = subst (λ (y : g.row.T.Denot). g.F.Fn.post c.args.text (y, tt) t) c.x-item.is c.text.ensures in
    spaced_on (c.loop-x.invariant digits spells) x c.loop-x-test.true
    (then c.put.ensures (as_bytes (spells c.loop-x.x-index x t c.loop-x-test.true made) c.put_text.ensures))

pub returns : goal.returns
returns g c digits spells = spaced_end (c.loop-x.invariant digits spells) c.loop-x-test.false c.put-2.ensures
