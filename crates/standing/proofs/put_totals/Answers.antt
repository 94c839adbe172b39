-- `put_totals` has written the first k totals.
use mathlib.Core.Path.{◌≡◌, sym, ◌∙◌}
use native.Mathlib.Omega.{arith}
use lib.ListN.{get_or}
use lib.IntN.{pos}
use lib.Seq.{ext_get_or}
use borrow.Author.Rules.{rules}
use Rattle.whole.specs.laws.Machine.{held}
use Rattle.rows.specs.laws.Filled.{filled_none, filled_more}
use Rattle.standing.proofs.put_totals.Goals as goal

pub loop-k-init : goal.loop-k-init
loop-k-init c = filled_none c.requires.totals_len

pub loop-k-preserved : goal.loop-k-preserved
loop-k-preserved c =
    let l = c.before.before in
    let z = get_or l.args.next.now l.loop-k.k (pos 0) in
    let e : held z ≡ z = search rules in
    filled_more _ (omega arith) e l.loop-k.invariant

pub returns : goal.returns
returns c =
    let f = c.loop-k.invariant in
    let e = f.long in
    ext_get_or (pos 0) _ _ (e ∙ sym c.requires.next_len) (λ n h. f.at n (omega arith))
