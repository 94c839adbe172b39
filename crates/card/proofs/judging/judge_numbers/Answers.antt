-- `card::judging::judge_numbers` meets its contract: the first test that fails stops it; else it answers as `reach`.
use Rattle.std.proofs.Common.{◌≡◌, sym, ap, ◌∙◌, Err, rules}
use Rattle.refusal.specs.Order.{tells}
use Rattle.card.specs.Judge.{told_judged}
use Rattle.card.proofs.Chain.{goes_on, stops}
use Rattle.card.proofs.judging.judge_numbers.Goals as goal
use Rattle.card.proofs.judging.judge_numbers.Goals.{After-from_residual}

refused : (c : After-from_residual) → c.from_residual.result ≡ Err c.in_err-first_wrong.field-0.0
refused c = search rules

pub returns-in_err-first_wrong : goal.returns-in_err-first_wrong
returns-in_err-first_wrong c =
    ap told_judged (refused c)
    ∙ sym (ap tells (stops c.args.spares c.args.x.now c.first_wrong.ensures _ c.in_err-first_wrong.was))

pub returns : goal.returns
returns c =
    c.reach.ensures
    ∙ sym (ap tells (goes_on c.args.spares c.args.x.now c.first_wrong.ensures c.in_ok-first_wrong.was).0)
