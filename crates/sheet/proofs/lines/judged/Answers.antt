-- `lines::judged` meets its contract: 0 for a card, and else its refusal's number.
use Rattle.std.proofs.Common.{sym, ap, ◌∙◌}
use Rattle.refusal.specs.Order.{number_told}
use Rattle.card.specs.Judge.{judge_of}
use Rattle.card_laws.specs.laws.Unique.{judged_card, judged_refused}
use Rattle.sheet.proofs.lines.judged.Goals as goal

pub returns-in-Ok : goal.returns-in-Ok
returns-in-Ok c = sym (ap number_told (judged_card (judge_of c.args.bytes.now) c.judge.ensures c.in-Ok.is))

pub returns-in-Err : goal.returns-in-Err
returns-in-Err c =
    c.number.ensures ∙ sym (ap number_told (judged_refused (judge_of c.args.bytes.now) c.judge.ensures c.in-Err.is))
