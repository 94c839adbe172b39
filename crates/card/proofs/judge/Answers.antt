-- `card::judge` meets its contract: clipping's refusal is loading's, and its numbers, filled, go to the next tests.
use Rattle.std.proofs.Common.{◌≡◌, sym, ap, ◌∙◌, Bool, Err, rules}
use Rattle.refusal.specs.Order.{tells}
use Rattle.card.specs.Judge.{judge_numbers, told_judged}
use Rattle.missing.specs.inner.Filled.{filled_with}
use Rattle.card.proofs.After.{Went, went, stays}
use Rattle.card.proofs.judge.Goals as goal
use Rattle.card.proofs.judge.Goals.{After-from_residual, After-spares_good}

refused : (c : After-from_residual) → c.from_residual.result ≡ Err c.in_err-given.field-0.0
refused c = search rules

pub returns-in_err-given : goal.returns-in_err-given
returns-in_err-given c = ap told_judged (refused c) ∙ stays c.clip.ensures _ c.in_err-given.was

-- clipping was taken
filled : (c : After-spares_good) → Went c.args.bytes.now c.filled-numbers.result
filled c =
    went c.clip.ensures c.in_ok-given.was
    (c.filled-numbers.ensures ∙ ap (λ (b : Bool). filled_with b c.in_ok-given.field-0.numbers) c.is_wide.ensures)

pub judge_numbers-requires : goal.judge_numbers-requires
judge_numbers-requires c = (filled c).good

pub returns : goal.returns
returns c =
    c.judge_numbers.ensures
    ∙ ap (λ (b : Bool). tells (judge_numbers b c.filled-numbers.result)) c.spares_good.ensures
    ∙ ap tells (sym (filled (goal.at.returns c).After-spares_good).next)
