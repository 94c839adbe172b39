-- `branch::currents` meets its contract: what loading refuses, or the reply for the card.
use Rattle.std.proofs.Common.{◌≡◌, Err, rules}
use Rattle.branch.proofs.Replying.{is_worked, replies_refused, replies_card}
use Rattle.branch.proofs.currents.Goals as goal
use Rattle.branch.proofs.currents.Goals.{After-from_residual}

refused : (c : After-from_residual) → c.from_residual.result ≡ Err c.in_err-judge.field-0.0
refused c = search rules

pub returns-in_err-judge : goal.returns-in_err-judge
returns-in_err-judge c = replies_refused _ c.judge.ensures _ c.in_err-judge.was (refused c)

pub card_currents-requires : goal.card_currents-requires
card_currents-requires c = is_worked _ c.judge.ensures c.in_ok-judge.was

pub returns : goal.returns
returns c = replies_card _ c.judge.ensures _ c.in_ok-judge.was c.card_currents.ensures
