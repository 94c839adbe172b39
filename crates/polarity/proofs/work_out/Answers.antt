-- `polarity::work_out` meets its contract: the rows see the voltages turned over, and their ticks are turned over.
use Rattle.std.proofs.Common.{◌≡◌, sym, ap, ◌∙◌, map, Ok, Err, rules}
use Rattle.volts.specs.Volts.{given_back}
use Rattle.polarity.specs.Polarity.{turned_outcome, outcome_of}
use Rattle.polarity.proofs.Turned.{asked_turned, turnable, outcome_turned}
use Rattle.polarity.proofs.work_out.Goals as goal
use Rattle.polarity.proofs.work_out.Goals.{After-work_out, After-from_residual}

pub work_out-requires : goal.work_out-requires
work_out-requires c = asked_turned c.requires c.turn_volts-seen.ensures

worked : (c : After-work_out) →
    turned_outcome c.args.r.card.pnp c.work_out.result ≡ outcome_of c.args.r.card (map given_back c.args.v.now)
worked c = outcome_turned c.args.r.card c.requires.near c.turn_volts-seen.ensures c.work_out.ensures

refused : (c : After-from_residual) → c.from_residual.result ≡ Err c.in_err-ticks.field-0.0
refused c = search rules

pub returns-in_err-ticks : goal.returns-in_err-ticks
returns-in_err-ticks c =
    refused (goal.at.returns-in_err-ticks c).After-from_residual
    ∙ sym (ap (turned_outcome c.args.r.card.pnp) c.in_err-ticks.was)
    ∙ worked (goal.at.returns-in_err-ticks c).After-work_out

pub turn_ticks-requires : goal.turn_ticks-requires
turn_ticks-requires c = turnable _ _ (sym c.work_out.ensures ∙ c.in_ok-ticks.was)

pub returns : goal.returns
returns c =
    ap Ok c.turn_ticks.ensures
    ∙ sym (ap (turned_outcome c.args.r.card.pnp) c.in_ok-ticks.was)
    ∙ worked (goal.at.returns c).After-work_out
