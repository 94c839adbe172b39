-- `branch::answering::answer` meets its contract: each arm gives the verdict of its kind of outcome.
use Rattle.std.proofs.Common.{◌≡◌, sym, ap, subst, ◌∙◌, map, Err, rules}
use Rattle.volts.specs.Volts.{given_back}
use Rattle.card.specs.declared.WorkedCard.{WorkedCard}
use Rattle.terms.specs.declared.Ready.{Ready}
use Rattle.polarity.specs.Polarity.{outcome_of}
use Rattle.terms.specs.inner.Ready.{IsReady}
use Rattle.terms.proofs.Laws.{ready_card, ready_made}
use Rattle.branch.proofs.Replying.{at_within, at_over}
use Rattle.branch.proofs.answering.answer.Goals as goal
use Rattle.branch.proofs.answering.answer.Goals.{After-work_out}

pub work_out-requires : goal.work_out-requires
work_out-requires c =
    record {
      table_is = search rules;
      ready = subst IsReady (sym c.prepare.ensures) (ready_made c.args.c c.requires.0);
      long = search rules;
      near = c.requires.1;
    }

worked : (c : After-work_out) → c.work_out.result ≡ outcome_of c.args.c (map given_back c.args.v)
worked c =
    let same = ap (λ (r : Ready). r.card) c.prepare.ensures ∙ ready_card c.args.c in
    c.work_out.ensures ∙ ap (λ (x : WorkedCard). outcome_of x (map given_back c.args.v)) same

pub returns-in-Ok : goal.returns-in-Ok
returns-in-Ok c = at_within (worked (goal.at.returns-in-Ok c).After-work_out) c.in-Ok.is

pub returns-in-Err-Ticks : goal.returns-in-Err-Ticks
returns-in-Err-Ticks c =
    let p = c.in-Err-Ticks in
    at_over (worked (goal.at.returns-in-Err-Ticks c).After-work_out) (p.is ∙ ap Err p.field-0-is)

pub returns-in-Err-Injection : goal.returns-in-Err-Injection
returns-in-Err-Injection c =
    let p = c.in-Err-Injection in
    at_over (worked (goal.at.returns-in-Err-Injection c).After-work_out) (p.is ∙ ap Err p.field-0-is)
