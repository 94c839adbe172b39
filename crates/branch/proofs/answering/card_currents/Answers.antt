-- `branch::answering::card_currents` meets its contract: the reply at the kept voltages, or 13 where one is outside.
use Rattle.std.proofs.Common.{◌≡◌, ap, ◌∙◌, List, Some, rules}
use Rattle.std.specs.Prelude.{ℤ}
use Rattle.polarity.specs.Polarity.{outcome_of}
use Rattle.branch.specs.Currents.{at_outcome}
use Rattle.branch.specs.inner.Replied.{all_kept}
use Rattle.branch.proofs.Kept.{Back, kept_back}
use Rattle.branch.proofs.answering.card_currents.Goals as goal
use Rattle.branch.proofs.answering.card_currents.Goals.{In_ok-kept}

some : (c : In_ok-kept) → all_kept c.looked_at.result ≡ Some c.in_ok-kept.kept
some c = search rules

back : (c : In_ok-kept) → Back c.looked_at.result c.in_ok-kept.kept
back c = kept_back c.looked_at.result (some c)

pub answer-requires : goal.answer-requires
answer-requires c = (c.requires, (back c).near)

pub returns : goal.returns
returns c =
    let b = back (goal.at.returns c).In_ok-kept in
    rw (← c.looked_at.ensures, b.on)
    (c.answer.ensures ∙ ap (λ (l : List ℤ). at_outcome (outcome_of c.args.c l)) b.back)
