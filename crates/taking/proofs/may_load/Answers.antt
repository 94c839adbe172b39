-- `may_load` makes loading's tests in their order.
use Rattle.std.proofs.Common.{◌≡◌, sym, ◌∙◌, Err, rules}
use Rattle.refusal.specs.Order.{yes}
use Rattle.card.specs.Judge.{judge_of}
use Rattle.places.specs.Counts.{cards_most}
use Rattle.places.specs.inner.Flat.{first_at}
use Rattle.places.specs.laws.Founds.{none_first, first_found}
use Rattle.card_laws.specs.laws.Unique.{judged_card, judged_refused}
use Rattle.taking.proofs.Ways.{stop_malformed, stop_bad_name, stop_judged, stop_no_room, stop_used_up, goes}
use Rattle.taking.proofs.may_load.Goals as goal
use Rattle.taking.proofs.may_load.Goals.{After-from_residual, In_ok-worked}

pub returns-then-not-right_length : goal.returns-then-not-right_length
returns-then-not-right_length c = stop_malformed _ _ _ _ (sym c.right_length.ensures ∙ c.if-not-right_length.true)

pub returns-then-not-is_asked : goal.returns-then-not-is_asked
returns-then-not-is_asked c =
    stop_bad_name _ _ _ _ (sym c.right_length.ensures ∙ c.if-not-right_length.false)
    (sym c.is_asked.ensures ∙ c.if-not-is_asked.true)

refused : (c : After-from_residual) → c.from_residual.result ≡ Err c.in_err-worked.field-0.0
refused c = search rules

pub returns-in_err-worked : goal.returns-in_err-worked
returns-in_err-worked c =
    refused c
    ∙ stop_judged _ _ _ _ (sym c.right_length.ensures ∙ c.if-not-right_length.false)
    (sym c.is_asked.ensures ∙ c.if-not-is_asked.false) _ (judged_refused _ c.judge.ensures c.in_err-worked.was)

card : (c : In_ok-worked) → judge_of c.args.bytes.now ≡ yes c.in_ok-worked.worked
card c = judged_card _ c.judge.ensures c.in_ok-worked.was

pub returns-in_default : goal.returns-in_default
returns-in_default c =
    stop_no_room _ _ _ _ (sym c.right_length.ensures ∙ c.if-not-right_length.false)
    (sym c.is_asked.ensures ∙ c.if-not-is_asked.false) _ (card (goal.at.returns-in_default c).In_ok-worked)
    (none_first cards_most (first_at cards_most 0 c.args.held.now) c.find.ensures c.in_default.is)

pub returns-then-next-gt-ISSUES : goal.returns-then-next-gt-ISSUES
returns-then-next-gt-ISSUES c =
    let free = first_found cards_most (first_at cards_most 0 c.args.held.now) c.find.ensures c.in-Some.is in
    stop_used_up _ _ _ _ (sym c.right_length.ensures ∙ c.if-not-right_length.false)
    (sym c.is_asked.ensures ∙ c.if-not-is_asked.false) _
    (card (goal.at.returns-then-next-gt-ISSUES c).In_ok-worked) _ free.0 free.1 c.if-next-gt-ISSUES.true

pub returns : goal.returns
returns c =
    let free = first_found cards_most (first_at cards_most 0 c.args.held.now) c.find.ensures c.in-Some.is in
    goes _ _ _ _ (sym c.right_length.ensures ∙ c.if-not-right_length.false)
    (sym c.is_asked.ensures ∙ c.if-not-is_asked.false) _ (card (goal.at.returns c).In_ok-worked) _
    free.0 free.1 c.if-next-gt-ISSUES.false
