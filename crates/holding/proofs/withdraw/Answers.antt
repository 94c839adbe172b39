-- `withdraw` empties the place of a card on which no transistor stands.
use Rattle.std.proofs.Common.{◌≡◌, sym, ap, ◌∙◌, eqb}
use mir.Syntax.{w64}
use mir.ValLaws.{to_z-of_z}
use Rattle.given.specs.Arguments.{issue_of}
use Rattle.places.specs.Counts.{cards_most}
use Rattle.places.specs.inner.Flat.{first_at}
use Rattle.places.specs.laws.Founds.{not_found, is_found, there_below}
use Rattle.holding.proofs.Cards.{lent_unknown, lent_in_use, lent_withdraws}
use Rattle.holding.proofs.withdraw.Goals as goal
use Rattle.holding.proofs.withdraw.Goals.{After-issue_of-n}

number : (c : After-issue_of-n) → c.issue_of-n.result ≡ issue_of c.args.card
number c = c.issue_of-n.ensures ∙ ap issue_of (to_z-of_z w64 c.args.card c.ranges.card)

pub returns-in_default : goal.returns-in_default
returns-in_default c =
    let n = number (goal.at.returns-in_default c).After-issue_of-n in
    λ b l q r. lent_unknown l q r _ n (not_found c.place_of.ensures c.in_default.is)

pub returns-then-any_on : goal.returns-then-any_on
returns-then-any_on c =
    let n = number (goal.at.returns-then-any_on c).After-issue_of-n in
    λ b l q r. lent_in_use l q r _ n (is_found c.place_of.ensures c.in-Some.is) (sym c.any_on.ensures ∙ c.if-any_on.true)

pub hold-requires : goal.hold-requires
hold-requires c =
    let n = c.issue_of-n.result in
    there_below cards_most (first_at cards_most n c.args.held.now) (eqb n 0) c.place_of.ensures c.in-Some.is

pub returns : goal.returns
returns c =
    let n = number (goal.at.returns c).After-issue_of-n in
    λ b l q r. lent_withdraws l q r _ n (is_found c.place_of.ensures c.in-Some.is)
    (sym c.any_on.ensures ∙ c.if-any_on.false) c.no_ready-none.ensures c.hold.ensures
