-- `read_currents` finds the transistor's place, and reads what is held there.
use Rattle.std.proofs.Common.{◌≡◌, ◌<◌, ap, ◌∙◌, ℕ, eqb, Some}
use mir.Syntax.{w64}
use mir.ValLaws.{to_z-of_z}
use Rattle.given.specs.Arguments.{issue_of}
use Rattle.places.specs.inner.Parts.{found}
use Rattle.places.specs.inner.Flat.{first_at, number_place}
use Rattle.places.specs.laws.Founds.{not_found, is_found, there_below}
use Rattle.lending.specs.OfModel.Counts.{transistors_most}
use Rattle.reading.proofs.Opens.{opens_none, opens_it}
use Rattle.reading.proofs.read_currents.Goals as goal
use Rattle.reading.proofs.read_currents.Goals.{After-place_of}

-- where the number that was given is looked for
looked : (c : After-place_of) →
    found c.place_of.result ≡ number_place transistors_most (issue_of c.args.transistor) c.args.issues.now
looked c =
    c.place_of.ensures
    ∙ ap (λ (m : ℕ). number_place transistors_most m c.args.issues.now)
    (c.issue_of-n.ensures ∙ ap issue_of (to_z-of_z w64 c.args.transistor c.ranges.transistor))

-- a place that was found is one of the board's
below : (c : After-place_of) {i : ℕ} → c.place_of.result ≡ Some i → i < transistors_most
below c e =
    let n = c.issue_of-n.result in
    there_below transistors_most (first_at transistors_most n c.args.issues.now) (eqb n 0) c.place_of.ensures e

pub returns-in_default : goal.returns-in_default
returns-in_default c =
    let e = looked (goal.at.returns-in_default c).After-place_of in
    λ b l m. opens_none b c.args.transistor l (not_found e c.in_default.is)

pub currents_at-requires : goal.currents_at-requires
currents_at-requires c = below (goal.at.currents_at-requires c).After-place_of c.in-Some.is

pub returns : goal.returns
returns c =
    let at = (goal.at.returns c).After-place_of in
    λ b l m. opens_it b c.args.transistor l _ (is_found (looked at) c.in-Some.is) (below at c.in-Some.is) m
    c.currents_at.ensures
