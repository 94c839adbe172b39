-- `lift` turns away slices and unknown numbers, takes what the transistor holds out of the totals, and unless one would
-- leave 64 bits empties its place and leaves the sets of its nodes.
use mathlib.Core.Path.{◌≡◌, ap, ◌∙◌}
use Prim.Native.Nat.{ℕ}
use mir.Syntax.{w64}
use mir.ValLaws.{to_z-of_z}
use Rattle.std.proofs.lemmas.Result.{err_from_is_err_and}
use Rattle.given.specs.Arguments.{issue_of}
use Rattle.slices.proofs.Keeping.{slices_off, slices_on}
use Rattle.places.specs.inner.Parts.{found}
use Rattle.places.specs.inner.Flat.{number_place}
use Rattle.places.specs.laws.Founds.{not_found, is_found}
use Rattle.model.specs.Counts.{transistors_most}
use Rattle.lifting.proofs.Lent.{lift_off, lift_none, lift_puts, lift_parts, lift_near, lift_leaves_64, lift_done}
use Rattle.lifting.proofs.lift.Goals as goal
use Rattle.lifting.proofs.lift.Goals.{After-place_of}

-- where the number that was given is looked for
looked : (c : After-place_of) →
    found c.place_of.result ≡ number_place transistors_most (issue_of c.args.transistor) c.args.issues.now
looked c =
    c.place_of.ensures
    ∙ ap (λ (m : ℕ). number_place transistors_most m c.args.issues.now)
    (c.issue_of-n.ensures ∙ ap issue_of (to_z-of_z w64 c.args.transistor c.ranges.transistor))

pub returns-then-not-good_slices : goal.returns-then-not-good_slices
returns-then-not-good_slices c =
    let s = c.args in
    λ r k l. lift_off l k s.volts.now s.totals.now s.transistor
    (slices_off s.volts.now s.totals.now c.good_slices.ensures c.if-not-good_slices.true)

pub returns-in_default : goal.returns-in_default
returns-in_default c =
    let s = c.args in
    let e = looked (goal.at.returns-in_default c).After-place_of in
    λ r k l. lift_none l k s.volts.now s.totals.now s.transistor
    (slices_on s.volts.now s.totals.now c.good_slices.ensures c.if-not-good_slices.false)
    (not_found e c.in_default.is)

pub put_in-requires : goal.put_in-requires
put_in-requires c =
    let s = c.args in
    let e = looked (goal.at.put_in-requires c).After-place_of in
    let p = c.requires in
    lift_puts p.2 p.1 s.volts.now s.totals.now s.transistor
    (slices_on s.volts.now s.totals.now c.good_slices.ensures c.if-not-good_slices.false) _
    (is_found e c.in-Some.is)
    c.nodes_at-on.ensures c.currents_at-own.ensures

pub stand_in-stood-requires-clause-near : goal.stand_in-stood-requires-clause-near
stand_in-stood-requires-clause-near c =
    let s = c.args in
    let e = looked (goal.at.stand_in-stood-requires-clause-near c).After-place_of in
    let p = c.requires in
    λ f. lift_near p.2 p.1 s.volts.now s.totals.now s.transistor
    (slices_on s.volts.now s.totals.now c.good_slices.ensures c.if-not-good_slices.false) _
    (is_found e c.in-Some.is)
    c.nodes_at-on.ensures c.currents_at-own.ensures c.put_in.ensures

pub returns-in_err-stood : goal.returns-in_err-stood
returns-in_err-stood c =
    let s = c.args in
    let e = looked (goal.at.returns-in_err-stood c).After-place_of in
    let q = err_from_is_err_and c.from_residual.result c.from_residual.ensures.1 in
    λ r k l. rw (q.1, q.2)
    (lift_leaves_64 l k s.volts.now s.totals.now s.transistor
    (slices_on s.volts.now s.totals.now c.good_slices.ensures c.if-not-good_slices.false) _
    (is_found e c.in-Some.is)
    c.nodes_at-on.ensures c.currents_at-own.ensures c.put_in.ensures c.stand_in-stood.ensures c.in_err-stood.was)

pub leave-requires : goal.leave-requires
leave-requires c =
    let s = c.args in
    let e = looked (goal.at.leave-requires c).After-place_of in
    let p = c.requires in
    lift_parts p.2 p.1 s.volts.now s.totals.now s.transistor
    (slices_on s.volts.now s.totals.now c.good_slices.ensures c.if-not-good_slices.false) _
    (is_found e c.in-Some.is)
    c.nodes_at-on.ensures c.currents_at-own.ensures

pub returns : goal.returns
returns c =
    let s = c.args in
    let e = looked (goal.at.returns c).After-place_of in
    λ r k l. rw (c.put_nodes.ensures, c.leave.ensures, c.put_currents.ensures)
    (lift_done l k s.volts.now s.totals.now s.transistor
    (slices_on s.volts.now s.totals.now c.good_slices.ensures c.if-not-good_slices.false) _
    (is_found e c.in-Some.is)
    c.nodes_at-on.ensures c.currents_at-own.ensures c.put_in.ensures c.stand_in-stood.ensures c.in_ok-stood.was)
