-- `place` turns away slices, asks for the way, works the currents and judges the totals with them, and unless they
-- overload or a total would leave 64 bits writes the totals and the transistor and joins the sets of its nodes.
use mathlib.Core.Path.{◌≡◌, refl, ap, ◌∙◌}
use mathlib.Core.Bool.{Bool, false}
use mathlib.Core.List.{map}
use Prim.Native.Nat.{ℕ, ◌≤◌, ◌<◌}
use native.Mathlib.Omega.{arith}
use lib.Dec.{leb}
use lib.ListN.{length}
use borrow.Author.Rules.{rules}
use mir.Syntax.{w64}
use mir.ValLaws.{to_z-of_z}
use Rattle.std.proofs.lemmas.Result.{err_from_is_err_and}
use Rattle.volts.specs.Volts.{kept_as}
use Rattle.terms.specs.Rows.{roles}
use Rattle.terms.specs.Looked.{looked_at}
use Rattle.given.specs.Arguments.{issue_of, issues_most, used_up, wide_by}
use Rattle.slices.specs.Slices.{off_slices}
use Rattle.slices.proofs.Keeping.{not_kept, kept_so}
use Rattle.places.specs.inner.Flat.{free_place, number_place, ties_at, wide_at}
use Rattle.placing.specs.declared.Spot.{Spot}
use Rattle.placing.specs.inner.Placing.{placing, way_of}
use Rattle.std.specs.Prelude.{Ok}
use Rattle.lending.specs.OfModel.Counts.{cards_most, transistors_most}
use Rattle.seating.proofs.Lent.{lent_off, lent_stops, lent_free, lent_number, lent_card, lent_enters, lent_works}
use Rattle.seating.proofs.Lent.{lent_gives, lent_over, lent_near, lent_leaves_64, lent_places}
use Rattle.seating.proofs.place.Goals as goal
use Rattle.seating.proofs.place.Goals.{After-may_place}

-- what the test of the slices has shown
good : (c : After-may_place) → off_slices c.args.volts.now c.args.totals.now ≡ false
good c = (kept_so c.args.volts.now c.args.totals.now c.keep_slices.ensures c.in-Some.is).0

-- the nodes that the card looks at, and how many they are
long : (c : After-may_place) → length c.looked_at-seen.result ≡ roles
long c = search rules

number : (c : After-may_place) → c.issue_of-n.result ≡ issue_of c.args.card
number c = c.issue_of-n.ensures ∙ ap issue_of (to_z-of_z w64 c.args.card c.ranges.card)

-- they are the definition's, by the arrays that are lent
seen_is : (c : After-may_place) →
    c.looked_at-seen.result ≡ looked_at (wide_by (wide_at c.args.switches.now)
    (number_place cards_most (issue_of c.args.card) c.args.held.now)) c.args.roles
seen_is c =
    c.looked_at-seen.ensures
    ∙ ap (λ (w : Bool). looked_at w c.args.roles)
    (c.is_wide-wide.ensures
    ∙ ap (λ (n : ℕ). wide_by (wide_at c.args.switches.now) (number_place cards_most n c.args.held.now)) (number c))

-- the way, by the caller's own numbers
way_is : (c : After-may_place) →
    c.may_place.result ≡ way_of (free_place c.args.issues.now)
    (placing (number_place cards_most (issue_of c.args.card) c.args.held.now)
    (ties_at c.args.switches.now) c.nodes_of-on.result
    (leb transistors_most (free_place c.args.issues.now)) (used_up c.args.next.now))
way_is c =
    c.may_place.ensures
    ∙ ap
    (λ (n : ℕ). way_of (free_place c.args.issues.now)
    (placing (number_place cards_most n c.args.held.now)
    (ties_at c.args.switches.now) c.nodes_of-on.result
    (leb transistors_most (free_place c.args.issues.now)) (used_up c.args.next.now)))
    (number c)

-- the kept voltages are those of the slice
kept_are : (c : After-may_place) → c.in-Some.kept ≡ map kept_as c.args.volts.now
kept_are c = (kept_so c.args.volts.now c.args.totals.now c.keep_slices.ensures c.in-Some.is).1

-- the places of the transistor to be and of the card, and its number, are in range
free_there : (c : After-may_place) {s : Spot} → c.may_place.result ≡ Ok s → s.free < transistors_most
free_there c e =
    lent_free c.requires.2 c.requires.1 c.args.volts.now c.args.totals.now c.args.card c.args.roles (good c) (seen_is c)
    (long c) c.nodes_of-on.ensures (way_is c) e

card_there : (c : After-may_place) {s : Spot} → c.may_place.result ≡ Ok s → s.card < cards_most
card_there c e =
    lent_card c.requires.2 c.requires.1 c.args.volts.now c.args.totals.now c.args.card c.args.roles (good c) (seen_is c)
    (long c) c.nodes_of-on.ensures (way_is c) e

number_there : (c : After-may_place) {s : Spot} → c.may_place.result ≡ Ok s →
    c.args.next.now ≤ issues_most
number_there c e =
    lent_number c.requires.2 c.requires.1 c.args.volts.now c.args.totals.now c.args.card c.args.roles (good c) (seen_is c)
    (long c) c.nodes_of-on.ensures (way_is c) e

pub returns-in_default : goal.returns-in_default
returns-in_default c =
    λ r k l. lent_off l k c.args.volts.now c.args.totals.now c.args.card c.args.roles
    (not_kept c.args.volts.now c.args.totals.now c.keep_slices.ensures c.in_default.is)

pub work-requires : goal.work-requires
work-requires c =
    let m = (goal.at.work-requires c).After-may_place in
    lent_works c.requires.2 c.requires.1 c.args.volts.now c.args.totals.now c.args.card c.args.roles (good m) (seen_is m)
    (long m) c.nodes_of-on.ensures (way_is m) c.in_ok-spot.was (kept_are m) _ c.table-table.ensures

pub returns-in-Err : goal.returns-in-Err
returns-in-Err c =
    let m = (goal.at.returns-in-Err c).After-may_place in
    λ r k l.
    let h =
    lent_over l k c.args.volts.now c.args.totals.now c.args.card c.args.roles (good m) (seen_is m) (long m)
    c.nodes_of-on.ensures (way_is m) c.in_ok-spot.was (kept_are m) (rw c.in-Err.is at c.work.ensures)
    refl in
    search (rules, h)

pub put_in-requires : goal.put_in-requires
put_in-requires c =
    let m = (goal.at.put_in-requires c).After-may_place in
    lent_gives c.requires.2 c.requires.1 c.args.volts.now c.args.totals.now c.args.card c.args.roles (good m) (seen_is m)
    (long m) c.nodes_of-on.ensures (way_is m) c.in_ok-spot.was (kept_are m) (rw c.in-Ok.is at c.work.ensures)

pub stand_in-stood-requires-clause-near : goal.stand_in-stood-requires-clause-near
stand_in-stood-requires-clause-near c =
    let m = (goal.at.stand_in-stood-requires-clause-near c).After-may_place in
    λ f. lent_near c.requires.2 c.requires.1 c.args.volts.now c.args.totals.now c.args.card c.args.roles (good m)
    (seen_is m) (long m) c.nodes_of-on.ensures (way_is m) c.in_ok-spot.was (kept_are m) (rw c.in-Ok.is at c.work.ensures)
    refl c.put_in.ensures

pub returns-in_err-stood : goal.returns-in_err-stood
returns-in_err-stood c =
    let m = (goal.at.returns-in_err-stood c).After-may_place in
    let q = err_from_is_err_and c.from_residual-in_err-stood.result c.from_residual-in_err-stood.ensures.1 in
    λ r k l. rw (q.1, q.2)
    (lent_leaves_64 l k c.args.volts.now c.args.totals.now c.args.card c.args.roles (good m) (seen_is m) (long m)
    c.nodes_of-on.ensures (way_is m) c.in_ok-spot.was (kept_are m) (rw c.in-Ok.is at c.work.ensures)
    refl c.put_in.ensures c.stand_in-stood.ensures c.in_err-stood.was)

pub offset_bounds-issues-free : goal.offset_bounds-issues-free
offset_bounds-issues-free c =
    let h = free_there (goal.at.offset_bounds-issues-free c).After-may_place c.in_ok-spot.was in omega arith

pub bounds-issues-free : goal.bounds-issues-free
bounds-issues-free c = free_there (goal.at.bounds-issues-free c).After-may_place c.in_ok-spot.was

pub offset_bounds-held-at : goal.offset_bounds-held-at
offset_bounds-held-at c =
    let h = card_there (goal.at.offset_bounds-held-at c).After-may_place c.in_ok-spot.was in omega arith

pub bounds-held-at : goal.bounds-held-at
bounds-held-at c = card_there (goal.at.bounds-held-at c).After-may_place c.in_ok-spot.was

pub offset_bounds-cards-free : goal.offset_bounds-cards-free
offset_bounds-cards-free c =
    let h = free_there (goal.at.offset_bounds-cards-free c).After-may_place c.in_ok-spot.was in omega arith

pub bounds-cards-free : goal.bounds-cards-free
bounds-cards-free c = free_there (goal.at.bounds-cards-free c).After-may_place c.in_ok-spot.was

pub overflow_cast-seats : goal.overflow_cast-seats
overflow_cast-seats c =
    let h = card_there (goal.at.overflow_cast-seats c).After-may_place c.in_ok-spot.was in omega arith

pub bounds-seats-free : goal.bounds-seats-free
bounds-seats-free c = free_there (goal.at.bounds-seats-free c).After-may_place c.in_ok-spot.was

pub put_nodes-requires : goal.put_nodes-requires
put_nodes-requires c = free_there (goal.at.put_nodes-requires c).After-may_place c.in_ok-spot.was

pub join-requires : goal.join-requires
join-requires c =
    let m = (goal.at.join-requires c).After-may_place in
    lent_enters c.requires.2 c.requires.1 c.args.volts.now c.args.totals.now c.args.card c.args.roles (good m) (seen_is m)
    (long m) c.nodes_of-on.ensures (way_is m) c.in_ok-spot.was

pub put_currents-requires : goal.put_currents-requires
put_currents-requires c = free_there (goal.at.put_currents-requires c).After-may_place c.in_ok-spot.was

pub overflow_add-next : goal.overflow_add-next
overflow_add-next c =
    let h = number_there (goal.at.overflow_add-next c).After-may_place c.in_ok-spot.was in omega arith

pub returns-in_err-spot : goal.returns-in_err-spot
returns-in_err-spot c =
    let m = (goal.at.returns-in_err-spot c).After-may_place in
    let q = err_from_is_err_and c.from_residual.result c.from_residual.ensures.1 in
    λ r k l. rw (q.1, q.2)
    (lent_stops l k c.args.volts.now c.args.totals.now c.args.card c.args.roles (good m) (seen_is m) (long m)
    c.nodes_of-on.ensures (way_is m) _ c.in_err-spot.was)

pub returns : goal.returns
returns c =
    let m = (goal.at.returns c).After-may_place in
    λ r k l. lent_places l k c.args.volts.now c.args.totals.now c.args.card c.args.roles (good m) (seen_is m) (long m)
    c.nodes_of-on.ensures (way_is m) c.in_ok-spot.was (kept_are m) (rw c.in-Ok.is at c.work.ensures)
    refl c.put_in.ensures c.stand_in-stood.ensures c.in_ok-stood.was
    c.put_nodes.ensures c.join.ensures c.put_currents.ensures
