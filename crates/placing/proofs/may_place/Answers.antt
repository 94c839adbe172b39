-- `may_place` makes placing's tests in their order.
use Rattle.std.proofs.Common.{◌≡◌, sym, ◌∙◌, false, leb}
use Rattle.totals.specs.Gives.{nodes_most}
use Rattle.given.specs.Lists.{any_of}
use Rattle.places.specs.Counts.{transistors_most}
use Rattle.places.specs.inner.Flat.{first_at, ties_at}
use Rattle.places.specs.laws.Founds.{not_found, is_found, none_first, first_found}
use Rattle.placing.specs.inner.Placing.{torn_on}
use Rattle.placing.proofs.Ways.{stop_unknown, stop_off, stop_split, stop_full, stop_used_up, goes}
use Rattle.placing.proofs.may_place.Goals as goal
use Rattle.placing.proofs.may_place.Goals.{Else-any_off, Else-is_split}

on : (c : Else-any_off) → any_of (leb nodes_most) c.args.on.now ≡ false
on c = sym c.any_off.ensures ∙ c.if-any_off.false

joined : (c : Else-is_split) → torn_on (ties_at c.args.switches.now c.in-Some.i) c.args.on.now ≡ false
joined c = sym c.is_split.ensures ∙ c.if-is_split.false

pub returns-in_default : goal.returns-in_default
returns-in_default c =
    let a = c.args in
    stop_unknown a.held.now a.switches.now a.issues.now a.next a.n a.on.now
    (not_found c.place_of.ensures c.in_default.is)

pub returns-then-any_off : goal.returns-then-any_off
returns-then-any_off c =
    let a = c.args in
    stop_off a.held.now a.switches.now a.issues.now a.next a.n a.on.now _ (is_found c.place_of.ensures c.in-Some.is)
    (sym c.any_off.ensures ∙ c.if-any_off.true)

pub returns-then-is_split : goal.returns-then-is_split
returns-then-is_split c =
    let a = c.args in
    let at = goal.at.returns-then-is_split c in
    stop_split a.held.now a.switches.now a.issues.now a.next a.n a.on.now _ (is_found c.place_of.ensures c.in-Some.is)
    (on at.Else-any_off) (sym c.is_split.ensures ∙ c.if-is_split.true)

pub returns-in_default-find : goal.returns-in_default-find
returns-in_default-find c =
    let a = c.args in
    let at = goal.at.returns-in_default-find c in
    stop_full a.held.now a.switches.now a.issues.now a.next a.n a.on.now _ (is_found c.place_of.ensures c.in-Some.is)
    (on at.Else-any_off) (joined at.Else-is_split)
    (none_first transistors_most (first_at transistors_most 0 a.issues.now) c.find.ensures c.in_default-find.is)

pub returns-then-next-gt-ISSUES : goal.returns-then-next-gt-ISSUES
returns-then-next-gt-ISSUES c =
    let a = c.args in
    let at = goal.at.returns-then-next-gt-ISSUES c in
    let free = first_found transistors_most (first_at transistors_most 0 a.issues.now) c.find.ensures c.in-Some-find.is in
    stop_used_up a.held.now a.switches.now a.issues.now a.next a.n a.on.now _ (is_found c.place_of.ensures c.in-Some.is)
    (on at.Else-any_off) (joined at.Else-is_split) (rw free.0 at free.1) c.if-next-gt-ISSUES.true

pub returns : goal.returns
returns c =
    let a = c.args in
    let at = goal.at.returns c in
    let free = first_found transistors_most (first_at transistors_most 0 a.issues.now) c.find.ensures c.in-Some-find.is in
    goes a.held.now a.switches.now a.issues.now a.next a.n a.on.now _ (is_found c.place_of.ensures c.in-Some.is)
    (on at.Else-any_off) (joined at.Else-is_split) _ free.0 free.1 c.if-next-gt-ISSUES.false
