-- What placing leaves: of a list that is one, and of one that is none.
use mathlib.Core.Path.{sym, ◌∙◌}
use mir.Syntax.{w64}
use mir.ValLaws.{to_z-of_z}
use Rattle.host_changes.specs.OfBoard.Promise.{state_in}
use Rattle.host_placing.proofs.Laws.{places, places_none}
use Rattle.host_placing.proofs.place.Goals as goal

pub returns-then-is_list : goal.returns-then-is_list
returns-then-is_list c =
    let a = c.args in
    let p = c.place-placed.ensures in
    let t = c.tell_placed.ensures in
    places (state_in a.board a.volts.now a.totals.now) a.card a.nodes.now (sym c.is_list.ensures ∙ c.if-is_list.true)
    (to_z-of_z w64 a.card c.ranges.card) c.roles_of.ensures (p.value, (p.reached, p.totals_after))
    (t.value, (t.number_after, (t.who_after, t.branch_after)))

pub returns : goal.returns
returns c =
    let a = c.args in
    places_none a.board a.volts.now a.totals.now a.card a.nodes.now a.issue.now a.who.now a.branch.now c.requires
    (sym c.is_list.ensures ∙ c.if-is_list.false)
