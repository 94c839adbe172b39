-- A place hands on the roles of the line's nodes; it and a lift leave the voltages as they are.
use mathlib.Core.Path.{sym, ap, ◌∙◌}
use borrow.Author.Rules.{rules}
use Rattle.lending.specs.Lending.{Lent}
use Rattle.lending.proofs.Stays.{lift_volts_stay}
use Rattle.fetching.specs.OfBoard.Promise.{state_in, handed_as}
use Rattle.asks.specs.Numbers.{number_in}
use Rattle.asking.proofs.Laws.{placed, place_leaves}
use Rattle.asking.proofs.ask_change.Goals as goal

pub returns-in-Place-clause-value : goal.returns-in-Place-clause-value
returns-in-Place-clause-value c =
    let a = c.args in
    c.place.ensures.value
    ∙ ap handed_as
    (placed (state_in a.board a.volts.now a.totals.now) a.v a.words c.in-Place.is (search rules)
    c.nodes_in.ensures c.roles_of.ensures)

pub returns-in-Place-clause-volts_after : goal.returns-in-Place-clause-volts_after
returns-in-Place-clause-volts_after c =
    let a = c.args in place_leaves (state_in a.board a.volts.now a.totals.now) a.v a.words c.in-Place.is

pub returns-in-Place-clause-totals_after : goal.returns-in-Place-clause-totals_after
returns-in-Place-clause-totals_after c =
    let a = c.args in
    c.place.ensures.totals_after
    ∙ ap (λ (l : Lent). l.state.totals)
    (placed (state_in a.board a.volts.now a.totals.now) a.v a.words c.in-Place.is (search rules)
    c.nodes_in.ensures c.roles_of.ensures)

pub returns-in-Lift-clause-volts_after : goal.returns-in-Lift-clause-volts_after
returns-in-Lift-clause-volts_after c =
    let a = c.args in
    rw c.in-Lift.is (sym (lift_volts_stay (state_in a.board a.volts.now a.totals.now) (number_in a.v)))
