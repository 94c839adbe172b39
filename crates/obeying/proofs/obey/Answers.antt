-- By whom the command asks.
use mathlib.Core.Path.{sym, ◌∙◌}
use borrow.Author.Rules.{rules}
use Rattle.obeying.proofs.Obeys.{obeys_call, obeys_who, obeys_sheet, obeys_poke, obeys_apart}
use Rattle.obeying.proofs.obey.Goals as goal

pub returns-in-Board-clause-obeys : goal.returns-in-Board-clause-obeys
returns-in-Board-clause-obeys c =
    let a = c.args in
    obeys_call a.board a.volts.now a.totals.now a.held.now a.pokes a.c a.line.now a.spelled.now
    (sym c.asked_by.ensures ∙ c.in-Board.is) c.held.ensures c.make.ensures.calls

pub returns-in-Who-clause-obeys : goal.returns-in-Who-clause-obeys
returns-in-Who-clause-obeys c =
    let a = c.args in
    obeys_who a.board a.volts.now a.totals.now a.held.now a.pokes a.c a.line.now a.spelled.now
    (sym c.asked_by.ensures ∙ c.in-Who.is) (search rules) c.list_node.ensures

pub returns-in-Sheet-clause-obeys : goal.returns-in-Sheet-clause-obeys
returns-in-Sheet-clause-obeys c =
    let a = c.args in
    obeys_sheet a.board a.volts.now a.totals.now a.held.now a.pokes a.c a.line.now a.spelled.now
    (sym c.asked_by.ensures ∙ c.in-Sheet.is) c.put_sheet.ensures

pub returns-in-Slices-clause-obeys : goal.returns-in-Slices-clause-obeys
returns-in-Slices-clause-obeys c =
    let a = c.args in
    let p = c.poke.ensures in
    obeys_poke a.board a.volts.now a.totals.now a.held.now a.pokes a.c a.line.now a.spelled.now
    (sym c.asked_by.ensures ∙ c.in-Slices.is) (p.volts_after, (p.totals_after, p.writes))

pub returns-in-Apart-clause-obeys : goal.returns-in-Apart-clause-obeys
returns-in-Apart-clause-obeys c =
    let a = c.args in
    obeys_apart a.board a.volts.now a.totals.now a.held.now a.pokes a.c a.line.now a.spelled.now
    (sym c.asked_by.ensures ∙ c.in-Apart.is) c.obey_apart.ensures
