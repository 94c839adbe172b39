-- A refusal is told, and else the sheet.
use mathlib.Core.Path.{sym, ap, ◌∙◌}
use Rattle.page.proofs.Pages.{as_bytes}
use Rattle.model.specs.declared.Answer.{Answer}
use Rattle.board.specs.declared.Answered.{Answered}
use Rattle.board.specs.Promise.{state_in}
use Rattle.evening.specs.Said.{sheet_if, sheet_said}
use Rattle.evening.proofs.Laws.{sheet_taken}
use Rattle.evening.proofs.put_sheet.Goals as goal

pub returns-in-Refused : goal.returns-in-Refused
unfolding sheet_said
returns-in-Refused c =
    let s = c.args in
    let e = ap (λ (x : Answered). x.answer) c.read_node.ensures.value in
    as_bytes (ap (λ (x : Answer). sheet_if x (state_in s.board s.volts.now s.totals.now)) (sym c.in-Refused.is ∙ e))
    c.put_refused.ensures

pub returns-in_default : goal.returns-in_default
unfolding sheet_said
returns-in_default c =
    let s = c.args in
    let b = state_in s.board s.volts.now s.totals.now in
    let e = ap (λ (x : Answered). x.answer) c.read_node.ensures.value in
    as_bytes (sheet_taken b c.read_node.result.answer c.in_default.not-Refused ∙ ap (λ (x : Answer). sheet_if x b) e)
    c.put_rows.ensures
