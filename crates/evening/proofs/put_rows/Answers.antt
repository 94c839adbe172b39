-- A row more at each turn.
use mathlib.Core.Path.{◌≡◌, sym}
use Prim.Native.Nat.{◌<◌, ◌^◌}
use native.Mathlib.Omega.{arith}
use mir.Syntax.{w64}
use mir.ValLaws.{to_z_pos}
use Rattle.page.proofs.Pages.{then, write_nothing}
use Rattle.answers.specs.Answers.{sheet_nodes}
use Rattle.board.specs.Promise.{state_in}
use Rattle.evening.specs.Said.{rows_to, rows_said}
use Rattle.evening.proofs.Laws.{row_said}
use Rattle.evening.proofs.put_rows.Goals as goal

pub loop-n-init : goal.loop-n-init
unfolding rows_to
loop-n-init c = write_nothing

pub loop-n-preserved : goal.loop-n-preserved
loop-n-preserved c =
    let s = c.args in
    let r = c.read_node.ensures in
    let h : c.loop-n.n < 2 ^ 63 = omega arith in
    row_said (state_in s.board s.volts.now s.totals.now) c.loop-n.n (to_z_pos w64 c.loop-n.n h) c.loop-n.invariant
    (r.value, r.reached) c.put_row.ensures

pub returns : goal.returns
unfolding rows_said
returns c =
    let e : c.loop-n.n ≡ sheet_nodes = omega arith in rw (sym e) (then c.answer_line.ensures c.loop-n.invariant)
