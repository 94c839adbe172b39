-- What reading a transistor's currents leaves: refused, in a buffer that has room, and in one that has not.
use mir.Syntax.{w64}
use mir.ValLaws.{to_z-of_z}
use Rattle.host_queries.proofs.Laws.{opens_not, opens_all, opens_short}
use Rattle.host_queries.proofs.read_currents.Goals as goal

pub returns-then-code-ne0 : goal.returns-then-code-ne0
returns-then-code-ne0 c =
    let a = c.args in
    let s = c.read_currents-asked.ensures in
    opens_not a.board a.transistor a.currents.now (to_z-of_z w64 a.transistor c.ranges.transistor)
    (s.value, s.reached) c.result_of-code.ensures c.if-code-ne0.true

pub returns-then-put_numbers : goal.returns-then-put_numbers
returns-then-put_numbers c =
    let a = c.args in
    let s = c.read_currents-asked.ensures in
    let p = c.put_numbers in
    opens_all a.board a.transistor a.currents.now (to_z-of_z w64 a.transistor c.ranges.transistor)
    (s.value, s.reached) c.result_of-code.ensures p.result p.ensures.value c.if-code-ne0.false
    c.if-put_numbers.true p.ensures.buffer_after

pub returns : goal.returns
returns c =
    let a = c.args in
    let s = c.read_currents-asked.ensures in
    let p = c.put_numbers in
    rw c.number.ensures
    (opens_short a.board a.transistor a.currents.now (to_z-of_z w64 a.transistor c.ranges.transistor)
    (s.value, s.reached) c.result_of-code.ensures p.result p.ensures.value c.if-code-ne0.false
    c.if-put_numbers.false p.ensures.buffer_after)
