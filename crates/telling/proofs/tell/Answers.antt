-- Each answer as its definition has it.
use Rattle.std.proofs.Common.{ap, ◌∙◌, rules}
use mir.Syntax.{w64}
use mir.ValLaws.{to_z-of_z}
use Rattle.page.proofs.Pages.{as_bytes, write_nothing}
use Rattle.answers.specs.Answers.{answer_line}
use Rattle.telling.specs.Said.{node_number, said_of}
use Rattle.telling.proofs.Written.{as_reading_lem}
use Rattle.telling.proofs.tell.Goals as goal

pub returns-in-Issue : goal.returns-in-Issue
unfolding said_of
returns-in-Issue c = rw c.in-Issue.is (as_bytes (ap answer_line c.issued.ensures) c.answer_line.ensures)

pub returns-in-Done : goal.returns-in-Done
unfolding said_of
returns-in-Done c = rw c.in-Done.is (as_bytes (ap answer_line c.done.ensures) c.answer_line-in-Done.ensures)

pub returns-in-Node : goal.returns-in-Node
unfolding said_of
returns-in-Node c =
    rw c.in-Node.is
    (as_reading_lem (to_z-of_z w64 _ (search rules)) (to_z-of_z w64 _ (search rules))
    (c.node_number.ensures ∙ ap node_number (to_z-of_z w64 c.args.number c.ranges.number))
    c.answer_line-in-Node.ensures)

pub returns-in-Currents : goal.returns-in-Currents
unfolding said_of
returns-in-Currents c = rw c.in-Currents.is c.currents_line.ensures

pub returns-in-Listed : goal.returns-in-Listed
unfolding said_of
returns-in-Listed c = rw c.in-Listed.is write_nothing

pub returns-in-Summed : goal.returns-in-Summed
unfolding said_of
returns-in-Summed c = rw c.in-Summed.is c.sum_line.ensures

pub returns-in-Refused : goal.returns-in-Refused
unfolding said_of
returns-in-Refused c = rw c.in-Refused.is c.put_refused.ensures
