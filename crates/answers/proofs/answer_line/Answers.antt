-- Each answer as its definition has it.
use mir.Syntax.{w64}
use mir.ValLaws.{to_z-of_z}
use borrow.Author.Rules.{rules}
use Rattle.answers.specs.Answers.{answer_line}
use Rattle.sheet.specs.laws.LinesFit.{node_whole}
use Rattle.texts.proofs.Written.{text_written}
use Rattle.answers.proofs.Written.{as_node}
use Rattle.answers.proofs.answer_line.Goals as goal

pub returns-in-Library : goal.returns-in-Library
unfolding answer_line
returns-in-Library c = rw c.in-Library.is c.label.ensures

pub returns-in-Offset : goal.returns-in-Offset
unfolding answer_line
returns-in-Offset c = rw c.in-Offset.is c.label-in-Offset.ensures

pub returns-in-Card : goal.returns-in-Card
unfolding answer_line
returns-in-Card c = rw c.in-Card.is c.label-in-Card.ensures

pub returns-in-Transistor : goal.returns-in-Transistor
unfolding answer_line
returns-in-Transistor c = rw c.in-Transistor.is c.label-in-Transistor.ensures

pub returns-in-Moved : goal.returns-in-Moved
unfolding answer_line
returns-in-Moved c = rw c.in-Moved.is c.put.ensures

pub returns-in-Lifted : goal.returns-in-Lifted
unfolding answer_line
returns-in-Lifted c = rw c.in-Lifted.is c.put-in-Lifted.ensures

pub returns-in-Withdrawn : goal.returns-in-Withdrawn
unfolding answer_line
returns-in-Withdrawn c = rw c.in-Withdrawn.is c.put-in-Withdrawn.ensures

pub returns-in-Reading : goal.returns-in-Reading
unfolding answer_line
returns-in-Reading c =
    rw c.in-Reading.is
    (as_node _ (to_z-of_z w64 _ (search rules)) (to_z-of_z w64 _ (search rules))
    (text_written c.node_line.ensures (node_whole _ _ _) c.put_text.ensures))

pub returns-in-Sheet : goal.returns-in-Sheet
unfolding answer_line
returns-in-Sheet c = rw c.in-Sheet.is c.label-in-Sheet.ensures

pub returns-in-Refused : goal.returns-in-Refused
unfolding answer_line
returns-in-Refused c = rw c.in-Refused.is c.refused.ensures

pub returns-in-TooLong : goal.returns-in-TooLong
unfolding answer_line
returns-in-TooLong c = rw c.in-TooLong.is c.put-in-TooLong.ensures

pub returns-in-Mended : goal.returns-in-Mended
unfolding answer_line
returns-in-Mended c = rw c.in-Mended.is c.label-in-Mended.ensures

pub returns-in-Poked : goal.returns-in-Poked
unfolding answer_line
returns-in-Poked c = rw c.in-Poked.is c.put-in-Poked.ensures
