-- `read_currents` hands back the answer and its numbers, and the board as it was.
use mathlib.Core.Path.{refl, ◌∙◌}
use mir.Syntax.{w64}
use mir.ValLaws.{to_z-of_z}
use Rattle.reading.specs.OfLending.Rest.{bare}
use Rattle.board.specs.Promise.{model_of}
use Rattle.board.proofs.Reaches.{after_currents, currents_so, ticks_so}
use Rattle.reading.proofs.Whole.{opened_whole}
use Rattle.board.proofs.Board.read_currents.Goals as goal

pub returns-clause-value : goal.returns-clause-value
returns-clause-value c =
    let b = bare (model_of c.args.self) in
    let told = c.read_currents-read.ensures b refl refl in
    rw (
      c.answer_of.ensures ∙ currents_so c.read_currents-read.result c.and.ensures,
      c.unwrap_or.ensures ∙ ticks_so c.read_currents-read.result,
    )
    (after_currents c.requires c.args.transistor refl
    (opened_whole b c.args.transistor (rw (to_z-of_z w64 c.args.transistor c.ranges.transistor) at told))).0
