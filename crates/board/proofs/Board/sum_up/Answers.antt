-- `sum_up` hands back the answer, and the board as it was.
use mathlib.Core.Path.{refl}
use mir.Syntax.{w64}
use mir.ValLaws.{to_z-of_z}
use Rattle.reading.specs.OfLending.Rest.{bare}
use Rattle.board.specs.Promise.{model_of}
use Rattle.board.proofs.Reaches.{after_sum}
use Rattle.summary.proofs.Sums.{own_node, summed_whole}
use Rattle.board.proofs.Board.sum_up.Goals as goal

pub returns-clause-value : goal.returns-clause-value
returns-clause-value c =
    let b = bare (model_of c.args.self) in
    let told = c.sum_up-summed.ensures b (own_node b) in
    rw c.answer_of.ensures
    (after_sum c.requires c.args.node refl
    (summed_whole b c.args.node (rw (to_z-of_z w64 c.args.node c.ranges.node) at told))).0
