-- `fresh` clears the slices, where they have their length, beside an empty board.
use mathlib.Core.Path.{ap, ◌∙◌}
use Rattle.model.specs.Answering.{answer_of}
use Rattle.board.proofs.Reaches.{fresh_so}
use Rattle.board.proofs.Board.fresh.Goals as goal

pub returns : goal.returns
returns c =
    let k =
    fresh_so c.args.volts.now c.args.totals.now c.empty-board.ensures c.clear-cleared.ensures
    (c.answer_of.ensures ∙ ap answer_of c.and.ensures) in
    record { value = k.0; reached = k.1.0; volts_after = k.1.1.0; totals_after = k.1.1.1 }
