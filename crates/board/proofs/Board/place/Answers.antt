-- `place` lends its arrays beside the slices, and what comes back is the next board.
use mathlib.Core.Path.{◌≡◌}
use lib.ListN.{length}
use borrow.Author.Rules.{rules}
use mir.Syntax.{w64}
use mir.ValLaws.{to_z-of_z}
use Rattle.terms.specs.Rows.{roles}
use Rattle.model.specs.Desk.{place}
use Rattle.reading.specs.OfLending.Lending.{lent_of}
use Rattle.board.specs.Promise.{model_of}
use Rattle.board.proofs.Reaches.{next_fits, after_place, reached_by}
use Rattle.board.proofs.Whole.{own_lends_places}
use Rattle.board.proofs.Board.place.Goals as goal

pub overflow_cast-next : goal.overflow_cast-next
overflow_cast-next c = next_fits c.requires

pub place-placed-requires : goal.place-placed-requires
place-placed-requires c = (model_of c.args.self, c.requires, own_lends_places (model_of c.args.self))

pub returns-clause-value : goal.returns-clause-value
returns-clause-value c =
    let long : length c.args.nodes ≡ roles = search rules in
    rw c.answer_of.ensures
    (after_place c.args.self c.requires c.args.volts.now c.args.totals.now c.args.card c.args.nodes
    long (to_z-of_z w64 c.args.card c.ranges.card)
    (c.place-placed.ensures (model_of c.args.self) c.requires (own_lends_places (model_of c.args.self)))).0

pub returns-clause-reached : goal.returns-clause-reached
unfolding lent_of
returns-clause-reached c = reached_by c.requires c.args.volts.now c.args.totals.now (place c.args.card c.args.nodes (search rules)) (returns-clause-value c)
