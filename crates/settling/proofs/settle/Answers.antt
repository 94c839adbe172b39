-- `settle` begins at the first place of the set, with nothing come and nothing gone.
use Rattle.settle.proofs.Going.{settled_none, settled_long, begins, held_start}
use Rattle.settling.proofs.settle.Goals as goal

pub returns-then-set-eq0 : goal.returns-then-set-eq0
returns-then-set-eq0 c = settled_none _ _ c.if-set-eq0.true c.stand_still.ensures

pub settle_from-requires : goal.settle_from-requires
settle_from-requires c = begins _ _ c.table-table.ensures c.requires _ c.next_in-i.ensures

pub shape_of-totals : goal.shape_of-totals
shape_of-totals c = settled_long _ _ c.requires.long c.settle_from.ensures

pub returns : goal.returns
returns c = held_start _ _ _ c.next_in-i.ensures c.settle_from.ensures
