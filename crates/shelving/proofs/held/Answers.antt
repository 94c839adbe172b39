-- The part of the shelf that its header tells.
use Rattle.shelving.proofs.Shelves.{held_part}
use Rattle.shelving.proofs.held.Goals as goal

pub returns : goal.returns
returns c = held_part _ c.u32_at.ensures c.part.ensures
