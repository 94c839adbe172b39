-- The table is the list of entries.
use Rattle.std.proofs.Common.{refl}
use Rattle.octave.specs.Table.{entries}
use Rattle.octave.proofs.table.Goals as goal

pub returns : goal.returns
unfolding entries
returns c = refl
