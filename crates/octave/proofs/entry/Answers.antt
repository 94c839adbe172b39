-- `entry` reads the lent table.
use Rattle.octave.specs.Table.{entry_of}
use Rattle.octave.proofs.entry.Goals as goal

pub returns : goal.returns
unfolding entry_of
returns c = cc
