-- Reading into rooms that have place for every library.
use mathlib.Core.Path.{refl}
use Rattle.shelving.proofs.Shelves.{judged_told}
use Rattle.shelving.proofs.judge.Goals as goal

pub returns : goal.returns
returns c = judged_told refl refl c.read.ensures
