-- `zeros_below` counts at most 64.
use mathlib.Core.Path.{refl}
use lib.Count.{trailing_le}
use Rattle.sets.proofs.zeros_below.Goals as goal

pub returns : goal.returns
returns c = (refl, trailing_le 64 c.args.rest)
