-- The reciprocal's law at its own fields, so that the place is exact.
use Rattle.std.proofs.Common.{arith}
use Rattle.octave.proofs.Exact.{room, fields_place}
use Rattle.octave.proofs.place.Goals as goal

pub returns : goal.returns
returns c = fields_place c.requires

pub overflow_add-low : goal.overflow_add-low
overflow_add-low c = omega (arith, room c.requires)
