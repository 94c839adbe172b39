-- The exponential of the difference of two kept voltages.
use Rattle.octave.specs.OfVolts.laws.Keeping.{near_at}
use Rattle.scaling.proofs.Junctions.{junction_asked, junction_is}
use Rattle.scaling.proofs.exponential.Goals as goal

pub across-requires : goal.across-requires
across-requires c = near_at c.requires.near c.args.q

pub exponential_at-requires : goal.exponential_at-requires
exponential_at-requires c = junction_asked c.requires c.across.ensures

pub returns : goal.returns
returns c = junction_is c.requires c.across.ensures c.exponential_at.ensures
