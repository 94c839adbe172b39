-- No word, a minus sign first, or none.
use Rattle.std.proofs.Common.{arith, rules}
use Rattle.spelling.proofs.Numerals.{fits_none, fits_below, fits_above}
use Rattle.spelling.proofs.fits.Goals as goal

pub returns-in-empty : goal.returns-in-empty
returns-in-empty c = fits_none c.args.word.now (omega arith)

pub returns-in-45 : goal.returns-in-45
returns-in-45 c = fits_below c.args.word.now (search rules) c.is_within.ensures

pub returns-in_default : goal.returns-in_default
returns-in_default c = fits_above c.args.word.now (search rules) c.is_within-in_default.ensures
