-- The clipped numbers of a record, with what one of version 1 has not.
use Rattle.std.specs.Prelude.{Bool, true, false, List, set, Float}
use Rattle.loading.specs.OfClip.Numbers as number
use Rattle.loading.specs.OfClip.Limits.{one}

-- clipping gives +0 for each number that is missing: the polarity alone means another
abbrev pub filled_with : Bool → List Float → List Float
filled_with true x = x
filled_with false x = set x number.polarity one
