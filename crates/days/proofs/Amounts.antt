-- What the roles hand out at one node, and one transistor's branches more, is below 2^63.
use Prim.Native.Nat.{◌+◌, ◌^◌, ◌<◌}
use lib.Dec.{lit<}
use Rattle.totals.specs.inner.Sizes.{flow_most, handed_most}

pub amount_fits : handed_most + flow_most < 2 ^ 63
amount_fits = lit< tt
