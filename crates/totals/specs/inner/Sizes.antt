-- How large a node's total may be: before a transistor's currents are given or taken, and while its roles hand out
-- what they have.
use Rattle.std.specs.Prelude.{ℕ, suc, ◌+◌, ◌*◌, ◌-◌}
use Rattle.whole.specs.Signed.{signed_span}
use Rattle.ends.specs.OfScaling.Scaled.{tick_limit}
use Rattle.ends.specs.OfTerms.Rows.{roles, branches}

-- what a transistor gives to a node, or has at a role: a branch counts once there
abbrev pub flow_most : ℕ
flow_most = branches * tick_limit

-- before: a signed number of 64 bits still holds the total with every role's amount more, and one in passing
abbrev pub room_most : ℕ
room_most = signed_span - suc (suc roles * flow_most)

-- while the roles hand out, one after the other
abbrev pub handed_most : ℕ
handed_most = room_most + roles * flow_most
