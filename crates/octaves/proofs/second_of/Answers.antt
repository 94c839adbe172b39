-- `octaves::second_of` meets its contract: what is not below the limit is infinite, or its whole part too large.
use Rattle.std.proofs.Common.{ap, ◌∙◌, arith, Some}
use Rattle.loading.proofs.Whole.{below, not_below, over_minus_one}
use Rattle.octaves.proofs.second_of.Goals as goal

pub truncating_f64_to_u64-requires : goal.truncating_f64_to_u64-requires
truncating_f64_to_u64-requires c = record { lower_bound = over_minus_one c.args.y c.requires; upper_bound = (below c.args.y c.requires c.if-y.true).range }

pub overflow_cast-result : goal.overflow_cast-result
overflow_cast-result c = omega (arith, c.truncating_f64_to_u64.ensures, (below c.args.y c.requires c.if-y.true).most)

pub returns-then-y : goal.returns-then-y
returns-then-y c = ap Some c.truncating_f64_to_u64.ensures ∙ rw (below c.args.y c.requires c.if-y.true).good

pub returns-else-y : goal.returns-else-y
returns-else-y c = rw (not_below c.args.y c.requires c.if-y.false)
