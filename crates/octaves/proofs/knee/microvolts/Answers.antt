-- Of either sign the whole part is what the definition cuts.
use Rattle.std.proofs.Common.{ℕ, ◌+◌, ◌-◌, ap, ◌∙◌, arith}
use Rattle.loading.specs.Knee.{knee_raise}
use Rattle.loading.proofs.Microvolts.{Under, Over, negative, positive, y}
use Rattle.octaves.proofs.knee.microvolts.Goals as goal
use Rattle.octaves.proofs.knee.microvolts.Goals.{Then-y, Else-y}

under : (c : Then-y) → Under (y c.args.x c.requires)
under c = negative c.args.x c.requires c.if-y.true

over : (c : Else-y) → Over (y c.args.x c.requires)
over c = positive c.args.x c.requires c.if-y.false

pub truncating_f64_to_u64-requires : goal.truncating_f64_to_u64-requires
truncating_f64_to_u64-requires c =
    let u = under (goal.at.truncating_f64_to_u64-requires c).Then-y in
    record { lower_bound = u.over; upper_bound = u.under }

pub overflow_sub-result : goal.overflow_sub-result
overflow_sub-result c =
    omega (arith, (under (goal.at.overflow_sub-result c).Then-y).most, c.truncating_f64_to_u64.ensures)

pub truncating_f64_to_u64-requires-else-y : goal.truncating_f64_to_u64-requires-else-y
truncating_f64_to_u64-requires-else-y c =
    let u = over (goal.at.truncating_f64_to_u64-requires-else-y c).Else-y in
    record { lower_bound = u.over; upper_bound = u.under }

pub overflow_add-result : goal.overflow_add-result
overflow_add-result c =
    omega (arith, (over (goal.at.overflow_add-result c).Else-y).most, c.truncating_f64_to_u64-else-y.ensures)

pub overflow_cast-result-else-y : goal.overflow_cast-result-else-y
overflow_cast-result-else-y c =
    omega (arith, (over (goal.at.overflow_cast-result-else-y c).Else-y).most, c.truncating_f64_to_u64-else-y.ensures)

pub returns-then-y : goal.returns-then-y
returns-then-y c =
    ap (λ (k : ℕ). knee_raise - k) c.truncating_f64_to_u64.ensures ∙ (under (goal.at.returns-then-y c).Then-y).kept

pub returns-else-y : goal.returns-else-y
returns-else-y c =
    ap (λ (k : ℕ). knee_raise + k) c.truncating_f64_to_u64-else-y.ensures ∙ (over (goal.at.returns-else-y c).Else-y).kept
