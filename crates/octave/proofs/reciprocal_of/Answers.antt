-- Each field of the definition is worked.
use Rattle.std.proofs.Common.{ap₂, ℕ, ◌+◌, ◌/◌, ◌%◌, ◌^◌, arith}
use Rattle.octave.specs.inner.Reciprocal.{half_places, slack, offset_of, reciprocal_of}
use Rattle.octave.proofs.Exact.{all_small, scale_held, rest_held}
use Rattle.octave.proofs.reciprocal_of.Goals as goal

pub returns : goal.returns
unfolding reciprocal_of
returns c =
    let w = c.args.w in
    ap₂
    (λ (s t : ℕ).
    record { w = w; high = s / 2 ^ half_places; low = s % 2 ^ half_places; base = offset_of w / w; add = t + slack })
    (scale_held w c.requires _ c.shifted_quotient-scale.ensures)
    (rest_held w c.requires _ c.shifted_quotient-rest.ensures)

pub overflow_add-result : goal.overflow_add-result
overflow_add-result c =
    let r = rest_held _ c.requires _ c.shifted_quotient-rest.ensures in
    omega (arith, all_small c.args.w c.requires)
