-- The sign, and the digits of the size.
use mathlib.Core.Path.{ap, ◌∙◌}
use lib.IntN.{ℤ, pos, nat_abs}
use lib.Signed.{lt_z}
use Rattle.whole.proofs.Halves.{back}
use Rattle.sheet.proofs.Numerals.{below_is, signed_done}
use Rattle.sheet.proofs.Text.signed.Goals as goal

pub returns : goal.returns
returns c =
    let v = c.args.v in
    let given = back v c.ranges.v in
    signed_done v (ap (λ (z : ℤ). lt_z z (pos 0)) given ∙ below_is v) (c.unsigned_abs.ensures.value ∙ ap nat_abs given)
    c.sign.ensures c.decimal.ensures
