use Rattle.std.proofs.Common.{◌∙◌, ◌+ℤ◌, ◌-ℤ◌, rules}
use Rattle.slices.proofs.Fitting.{converted}
use Rattle.judging.proofs.stand.Goals as goal

pub returns : goal.returns
returns c =
    let a = c.args in
    c.ok.ensures.value ∙ converted (a.total +ℤ (a.coming -ℤ a.going)) _ (search rules) c.try_from.ensures
