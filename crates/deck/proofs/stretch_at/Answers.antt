use Rattle.std.proofs.Common.{◌∙◌}
use Rattle.deck.specs.laws.Stretches.{cut_stretch}
use Rattle.deck.proofs.stretch_at.Goals as goal

pub returns : goal.returns
returns g c =
    λ d. let h = rw c.unwrap.ensures at c.as_array.ensures.cases in
    h.same ∙ cut_stretch d c.args.all.now _ _ c.requires
