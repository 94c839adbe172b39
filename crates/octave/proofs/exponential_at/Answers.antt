-- The exponential is read off the place.
use Rattle.std.proofs.Common.{sym, ap, ap₂, ◌∙◌, ℕ, ◌/◌, ◌%◌}
use Rattle.octave.specs.Table.{parts, mantissa_of}
use Rattle.octave.specs.laws.Places.{exponential_raised}
use Rattle.octave.proofs.exponential_at.Goals as goal

pub returns : goal.returns
returns c =
    let p = c.place-p.ensures in
    ap₂ (λ (x y : ℕ). record { m = x; n = y / parts })
    (c.mantissa.ensures ∙ ap (λ (q : ℕ). mantissa_of (q % parts)) p) p
    ∙ sym (exponential_raised c.args.u c.args.o.w c.requires.reciprocal.range.least)
