-- `position` asks `place` for what was worked for an octave in range; the place is far below 2^63.
use mathlib.Core.Path.{◌≡◌, ap, ◌∙◌}
use Prim.Native.Nat.{ℕ, ◌-◌, ◌^◌, ◌<◌}
use lib.Dec.{lit<, lit≤}
use borrow.Author.Rules.{rules}
use Rattle.volts.specs.Volts.{volts_most, across_of}
use Rattle.octave.specs.declared.Reciprocal.{Reciprocal}
use Rattle.octave.specs.Position.{InRange}
use Rattle.octave.specs.inner.Reciprocal.{place_of, reciprocal_of, reciprocal_octave, equals_reciprocal}
use Rattle.paper.proofs.position.Goals as goal

abbrev octave : ℕ
octave = 16000000

in_range : InRange octave
in_range = record { least = lit≤ tt; most = lit≤ tt }

place_small : {p u : ℕ} {o : Reciprocal} → p ≡ place_of u o.w → u ≡ across_of (volts_most - 1) volts_most →
    o ≡ reciprocal_of octave → p < 2 ^ 63
unfolding place_of
place_small e f g =
    let w = ap (λ (r : Reciprocal). r.w) g ∙ reciprocal_octave octave in rw (e, f, w) (lit< tt)

pub place-requires : goal.place-requires
place-requires c =
    record { near = search rules; reciprocal = equals_reciprocal octave _ in_range c.reciprocal_of-o.ensures }

pub difference-requires : goal.difference-requires
difference-requires c =
    let small = place_small c.place.ensures c.across-u.ensures c.reciprocal_of-o.ensures in
    search rules
