-- What is worked once for an octave, so that a voltage's position takes products and shifts alone.
use Rattle.std.specs.Prelude.{◌≡◌, refl, List, ℕ, ◌+◌, ◌*◌, ◌-◌, ◌/◌, ◌%◌, ◌^◌, ◌≤◌}
use Rattle.std.proofs.Common.{sym, subst, arith}
use Rattle.volts.specs.Volts.{span}
use Rattle.octave.specs.declared.Reciprocal.{Reciprocal}
use Rattle.octave.specs.Table.{parts, entries}
use Rattle.octave.specs.Position.{nanovolts, octave_from, InRange}
use Rattle.octave.specs.Exponential.{bias}

-- binary places of the reciprocal, and of each of its halves but the first
abbrev pub fine_places : ℕ
fine_places = 54

abbrev pub half_places : ℕ
half_places = 32

-- the reciprocal of the octave
unfoldable pub scale_of : ℕ → ℕ
scale_of w = nanovolts * parts * 2 ^ fine_places / w

-- `bias` octaves less the span: what is added to u * nanovolts * parts, before the division,
-- so that positions of u = V + span are those of V, raised by the bias
abbrev pub offset_of : ℕ → ℕ
offset_of w = w * (bias * parts) - span * (nanovolts * parts)

-- the position of V = u - span, raised by the bias
unfoldable pub place_of : ℕ → ℕ → ℕ
place_of u w = (u * (nanovolts * parts) + offset_of w) / w

-- one for each rounding of a product by u, and one more
abbrev pub slack : ℕ
slack = 2 * span + 1

-- the reciprocal in halves; the whole quotient of the offset, and its rest by the same reciprocal, with the slack
unfoldable pub reciprocal_of : ℕ → Reciprocal
reciprocal_of w = record {
  w = w;
  high = scale_of w / 2 ^ half_places;
  low = scale_of w % 2 ^ half_places;
  base = offset_of w / w;
  add = offset_of w % w * 2 ^ fine_places / w + slack;
}

-- none
abbrev pub no_reciprocal : Reciprocal
no_reciprocal = record { w = 0; high = 0; low = 0; base = 0; add = 0 }

-- what was worked for an octave in range
pub record IsReciprocal (o : Reciprocal) : Type 0 where
  pub range : InRange o.w
  pub is : o ≡ reciprocal_of o.w

-- asked by `place`: a voltage raised by the span, and what was worked for an octave
pub record Placeable (u : ℕ) (o : Reciprocal) : Type 0 where
  pub near : u ≤ 2 * span
  pub reciprocal : IsReciprocal o

-- asked by `exponential_at`: the table too
pub record Askable (table : List ℕ) (u : ℕ) (o : Reciprocal) : Type 0 where
  pub table_is : table ≡ entries
  pub near : u ≤ 2 * span
  pub reciprocal : IsReciprocal o

pub in_range : InRange octave_from
in_range = record { least = omega arith; most = omega arith }

-- every octave in range has its reciprocal by the definition
pub is_reciprocal : (w : ℕ) → InRange w → IsReciprocal (reciprocal_of w)
unfolding reciprocal_of
is_reciprocal w h = record { range = h; is = refl }

-- and so has what is known to equal it
pub equals_reciprocal : (w : ℕ) (o : Reciprocal) → InRange w → o ≡ reciprocal_of w → IsReciprocal o
equals_reciprocal w o h e = subst IsReciprocal (sym e) (is_reciprocal w h)

pub placeable : Placeable 0 (reciprocal_of octave_from)
placeable = record { near = omega arith; reciprocal = is_reciprocal octave_from in_range }

pub askable : Askable entries 0 (reciprocal_of octave_from)
askable = record { table_is = refl; near = omega arith; reciprocal = is_reciprocal octave_from in_range }

-- the octave that it is the reciprocal of
pub reciprocal_octave : (w : ℕ) → (reciprocal_of w).w ≡ w
unfolding reciprocal_of
reciprocal_octave w = refl
