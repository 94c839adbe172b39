-- A shift downward as far as a word's places, over plain numbers.
use mathlib.Core.Path.{◌≡◌, sym, ◌∙◌}
use Prim.Native.Nat.{ℕ, ◌/◌, ◌^◌, ◌≤◌, ◌<◌}
use native.Mathlib.Nat.{lt_of_lt_of_le, div-eq_of_lt}
use lib.Pow.{pow_mono}
use Rattle.whole.specs.Signed.{signed_places, signed_span}

-- a number of a signed word's places, shifted down by as many or more, leaves nothing
pub down_far : (x s : ℕ) → x < signed_span → signed_places ≤ s → x / 2 ^ signed_places ≡ x / 2 ^ s
down_far x s l k = div-eq_of_lt l ∙ sym (div-eq_of_lt (lt_of_lt_of_le l (pow_mono k)))
