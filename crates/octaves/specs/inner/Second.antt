-- What the code says of the second octave: its nanovolts, or none where it is too large.
use Rattle.std.specs.Prelude.{ℕ, Bool, true, false, Option, Some, None, Float}
use Rattle.loading.specs.Octave.{whole_part, second_good}

abbrev pub second_if : Bool → ℕ → Option ℕ
second_if true n = Some n
second_if false n = None

abbrev pub second_of : Float → Option ℕ
second_of y = second_if (second_good y) (whole_part y)
