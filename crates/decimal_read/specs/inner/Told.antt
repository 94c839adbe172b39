-- How the code tells a number that the definitions hold below an end, with the end itself for none.
use Rattle.std.specs.Prelude.{◌≡◌, Option, Some, None, ℕ, ◌<◌}

abbrev pub Told : ℕ → Option ℕ → ℕ → Type 0
Told end (Some a) x = (a ≡ x) × (a < end)
Told end None x = x ≡ end
