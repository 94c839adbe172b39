-- One input has one result: any two that a contract permits are equal.
use Rattle.std.specs.Prelude.{◌≡◌, List, Option, ℕ, ℤ}
use Rattle.refusal.specs.Unique.{unique_by_equation}
use Rattle.spelling.specs.Number.{parsed_of}

pub unique_number : (w : List ℕ) {r r' : Option ℤ} → r ≡ parsed_of w → r' ≡ parsed_of w → r ≡ r'
unique_number w e f = unique_by_equation e f
