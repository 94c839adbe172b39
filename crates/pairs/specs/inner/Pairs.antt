-- A list of pairs kept at the nodes, and the set of places that are in the set of one of them.
use Rattle.std.specs.Prelude.{◌≡◌, Result, Ok, Err, cond, false, List, ℕ, ◌<◌, get_or, ℤ}
use Rattle.refusal.specs.declared.Refusal.{Refusal}
use Rattle.refusal.specs.declared.Refusal.TheVariants.{OutOfRange}
use Rattle.given.specs.Lists.{any_of}
use Rattle.given.specs.Pairs.{some_pair_off, Shift, shifts_of}
use Rattle.places.specs.Counts.{transistors_most}
use Rattle.places.specs.Sets.{member}
use Rattle.model.specs.Model.{shifted}

-- 13 where a pair is out of range; where none is, will are the voltages after the pairs
pub record KeepsPairs (pairs : List ℤ) (was : List ℕ) (r : Result (Unit {0}) Refusal) (will : List ℕ) : Type 0 where
  pub told : r ≡ cond (some_pair_off pairs) (Err OutOfRange) (Ok tt)
  pub volts : some_pair_off pairs ≡ false → will ≡ shifted was (shifts_of pairs)

-- the places of the set are those in the kept set of a node of a pair
pub record NamesAny (pairs : List ℤ) (naming : List ℕ) (places : ℕ) : Type 0 where
  pub is : (i : ℕ) → i < transistors_most →
      member places i ≡ any_of (λ (s : Shift). member (get_or naming s.node 0) i) (shifts_of pairs)
