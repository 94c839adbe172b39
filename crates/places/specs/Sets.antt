-- A set of places as a number: its binary digit i is set where the place i is in the set.
use Rattle.std.specs.Prelude.{Bool, cond, not, ◌&&◌, ◌||◌, List, [], ℕ, zero, suc, ◌+◌, ◌/◌, ◌%◌, ◌^◌, eqb, length}
use Rattle.given.specs.Lists.{keep_if}
use Rattle.places.specs.Counts.{transistors_most}

abbrev pub member : ℕ → ℕ → Bool
member set i = eqb (set / 2 ^ i % 2) 1

-- the set of the places below n that pass the test
unfoldable pub set_of : (ℕ → Bool) → ℕ → ℕ
set_of p zero = 0
set_of p (suc k) = set_of p k + cond (p k) (2 ^ k) 0

-- what f tells of each of these places, the last one first
unfoldable pub list_of : {A : Type 0} → (ℕ → Bool) → (ℕ → A) → ℕ → List A
list_of p f zero = []
list_of p f (suc k) = keep_if (p k) (f k) (list_of p f k)

-- how many places are in a set
abbrev pub size_of : ℕ → ℕ
size_of set = length (list_of (member set) (λ (i : ℕ). i) transistors_most)

-- the set with the place i in it, and without it
unfoldable pub with_place : ℕ → ℕ → ℕ
with_place set i = set_of (λ (j : ℕ). member set j || eqb j i) transistors_most

unfoldable pub without_place : ℕ → ℕ → ℕ
without_place set i = set_of (λ (j : ℕ). member set j && not (eqb j i)) transistors_most
