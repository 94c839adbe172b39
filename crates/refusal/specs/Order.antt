-- The order of a call's refusals: test after test, each with the refusal that it draws; and what is told of it.
use Rattle.std.specs.Prelude.{◌≡◌, refl, Bool, true, false, List, ℕ, Result, Ok, Err}
use Rattle.std.proofs.Common.{ap}
use Rattle.refusal.specs.declared.Refusal.{Refusal}
use Rattle.refusal.specs.Told.{number_of, told, told_injective}
use Rattle.refusal.specs.Clash.{clash}

-- a refusal, or what the call goes on with
pub data Verdict (A : Type 0) : Type 0 where
  no : Refusal → Verdict A
  yes : A → Verdict A

-- one test: the refusal that it draws where it is true, and what comes after it where it is not
abbrev pub refuse_if : {A : Type 0} → Bool → Refusal → Verdict A → Verdict A
refuse_if true f next = no f
refuse_if false f next = next

-- an earlier verdict, and what comes after it where that refuses nothing
abbrev pub and_then : {A B : Type 0} → Verdict A → (A → Verdict B) → Verdict B
and_then (no f) next = no f
and_then (yes a) next = next a

-- the verdict that a result of the code is
abbrev pub verdict : {A : Type 0} → Result A Refusal → Verdict A
verdict (Ok a) = yes a
verdict (Err f) = no f

-- ---- what is told

-- the refusal's number with the values beside it, or what was asked for
pub data Answer (A : Type 0) : Type 0 where
  refused : List ℕ → Answer A
  given : A → Answer A

abbrev pub tells : {A : Type 0} → Verdict A → Answer A
tells (no f) = refused (told f)
tells (yes a) = given a

-- the number alone; 0 where nothing is refused
abbrev pub number_told : {A : Type 0} → Verdict A → ℕ
number_told (no f) = number_of f
number_told (yes a) = 0

-- one test of an order of numbers
abbrev pub number_if : Bool → ℕ → ℕ → ℕ
number_if true n next = n
number_if false n next = next

-- ---- laws

-- what is told leaves no two verdicts
pub tells_one : {A : Type 0} (v w : Verdict A) → tells v ≡ tells w → v ≡ w
tells_one (no f) (no g) e = let h : told f ≡ told g = cc in ap no (told_injective f g h)
tells_one (no f) (yes b) e = clash cc
tells_one (yes a) (no g) e = clash cc
tells_one (yes a) (yes b) e = cc

-- a test that is true draws its refusal, with its number; one that is not leaves what comes after
pub number_if_lem : {A : Type 0} (b : Bool) (f : Refusal) (v : Verdict A) (n : ℕ) → number_told v ≡ n
    → number_told (refuse_if b f v) ≡ number_if b (number_of f) n
number_if_lem true f v n e = refl
number_if_lem false f v n e = e

-- the same, without a name for the number of what comes after
pub number_first : {A : Type 0} (b : Bool) (f : Refusal) (v : Verdict A)
    → number_told (refuse_if b f v) ≡ number_if b (number_of f) (number_told v)
number_first b f v = number_if_lem b f v (number_told v) refl

-- what is given has passed the test
pub passes_if : {A : Type 0} (b : Bool) (f : Refusal) (v : Verdict A) (a : A) → refuse_if b f v ≡ yes a
    → (b ≡ false) × (v ≡ yes a)
passes_if true f v a e = clash cc
passes_if false f v a e = (refl, e)

-- a test of the earlier verdict comes first in the whole order too
pub then_if : {A B : Type 0} (b : Bool) (f : Refusal) (v : Verdict A) (next : A → Verdict B)
    → and_then (refuse_if b f v) next ≡ refuse_if b f (and_then v next)
then_if true f v next = refl
then_if false f v next = refl
