-- The refusals that tell a number alone, and those that tell who overloads in which branch.
use mathlib.Core.Path.{◌≡◌, refl, sym, ap}
use mathlib.Core.Logic.{◌⊎◌, inl, inr}
use mathlib.Core.List.{[], ◌∷◌}
use Prim.Native.Nat.{ℕ}
use Rattle.refusal.specs.declared.Refusal.{Refusal}
use Rattle.refusal.specs.declared.Refusal.TheVariants.{Malformed, BadName, NameTwice, NameNotHeld, ShortOutput}
use Rattle.refusal.specs.declared.Refusal.TheVariants.{NotFinite, WrongLevel, BadExsub, BadOctave, OutOfReach}
use Rattle.refusal.specs.declared.Refusal.TheVariants.{NoRoom, Unknown, OutOfRange, SplitCollector, Overload}
use Rattle.refusal.specs.declared.Refusal.TheVariants.{CardInUse, NumbersUsedUp, Injection, NegativeIcss}
use Rattle.refusal.specs.declared.Refusal.TheVariants.{BadKey, BadNumber, KeyMissing, BadLine}
use Rattle.refusal.specs.Told.{values_of}

pub no_values : (f : Refusal) → ((i b : ℕ) → f ≡ Overload i b → ⊥) → ((i b : ℕ) → f ≡ Injection i b → ⊥)
    → [] ≡ values_of f
no_values (Overload i b) o j = absurd (o i b refl)
no_values (Injection i b) o j = absurd (j i b refl)
no_values Malformed o j = refl
no_values BadName o j = refl
no_values NameTwice o j = refl
no_values NameNotHeld o j = refl
no_values ShortOutput o j = refl
no_values NotFinite o j = refl
no_values WrongLevel o j = refl
no_values BadExsub o j = refl
no_values BadOctave o j = refl
no_values OutOfReach o j = refl
no_values NoRoom o j = refl
no_values Unknown o j = refl
no_values OutOfRange o j = refl
no_values SplitCollector o j = refl
no_values CardInUse o j = refl
no_values NumbersUsedUp o j = refl
no_values NegativeIcss o j = refl
no_values BadKey o j = refl
no_values BadNumber o j = refl
no_values KeyMissing o j = refl
no_values BadLine o j = refl

pub two_values : {f : Refusal} {i b : ℕ} → (f ≡ Overload i b) ⊎ (f ≡ Injection i b) → (i ∷ b ∷ []) ≡ values_of f
two_values (inl e) = sym (ap values_of e)
two_values (inr e) = sym (ap values_of e)
