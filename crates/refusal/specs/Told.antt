-- What a refusal tells: its number, then the values that go with it. No two refusals tell the same.
use Rattle.std.specs.Prelude.{◌≡◌, refl, List, [], ◌∷◌, ℕ, ◌-◌, get_or}
use Rattle.std.proofs.Common.{sym, ap, ◌∙◌}
use Rattle.refusal.specs.declared.Refusal.{Refusal}
use Rattle.refusal.specs.declared.Refusal.TheVariants.{Malformed, BadName, NameTwice, NameNotHeld, ShortOutput}
use Rattle.refusal.specs.declared.Refusal.TheVariants.{NotFinite, WrongLevel, BadExsub, BadOctave, OutOfReach}
use Rattle.refusal.specs.declared.Refusal.TheVariants.{NoRoom, Unknown, OutOfRange, SplitCollector, Overload}
use Rattle.refusal.specs.declared.Refusal.TheVariants.{CardInUse, NumbersUsedUp, Injection, NegativeIcss}
use Rattle.refusal.specs.declared.Refusal.TheVariants.{BadKey, BadNumber, KeyMissing, BadLine}

-- the number of each refusal
abbrev pub number_of : Refusal → ℕ
number_of Malformed = 1
number_of BadName = 2
number_of NameTwice = 3
number_of NameNotHeld = 4
number_of ShortOutput = 5
number_of NotFinite = 6
number_of WrongLevel = 7
number_of BadExsub = 8
number_of BadOctave = 9
number_of OutOfReach = 10
number_of NoRoom = 11
number_of Unknown = 12
number_of OutOfRange = 13
number_of SplitCollector = 14
number_of (Overload i b) = 15
number_of CardInUse = 16
number_of NumbersUsedUp = 17
number_of (Injection i b) = 18
number_of NegativeIcss = 19
number_of BadKey = 20
number_of BadNumber = 21
number_of KeyMissing = 22
number_of BadLine = 23

-- the values beside the number: for what overloads, the transistor's number and its branch
abbrev pub values_of : Refusal → List ℕ
values_of (Overload i b) = i ∷ b ∷ []
values_of (Injection i b) = i ∷ b ∷ []
values_of Malformed = []
values_of BadName = []
values_of NameTwice = []
values_of NameNotHeld = []
values_of ShortOutput = []
values_of NotFinite = []
values_of WrongLevel = []
values_of BadExsub = []
values_of BadOctave = []
values_of OutOfReach = []
values_of NoRoom = []
values_of Unknown = []
values_of OutOfRange = []
values_of SplitCollector = []
values_of CardInUse = []
values_of NumbersUsedUp = []
values_of NegativeIcss = []
values_of BadKey = []
values_of BadNumber = []
values_of KeyMissing = []
values_of BadLine = []

abbrev pub told : Refusal → List ℕ
told f = number_of f ∷ values_of f

-- ---- no two refusals tell the same

-- all of them, in the order of their numbers, which start at 1, with two values where there are any
in_order : ℕ → ℕ → List Refusal
in_order i b =
    Malformed
    ∷ BadName
    ∷ NameTwice
    ∷ NameNotHeld
    ∷ ShortOutput
    ∷ NotFinite
    ∷ WrongLevel
    ∷ BadExsub
    ∷ BadOctave
    ∷ OutOfReach
    ∷ NoRoom
    ∷ Unknown
    ∷ OutOfRange
    ∷ SplitCollector
    ∷ Overload i b
    ∷ CardInUse
    ∷ NumbersUsedUp
    ∷ Injection i b
    ∷ NegativeIcss
    ∷ BadKey
    ∷ BadNumber
    ∷ KeyMissing
    ∷ BadLine
    ∷ []

-- the refusal whose number stands first among what is told, and its values after it
refusal_told : List ℕ → Refusal
refusal_told l = get_or (in_order (get_or l 1 0) (get_or l 2 0)) (get_or l 0 0 - 1) Malformed

told_back : (f : Refusal) → refusal_told (told f) ≡ f
unfolding in_order refusal_told
told_back Malformed = refl
told_back BadName = refl
told_back NameTwice = refl
told_back NameNotHeld = refl
told_back ShortOutput = refl
told_back NotFinite = refl
told_back WrongLevel = refl
told_back BadExsub = refl
told_back BadOctave = refl
told_back OutOfReach = refl
told_back NoRoom = refl
told_back Unknown = refl
told_back OutOfRange = refl
told_back SplitCollector = refl
told_back (Overload i b) = refl
told_back CardInUse = refl
told_back NumbersUsedUp = refl
told_back (Injection i b) = refl
told_back NegativeIcss = refl
told_back BadKey = refl
told_back BadNumber = refl
told_back KeyMissing = refl
told_back BadLine = refl

pub told_injective : (f g : Refusal) → told f ≡ told g → f ≡ g
told_injective f g e = sym (told_back f) ∙ ap refusal_told e ∙ told_back g
