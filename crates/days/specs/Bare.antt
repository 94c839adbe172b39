-- The verdicts of placing and moving as they were while 15 told neither who overloads nor by what. They are kept for
-- one purpose: to state that the refusals which tell it are given exactly where that 15 was.
use Rattle.std.specs.Prelude.{Bool, not, List, map, leb, length, ℤ, nat_abs}
use Rattle.refusal.specs.declared.Refusal.{Refusal}
use Rattle.refusal.specs.declared.Refusal.TheVariants.{Malformed, BadName, NameTwice, NameNotHeld, ShortOutput}
use Rattle.refusal.specs.declared.Refusal.TheVariants.{NotFinite, WrongLevel, BadExsub, BadOctave, OutOfReach}
use Rattle.refusal.specs.declared.Refusal.TheVariants.{NoRoom, Unknown, OutOfRange, SplitCollector, Overload}
use Rattle.refusal.specs.declared.Refusal.TheVariants.{CardInUse, NumbersUsedUp, Injection, NegativeIcss}
use Rattle.refusal.specs.declared.Refusal.TheVariants.{BadKey, BadNumber, KeyMissing, BadLine}
use Rattle.refusal.specs.Order.{Verdict, no, yes, refuse_if, and_then}
use Rattle.totals.specs.Flow.{overloads}
use Rattle.given.specs.Lists.{any_of}
use Rattle.given.specs.Arguments.{issue_of, some_node_off, ties_of, torn, known, used_up}
use Rattle.given.specs.Pairs.{are_pairs, some_pair_off, Shift, shifts_of}
use Rattle.model.specs.Counts.{transistors_most}
use Rattle.model.specs.Desk.{Held, Standing, Desk, looked_by, moved_to, held_as}

-- a 15 that tells nothing: no transistor has the number 0, and none has a branch 0
abbrev pub bare15 : Refusal
bare15 = Overload 0 0

-- a refusal without what 15 and 18 tell
abbrev pub bare_of : Refusal → Refusal
bare_of (Overload i b) = bare15
bare_of (Injection i b) = bare15
bare_of Malformed = Malformed
bare_of BadName = BadName
bare_of NameTwice = NameTwice
bare_of NameNotHeld = NameNotHeld
bare_of ShortOutput = ShortOutput
bare_of NotFinite = NotFinite
bare_of WrongLevel = WrongLevel
bare_of BadExsub = BadExsub
bare_of BadOctave = BadOctave
bare_of OutOfReach = OutOfReach
bare_of NoRoom = NoRoom
bare_of Unknown = Unknown
bare_of OutOfRange = OutOfRange
bare_of SplitCollector = SplitCollector
bare_of CardInUse = CardInUse
bare_of NumbersUsedUp = NumbersUsedUp
bare_of NegativeIcss = NegativeIcss
bare_of BadKey = BadKey
bare_of BadNumber = BadNumber
bare_of KeyMissing = KeyMissing
bare_of BadLine = BadLine

abbrev pub bare : {A : Type 0} → Verdict A → Verdict A
bare (no f) = no (bare_of f)
bare (yes a) = yes a

-- some transistor that stands would overload at these voltages
abbrev pub some_overloads : Desk → List ℤ → Bool
some_overloads d volts = any_of (λ (t : Standing). overloads t.worked t.nodes volts) d.standing

-- placing: 12, 13, 14, 11, 17, 15
abbrev pub place_before : Desk → ℤ → List ℤ → Verdict Held
place_before d card nodes =
    and_then (known (held_as (issue_of card) d.cards))
    (λ (h : Held). refuse_if (some_node_off (looked_by h nodes)) OutOfRange
    (refuse_if (torn (ties_of h.worked) (looked_by h nodes)) SplitCollector
    (refuse_if (leb transistors_most (length d.standing)) NoRoom
    (refuse_if (used_up d.next) NumbersUsedUp
    (refuse_if (overloads h.worked (map nat_abs (looked_by h nodes)) d.volts) bare15 (yes h))))))

-- moving: 1, 13, 15
abbrev pub move_before : Desk → List ℤ → Verdict (List Shift)
move_before d pairs =
    refuse_if (not (are_pairs pairs)) Malformed
    (refuse_if (some_pair_off pairs) OutOfRange
    (refuse_if (some_overloads d (moved_to d.volts (shifts_of pairs))) bare15 (yes (shifts_of pairs))))
