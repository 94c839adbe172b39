-- The line of a refusal is short, so that it has room where it is written.
use Rattle.std.specs.Prelude.{◌≤◌, length}
use Rattle.std.proofs.Common.{lit≤}
use Rattle.refusal.specs.declared.Refusal.{Refusal}
use Rattle.refusal.specs.declared.Refusal.TheVariants.{Malformed, BadName, NameTwice, NameNotHeld, ShortOutput}
use Rattle.refusal.specs.declared.Refusal.TheVariants.{NotFinite, WrongLevel, BadExsub, BadOctave, OutOfReach}
use Rattle.refusal.specs.declared.Refusal.TheVariants.{NoRoom, Unknown, OutOfRange, SplitCollector, Overload}
use Rattle.refusal.specs.declared.Refusal.TheVariants.{CardInUse, NumbersUsedUp, Injection, NegativeIcss}
use Rattle.refusal.specs.declared.Refusal.TheVariants.{BadKey, BadNumber, KeyMissing, BadLine}
use Rattle.refusal.specs.Told.{told}
use Rattle.sheet.specs.laws.LinesFit.{told_long}
use Rattle.answers.specs.declared.Answer.TheVariants.{Refused}
use Rattle.answers.specs.Answers.{answer_line}

-- a refusal tells its number, and two values at most
told_few : (f : Refusal) → length (told f) ≤ 3
told_few Malformed = lit≤ tt
told_few BadName = lit≤ tt
told_few NameTwice = lit≤ tt
told_few NameNotHeld = lit≤ tt
told_few ShortOutput = lit≤ tt
told_few NotFinite = lit≤ tt
told_few WrongLevel = lit≤ tt
told_few BadExsub = lit≤ tt
told_few BadOctave = lit≤ tt
told_few OutOfReach = lit≤ tt
told_few NoRoom = lit≤ tt
told_few Unknown = lit≤ tt
told_few OutOfRange = lit≤ tt
told_few SplitCollector = lit≤ tt
told_few (Overload i b) = lit≤ tt
told_few CardInUse = lit≤ tt
told_few NumbersUsedUp = lit≤ tt
told_few (Injection i b) = lit≤ tt
told_few NegativeIcss = lit≤ tt
told_few BadKey = lit≤ tt
told_few BadNumber = lit≤ tt
told_few KeyMissing = lit≤ tt
told_few BadLine = lit≤ tt

-- the answer to what is refused
pub refused_room : (f : Refusal) → length (answer_line (Refused f)) ≤ 71
unfolding answer_line
refused_room f = told_long (told f) (told_few f)
