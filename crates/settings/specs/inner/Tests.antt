-- The tests of clipped numbers that the code makes before it works anything: what the first that fails draws.
use Rattle.std.specs.Prelude.{Bool, true, false, not, Result, Ok, Err, List, Float}
use Rattle.std.specs.Float.Ieee.{eq}
use Rattle.refusal.specs.declared.Refusal.{Refusal}
use Rattle.refusal.specs.declared.Refusal.TheVariants.{WrongLevel, BadExsub, NegativeIcss, BadOctave}
use Rattle.octaves.specs.OfLoading.Octave.{octave_good}
use Rattle.octaves.specs.OfLoading.Numbers.{level, level504, settings_good, icss_below, octave}

-- what comes after a test that passes, or the refusal that it draws
abbrev pub unless_passed : Bool → Refusal → Result (Unit {0}) Refusal → Result (Unit {0}) Refusal
unless_passed true f next = next
unless_passed false f next = Err f

-- 7, 8, 19, 9
abbrev pub first_wrong : Bool → List Float → Result (Unit {0}) Refusal
first_wrong spares x =
    unless_passed (eq (level x) level504) WrongLevel
    (unless_passed (settings_good spares x) BadExsub
    (unless_passed (not (icss_below x)) NegativeIcss (unless_passed (octave_good (octave x)) BadOctave (Ok tt))))
