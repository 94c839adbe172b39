-- The two lent slices of a board, a voltage in microvolts and a total in ticks for each node: what turns them away,
-- what is kept of the voltages, and totals as they would stand.
use Rattle.std.specs.Prelude.{◌≡◌, Option, Some, None, Result, Ok, Err, Bool, cond, not, ◌||◌, List, map, ℕ, ◌-◌, eqb, length, get_or, replicate, ℤ, pos, negsuc, ◌-ℤ◌}
use Rattle.std.specs.Int.Signed.{le_z, lt_z}
use Rattle.whole.specs.Signed.{signed_span}
use Rattle.refusal.specs.declared.Refusal.{Refusal}
use Rattle.refusal.specs.declared.Refusal.TheVariants.{OutOfReach, OutOfRange}
use Rattle.volts.specs.Volts.{off_volts, kept_as}
use Rattle.given.specs.OfTotals.Gives.{nodes_most}
use Rattle.given.specs.OfTotals.Flow.{with_more}
use Rattle.given.specs.Lists.{any_of}

-- ---- 13: slices of another length, or a voltage outside its range

abbrev pub other_length : List ℤ → Bool
other_length l = not (eqb (length l) nodes_most)

abbrev pub off_slices : List ℤ → List ℤ → Bool
off_slices volts totals = other_length volts || (other_length totals || any_of off_volts volts)

-- both of their length
abbrev pub right_lengths : List ℤ → List ℤ → Bool
right_lengths volts totals = not (other_length volts || other_length totals)

-- the voltages as they are kept, where every one is in range
abbrev pub kept_volts : List ℤ → Option (List ℕ)
kept_volts volts = cond (any_of off_volts volts) None (Some (map kept_as volts))

-- the same where neither slice is turned away
abbrev pub kept_slices : List ℤ → List ℤ → Option (List ℕ)
kept_slices volts totals = cond (off_slices volts totals) None (Some (map kept_as volts))

-- ---- slices cleared, where both have their length, else 13; and what stands in them then

abbrev pub cleared : Bool → List ℤ → List ℤ
cleared good l = cond good (replicate nodes_most (pos 0)) l

pub record Clears (volts totals : List ℤ) (r : Result (Unit {0}) Refusal) (volts' totals' : List ℤ) : Type 0 where
  pub told : r ≡ cond (right_lengths volts totals) (Ok tt) (Err OutOfRange)
  pub volts_are : volts' ≡ cleared (right_lengths volts totals) volts
  pub totals_are : totals' ≡ cleared (right_lengths volts totals) totals

-- ---- 10: a total that would leave the 64-bit range, from -2^63 to 2^63 - 1

abbrev pub outside64 : ℤ → Bool
outside64 z = le_z (pos signed_span) z || lt_z z (negsuc (signed_span - 1))

abbrev pub some_outside : List ℤ → Bool
some_outside totals = any_of outside64 totals

-- one total; none where it leaves the range
abbrev pub standing_at : ℤ → Option ℤ
standing_at z = cond (outside64 z) None (Some z)

-- all of them, each with what comes in at its node and less what goes out there
abbrev pub changed : List ℤ → List ℤ → List ℤ → List ℤ
changed totals coming going = with_more totals (λ (n : ℕ). get_or coming n (pos 0) -ℤ get_or going n (pos 0))

-- that, where all of them stay in range
abbrev pub stood : List ℤ → List ℤ → List ℤ → Option (List ℤ)
stood totals coming going =
    cond (some_outside (changed totals coming going)) None (Some (changed totals coming going))

-- the same in place: where one leaves, 10, and all stay as they are
pub record StandsIn (totals coming going : List ℤ) (r : Result (Unit {0}) Refusal) (totals' : List ℤ) : Type 0 where
  pub told : r ≡ cond (some_outside (changed totals coming going)) (Err OutOfReach) (Ok tt)
  pub totals_are : totals' ≡ cond (some_outside (changed totals coming going)) totals (changed totals coming going)
