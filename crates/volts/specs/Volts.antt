-- The range of voltages, in microvolts, and voltages as they are kept: raised so that none is negative.
use Rattle.std.specs.Prelude.{Bool, false, Option, Some, None, cond, ◌||◌, List, [], ◌∷◌, ℕ, suc, ◌+◌, ◌-◌, ◌*◌, ◌≤◌, get_or, ℤ, pos, negsuc}
use Rattle.std.proofs.Math.IntN.{sub_ℕ}
use Rattle.std.specs.Int.Signed.{lt_z}

-- the largest voltage of a node, of either sign: 2.5 V
abbrev pub volts_most : ℕ
volts_most = 2500000

-- the largest voltage from one node to another, of either sign
abbrev pub span : ℕ
span = 2 * volts_most

-- a voltage outside the range
abbrev pub off_volts : ℤ → Bool
off_volts v = lt_z (pos volts_most) v || lt_z v (negsuc (volts_most - 1))

-- one of several outside it
abbrev pub some_off : List ℤ → Bool
some_off [] = false
some_off (v ∷ vs) = off_volts v || some_off vs

-- a voltage raised by the largest one
abbrev pub kept_as : ℤ → ℕ
kept_as (pos n) = volts_most + n
kept_as (negsuc n) = volts_most - suc n

-- the voltage that is kept as x
abbrev pub given_back : ℕ → ℤ
given_back x = sub_ℕ x volts_most

-- a voltage as it is kept, if it is in range
abbrev pub keeping : ℤ → Option ℕ
keeping v = cond (off_volts v) None (Some (kept_as v))

-- the difference of two kept voltages, raised by the span
abbrev pub across_of : ℕ → ℕ → ℕ
across_of a b = a + span - b

-- a number that a voltage in range is kept as
pub record Near (x : ℕ) : Type 0 where
  pub near : x ≤ span

-- and a list of them
pub record AllNear (l : List ℕ) : Type 0 where
  pub each : (k : ℕ) → get_or l k 0 ≤ span
