-- What loading asks of the clipped numbers of a record, and those that are worked.
use Rattle.std.specs.Prelude.{Bool, true, false, cond, ◌&&◌, ◌||◌, List, [], ◌∷◌, ◌++◌, ℕ, suc, eqb, get_or, Float}
use Rattle.std.specs.Float.{nan, binary64}
use Rattle.std.specs.Float.Ieee.{of_bits, lt, eq, mul}
use Rattle.working.specs.OfClip.Numbers as number
use Rattle.working.specs.OfClip.Limits.{zero, one, wide, narrow}
use Rattle.working.specs.OfClip.Record.{is_wide, word_at}
use Rattle.working.specs.OfClip.Clip.{clipped_up}
use Rattle.working.specs.declared.Parameters.{Parameters}
use Rattle.working.specs.Work.{worked_of, all_finite}
use Rattle.loading.specs.Octave.{second_good}
use Rattle.loading.specs.Knee.{knee_good}

-- what the words mean that a record of version 1 has not: I_Br 0, V_Lr 0, no resistors, polarity +1, and nothing spare.
-- Of the resistors version 2 can say no such thing: each of its own is clipped to 0.001 at least
abbrev pub missing : List Float
missing = zero ∷ zero ∷ zero ∷ zero ∷ zero ∷ one ∷ zero ∷ zero ∷ []

-- the clipped numbers that are judged: all of a record of version 2; of version 1 the sixteen, and the missing ones
abbrev pub numbers_for : Bool → List ℕ → List Float
numbers_for true s = clipped_up s wide
numbers_for false s = clipped_up s narrow ++ missing

abbrev pub judged_numbers : List ℕ → List Float
judged_numbers s = numbers_for (is_wide s) s

-- number i of the clipped ones
abbrev pub at : List Float → ℕ → Float
at x i = get_or x i nan

-- whether the card has series resistors. R_E says it: where a record has the word it is clipped to 0.001 at least, and
-- the 0 of version 1 means that there are none (`leads_by_version` of `card_laws`)
abbrev pub has_leads : List Float → Bool
has_leads x = lt zero (at x number.re)

-- a resistance: without series resistors 0, whatever the word is
abbrev pub resistance_of : List Float → ℕ → Float
resistance_of x i = cond (has_leads x) (at x i) zero

-- those that are worked
abbrev pub parameters_of : List Float → Parameters
parameters_of x = record {
  mult = at x number.mult;
  is = at x number.is;
  ik = at x number.ik;
  bf = at x number.bf;
  xibi = at x number.xibi;
  ibf = at x number.ibf;
  bri = at x number.bri;
  iss = at x number.iss;
  icss = at x number.icss;
  iks = at x number.iks;
  ibr = at x number.ibr;
  re = resistance_of x number.re;
  rbc = resistance_of x number.rbc;
  rcc = resistance_of x number.rcc;
  rcblx = resistance_of x number.rcblx;
  rcbli = resistance_of x number.rcbli;
}

abbrev pub mlf : List Float → Float
mlf x = at x number.mlf

abbrev pub rcblx : List Float → Float
rcblx x = at x number.rcblx

abbrev pub rcbli : List Float → Float
rcbli x = at x number.rcbli

abbrev pub exsub : List Float → Float
exsub x = at x number.exsub

abbrev pub icss : List Float → Float
icss x = at x number.icss

abbrev pub octave : List Float → Float
octave x = at x number.octave

abbrev pub level : List Float → Float
level x = at x number.level

abbrev pub vlr : List Float → Float
vlr x = at x number.vlr

abbrev pub polarity : List Float → Float
polarity x = at x number.polarity

-- the polarity of a PNP; an NPN has +1
abbrev pub minus_one : Float
minus_one = of_bits binary64 0xbff0_0000_0000_0000

-- the product whose whole part is the second octave
abbrev pub product : List Float → Float
product x = mul binary64 (mlf x) (octave x)

-- 504
abbrev pub level504 : Float
level504 = of_bits binary64 0x407f_8000_0000_0000

-- 0 or 1
abbrev pub is_switch : Float → Bool
is_switch x = eq x zero || eq x one

-- both spare words are +0 by their bits, as the record has them before clipping; past its end there are none but zeros
abbrev pub spares_good : List ℕ → Bool
spares_good s = eqb (word_at s number.spare) 0 && eqb (word_at s (suc number.spare)) 0

-- +1 or -1
abbrev pub is_polarity : Float → Bool
is_polarity x = eq x one || eq x minus_one

-- EXSUB is a switch, the polarity is one of the two, and the spare words are good
abbrev pub settings_good : Bool → List Float → Bool
settings_good spares x = is_switch (exsub x) && (is_polarity (polarity x) && spares)

-- I_CSs is below zero; -0 is not
abbrev pub icss_below : List Float → Bool
icss_below x = lt (icss x) zero

-- the product and each worked value is finite, the second octave is not above its limit, and V_Lr is not beyond its own
abbrev pub within_reach : List Float → Bool
within_reach x = second_good (product x) && (knee_good (vlr x) && all_finite (worked_of (parameters_of x)))
