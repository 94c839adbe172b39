-- 'Working a card': fifteen values in f64, one rounding per operation, in the order written.
use Rattle.std.specs.Prelude.{Bool, true, cond, ◌&&◌, List, [], ◌∷◌, ℕ, Float}
use Rattle.std.specs.Float.{binary64}
use Rattle.std.specs.Float.Ieee.{of_bits, eq, mul, div, sub}
use Rattle.std.specs.Float.Ieee.Scale.{finite}
use Rattle.working.specs.declared.Parameters.{Parameters}
use Rattle.working.specs.declared.Worked.{Worked}
use Rattle.clip.specs.Limits.{zero, one}

abbrev pub four : Float
four = of_bits binary64 0x4010_0000_0000_0000

-- microvolts of a volt
abbrev pub million : Float
million = of_bits binary64 0x412e_8480_0000_0000

-- what a resistor lets through at a microvolt, in two roundings; a resistance of 0 has no such value, and 0 stands
-- there
abbrev pub conductance_of : Float → Float → Float
conductance_of mult r = cond (eq r zero) zero (div binary64 mult (mul binary64 r million))

abbrev pub worked_of : Parameters → Worked
worked_of p =
    let sn = mul binary64 p.is p.mult in record {
      sn = sn;
      bulk = div binary64 (mul binary64 (sub binary64 one p.xibi) sn) p.bf;
      side = div binary64 (mul binary64 p.xibi sn) p.bf;
      nonideal = mul binary64 p.ibf p.mult;
      ex = div binary64 sn p.bri;
      sub = mul binary64 p.iss p.mult;
      sf = mul binary64 p.icss p.mult;
      rex = div binary64 (mul binary64 four p.is) p.ik;
      rsub = div binary64 (mul binary64 four p.is) p.iks;
      reverse = mul binary64 p.ibr p.mult;
      ge = conductance_of p.mult p.re;
      gbc = conductance_of p.mult p.rbc;
      gcc = conductance_of p.mult p.rcc;
      gblx = conductance_of p.mult p.rcblx;
      gbli = conductance_of p.mult p.rcbli;
    }

-- how many values are worked
abbrev pub value_count : ℕ
value_count = 15

-- the conductances of the five resistors
abbrev pub leads_of : Worked → List Float
leads_of w = w.ge ∷ w.gbc ∷ w.gcc ∷ w.gblx ∷ w.gbli ∷ []

-- the fifteen in a row
abbrev pub values_of : Worked → List Float
values_of w =
    w.sn ∷ w.bulk ∷ w.side ∷ w.nonideal ∷ w.ex ∷ w.sub ∷ w.sf ∷ w.rex ∷ w.rsub ∷ w.reverse
    ∷ leads_of w

-- whether a test passes each number
abbrev pub all : (Float → Bool) → List Float → Bool
all p [] = true
all p (x ∷ l) = p x && all p l

-- each of the fifteen is finite
abbrev pub all_finite : Worked → Bool
all_finite w = all finite (values_of w)
