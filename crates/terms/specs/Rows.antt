-- The branches of a transistor as data: where each starts and ends, the T's it counts, and what it is divided by.
-- No branch is written anywhere else in specs/.
use Rattle.std.specs.Prelude.{Bool, true, false, List, [], ◌∷◌, ◌++◌, ℕ, length}
pub use Rattle.reverse.specs.OfScaling.Roles.{Role, E1, B1, B2, C1, C2, C4, S, E, B, C, C3, all_roles, roles, role_index}

-- the worked values of a card
pub data Value : Type 0 where
  s_n : Value
  bulk : Value
  side : Value
  nonideal : Value
  ex : Value
  sub : Value
  sf : Value
  r_ex : Value
  r_sub : Value
  reverse : Value
  g_e : Value
  g_bc : Value
  g_cc : Value
  g_blx : Value
  g_bli : Value

-- the octave, and the second octave
pub data Span : Type 0 where
  plain : Span
  second : Span

-- a value by itself, or times the exponential of a junction's voltage; or times the voltage from one role to another,
-- as far as that is above 0
pub data Term : Type 0 where
  alone : Value → Term
  across : Value → Span → Role → Role → Term
  through : Value → Role → Role → Term

-- what a divisor is a sum of: 2^20, or the root for a ratio at a junction's voltage
pub data Summand : Type 0 where
  unit : Summand
  root : Value → Role → Role → Summand

-- what a branch is divided by: nothing, or the sum of two; or the sum of two exponentials, that of a junction's voltage
-- and that of V_Lr, which counts only where a value is not 0
pub data Divisor : Type 0 where
  undivided : Divisor
  sum_of : Summand → Summand → Divisor
  exps : Value → Role → Role → Divisor

-- a branch: T(plus) - T(minus), and where there is a divisor, Q of that over it
pub record Row : Type 0 where
  pub from : Role
  pub to : Role
  pub plus : Term
  pub minus : Term
  pub divisor : Divisor

-- the main current, (4.52) and (4.53), over q_B, (4.56), (4.57), (4.148) and (4.151), with the Early factor as 1
abbrev pub row1 : Row
row1 =
    record {
      from = C2;
      to = E1;
      plus = across s_n plain B2 E1;
      minus = across s_n plain B2 C2;
      divisor = sum_of (root r_ex B2 E1) (root r_ex B2 C2);
    }

-- the ideal base current of the bulk, (4.58)
abbrev pub row2 : Row
row2 = record { from = B2; to = E1; plus = across bulk plain B2 E1; minus = alone bulk; divisor = undivided }

-- and of the side wall, (4.59)
abbrev pub row3 : Row
row3 = record { from = B1; to = E1; plus = across side plain B1 E1; minus = alone side; divisor = undivided }

-- the non-ideal base current, (4.60)
abbrev pub row4 : Row
row4 = record { from = B2; to = E1; plus = across nonideal second B2 E1; minus = alone nonideal; divisor = undivided }

-- the extrinsic base current, (4.65) to (4.67)
abbrev pub row5 : Row
row5 =
    record { from = B1; to = C4; plus = across ex plain B1 C4; minus = alone ex; divisor = sum_of unit (root r_ex B1 C4) }

-- X, what the substrate current is less than: (4.62a) for EXSUB 0, (4.62b) for EXSUB 1
abbrev pub term_x : Bool → Term
term_x false = alone sub
term_x true = across sub plain S C4

-- the substrate current, (4.62)
abbrev pub row6 : Bool → Row
row6 exsub =
    record {
      from = B1;
      to = S;
      plus = across sub plain B1 C4;
      minus = term_x exsub;
      divisor = sum_of unit (root r_sub B1 C4);
    }

-- the substrate's own junction, (4.64)
abbrev pub row7 : Row
row7 = record { from = S; to = C1; plus = across sf plain S C1; minus = alone sf; divisor = undivided }

-- the reverse non-ideal base current, (4.61)
abbrev pub row8 : Row
row8 =
    record {
      from = B1;
      to = C4;
      plus = across reverse plain B1 C4;
      minus = alone reverse;
      divisor = exps reverse B1 C4;
    }

-- a series resistor from p to q: what it lets through of the voltage from p to q, less what it does of that from q to
-- p.
-- One of them is nothing, so that this is the sign of the voltage times T of its size (`resistor_is` in leads/proofs)
abbrev pub resistor : Value → Role → Role → Row
resistor g p q = record { from = p; to = q; plus = through g p q; minus = through g q p; divisor = undivided }

-- R_E, R_Bc, R_Cc, R_Cblx and R_Cbli
abbrev pub row9 : Row
row9 = resistor g_e E E1

abbrev pub row10 : Row
row10 = resistor g_bc B B1

abbrev pub row11 : Row
row11 = resistor g_cc C C3

abbrev pub row12 : Row
row12 = resistor g_blx C3 C4

abbrev pub row13 : Row
row13 = resistor g_bli C4 C1

-- the branches of a card with this EXSUB, in order: its junctions, and its leads
abbrev pub junction_rows : Bool → List Row
junction_rows exsub = row1 ∷ row2 ∷ row3 ∷ row4 ∷ row5 ∷ row6 exsub ∷ row7 ∷ row8 ∷ []

abbrev pub lead_rows : List Row
lead_rows = row9 ∷ row10 ∷ row11 ∷ row12 ∷ row13 ∷ []

abbrev pub rows_for : Bool → List Row
rows_for exsub = junction_rows exsub ++ lead_rows

-- how many there are
abbrev pub branches : ℕ
branches = length (rows_for false)
