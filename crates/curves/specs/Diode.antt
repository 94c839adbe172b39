-- The shape of the branches 2, 3, 4 and 7: one junction's exponential less one, times a value.
use Rattle.std.specs.Prelude.{◌≡◌, ℕ}
use Rattle.terms.specs.Rows.{Role, Value, Span, alone, across, undivided, Row, row2, row3, row4, row7}

-- T(x G(V)) - T(x), with V from the role where the branch starts to the one where it ends
abbrev pub diode : Value → Span → Role → Role → Row
diode x span p q = record { from = p; to = q; plus = across x span p q; minus = alone x; divisor = undivided }

-- a row of that shape
pub record Diode (r : Row) : Type 0 where
  pub value : Value
  pub span : Span
  pub is : r ≡ diode value span r.from r.to

-- the four branches, and their places among the currents of a transistor, counted from 0
pub data DiodeAt : ℕ → Row → Type 0 where
  two : DiodeAt 1 row2
  three : DiodeAt 2 row3
  four : DiodeAt 3 row4
  seven : DiodeAt 6 row7
