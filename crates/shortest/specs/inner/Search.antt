-- The search for a size's shortest form, over the powers from the highest down.
use Rattle.std.specs.Prelude.{◌≡◌, Bool, Option, Some, None, ℕ, ◌≤◌, ◌<◌}
use Rattle.decimal.specs.declared.Decimal.{Decimal}
use Rattle.decimal.specs.Decimal.{digits_end, powers_end, size_bits}

-- d with the power q is a form of the size w
pub record Reads (w d q : ℕ) : Type 0 where
  pub digits : d < digits_end
  pub power : q < powers_end
  pub bits : size_bits d q ≡ w

-- a form of w, and no form has smaller digits
pub record Smallest (w d q : ℕ) : Type 0 where
  pub reads : Reads w d q
  pub least : (e p : ℕ) → Reads w e p → d ≤ e

-- w has no form with the power q or a higher one
pub record NoneAbove (w q : ℕ) : Type 0 where
  pub none : (e p : ℕ) → q ≤ p → Reads w e p → ⊥

-- the smallest form of w with its sign, or that w has none
abbrev pub Searched : Bool → ℕ → Option Decimal → Type 0
Searched minus w (Some x) = (x.minus ≡ minus) × Smallest w x.digits x.power
Searched minus w None = NoneAbove w 0
