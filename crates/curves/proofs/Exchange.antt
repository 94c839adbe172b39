-- Branch 1 with the voltages of E1 and C2 exchanged: the same current the other way, and the same overload.
use mathlib.Core.Path.{◌≡◌, refl, sym, ap₂, ◌∙◌}
use mathlib.Core.Bool.{Bool, true, false, ◌||◌}
use mathlib.Core.List.{List, [], ◌∷◌}
use Prim.Native.Nat.{ℕ, ◌+◌}
use native.Mathlib.Nat.{add_comm}
use lib.Dec.{ltb}
use lib.IntN.{ℤ, neg_ℤ, sub_ℕ, ◌-ℤ◌}
use Rattle.quotients.specs.Quotient.{quotient_of}
use Rattle.card.specs.declared.WorkedCard.{WorkedCard}
use Rattle.terms.specs.Rows.{Role, E1, B2, C2, r_ex, root, row1}
use Rattle.terms.specs.Values.{bias_of, tick_of, ratio_of}
use Rattle.std.specs.Prelude.{None}
use Rattle.rows.specs.Ticks.{summand_of, quotient_shift, row_ticks}
use Rattle.rows.specs.Outcome.{tick_limit, ratio_limit, some_above, over_at, first_over}
use Rattle.curves.specs.Exchange.{Exchanged, Crossed}
use Rattle.curves.proofs.Signs.{sub_turned, quotient_turned}

-- a quotient of a difference over a sum, with both pairs exchanged
quotient_exchanged : (a b s x y : ℕ) →
    quotient_of (sub_ℕ b a) s (y + x) ≡ neg_ℤ (quotient_of (sub_ℕ a b) s (x + y))
quotient_exchanged a b s x y =
    ap₂ (λ (z : ℤ) (d : ℕ). quotient_of z s d) (sym (sub_turned a b)) (add_comm y x)
    ∙ quotient_turned (sub_ℕ a b) s (x + y)

-- a test of two numbers, exchanged
either_way : (s t : Bool) → t || (s || false) ≡ s || (t || false)
either_way true true = refl
either_way true false = refl
either_way false true = refl
either_way false false = refl

above_exchanged : (limit x y : ℕ) → some_above limit (y ∷ x ∷ []) ≡ some_above limit (x ∷ y ∷ [])
above_exchanged limit x y = either_way (ltb limit x) (ltb limit y)

-- voltages exchanged are exchanged by junction
pub crossed : {volts others : List ℤ} → Exchanged volts others → Crossed (bias_of volts) (bias_of others)
crossed x =
    record {
      emitter = ap₂ ◌-ℤ◌ x.base x.emitter;
      collector = ap₂ ◌-ℤ◌ x.base x.collector;
    }

module _ (c : WorkedCard) {v w : Role → Role → ℤ} (x : Crossed v w) where
  pub exchange_negates : row_ticks c w row1 ≡ neg_ℤ (row_ticks c v row1)
  exchange_negates =
      rw (x.emitter, x.collector)
      (quotient_exchanged (tick_of c v row1.plus) (tick_of c v row1.minus) quotient_shift
      (summand_of c v (root r_ex B2 E1)) (summand_of c v (root r_ex B2 C2)))

  -- by a T or by a ratio
  pub exchange_overloads : (k : ℕ) → first_over c w k (row1 ∷ []) ≡ first_over c v k (row1 ∷ [])
  exchange_overloads k =
      rw (x.emitter, x.collector)
      (ap₂ (λ (s t : Bool). over_at s t k None)
      (above_exchanged tick_limit (tick_of c v row1.plus) (tick_of c v row1.minus))
      (above_exchanged ratio_limit (ratio_of c v (root r_ex B2 E1)) (ratio_of c v (root r_ex B2 C2))))
