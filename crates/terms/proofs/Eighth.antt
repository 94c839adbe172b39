-- Row 8 worked whole: nothing where its value is 0, else its T's over its sum.
use mathlib.Core.Path.{◌≡◌, sym, ◌∙◌}
use Prim.Native.Nat.{ℕ, suc, ◌^◌}
use native.Mathlib.Nat.{zero-mul, zero-div}
use native.Mathlib.Omega.{arith}
use lib.Dec.{lit<}
use lib.IntN.{ℤ, pos, negsuc, ◌+ℤ◌}
use borrow.Author.Tests.{lt-ltb}
use Rattle.whole.specs.Scale.{floor_scale}
use Rattle.whole.specs.laws.Biased.{sub_up}
use Rattle.reverse.specs.OfScaling.Scaled.{value_at, exp_of, tick_places, tick_limit}
use Rattle.reverse.specs.OfScaling.inner.Shifts.{UpTo}
use Rattle.reverse.specs.declared.Pair.{Pair}
use Rattle.reverse.specs.Sum.{sum_limit}
use Rattle.reverse.specs.inner.Pairs.{pair_of}
use Rattle.reverse.proofs.Standing.{stands}
use Rattle.card_laws.specs.OfCard.WorkedCard.{WorkedCard}
use Rattle.terms.specs.Rows.{Role, B1, C4, reverse, row8}
use Rattle.terms.specs.Values.{tick_of, sum_at}
use Rattle.terms.specs.inner.Terms.{Whole}

pub nothing : (z : ℤ) → floor_scale 0 z ≡ 0
nothing (pos e) = zero-mul (2 ^ e)
nothing (negsuc e) = zero-div (2 ^ suc e)

module _ (c : WorkedCard) (v : Role → Role → ℤ) where
  no_plus : c.reverse.a ≡ 0 → tick_of c v row8.plus ≡ 0
  no_plus e =
      let g = exp_of (v B1 C4) c.octave in
      rw (e, zero-mul g.digits) (nothing ((value_at c.reverse).power +ℤ g.power +ℤ pos tick_places))

  no_minus : c.reverse.a ≡ 0 → tick_of c v row8.minus ≡ 0
  no_minus e = rw e (nothing ((value_at c.reverse).power +ℤ pos tick_places))

  pub idle : c.reverse.a ≡ 0 → Whole c v row8 reverse B1 C4 0 0
  idle e =
      record {
        over = rw (no_plus e, no_minus e, e);
        ticks = λ f. rw e (sub_up 0 0 (omega arith));
        plus_small = lit< tt;
        minus_small = lit< tt;
      }

  pub over_sum_lem : {p m y : ℕ} {r : Pair} → (c.reverse.a ≡ 0 → ⊥) → UpTo tick_limit p (tick_of c v row8.plus) →
      UpTo tick_limit m (tick_of c v row8.minus) → UpTo sum_limit y (sum_at c v B1 C4) → r ≡ pair_of p m y →
      Whole c v row8 reverse B1 C4 r.plus r.minus
  over_sum_lem there a b s e =
      let w = stands a b s in
      rw e
      (record {
        over = rw (lt-ltb 0 c.reverse.a (omega arith)) w.over;
        ticks = λ f. rw (lt-ltb 0 c.reverse.a (omega arith)) (w.ticks (sym w.over ∙ f));
        plus_small = w.plus_small;
        minus_small = w.minus_small;
      })
