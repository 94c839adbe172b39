-- The smallest digits are the shortest form: what `form_of` says is what the rule asks for, and a word has no second
-- one.
use mathlib.Core.Path.{◌≡◌, refl, sym, ap, subst, ◌∙◌}
use mathlib.Core.Logic.{inl, inr}
use mathlib.Core.Bool.{Bool, true, false, cond, ◌&&◌, true≢false}
use Prim.Native.Nat.{ℕ, zero, suc, ◌+◌, ◌^◌, ◌≤◌, ◌<◌}
use native.Mathlib.Nat.{lt_of_le_of_lt}
use native.Mathlib.Omega.{arith}
use lib.Dec.{ltb, eqb}
use borrow.Author.Tests.{lt-ltb, le-leb, lt-leb, ltb-true, ltb-false, eqb-true, eqb-false, eq-eqb}
use Rattle.std.specs.Prelude.{Option, Some, None}
use Rattle.decimal.specs.declared.Decimal.{Decimal}
use Rattle.decimal.specs.Decimal.{decimal, digits_end, powers_end, sign_weight, size_bits, word_of}
use Rattle.decimal.proofs.Order.{size_zero, size_under}
use Rattle.shortest.specs.Form.{minus_of, power_for, digits_for, found_if, form_if, form_of}
use Rattle.shortest.specs.laws.Firsts.{first_passes, first_before}
use Rattle.shortest.specs.laws.Least.{ReadsBack, Shortest, Formed}
use Rattle.shortest.proofs.Powers.{less_or_not}
use Rattle.shortest.proofs.Forms.{form_is, zero_form}
use Rattle.shortest.proofs.OnlyOne.{only_one}

module _ (w : ℕ) (z : w ≡ 0 → ⊥) where
  -- a form of w has digits, and w's sign
  some : (m : Bool) (e p : ℕ) → ReadsBack w m e p → 0 < e
  some m (suc e) p f = omega arith
  some m zero p f = absurd (z (form_is f ∙ none m ∙ size_zero p))
    where
      none : (b : Bool) → cond (b && false) sign_weight 0 + size_bits 0 p ≡ size_bits 0 p
      none true = omega arith
      none false = omega arith

  own_sign : (m : Bool) (e p : ℕ) → ReadsBack w m e p → m ≡ minus_of w
  own_sign m e p f =
      by m (size_bits e p) (size_under e p f.digits f.power)
      (form_is f ∙ ap (λ (b : Bool). cond (m && b) sign_weight 0 + size_bits e p) (lt-ltb 0 e (some m e p f)))
    where
      by : (m : Bool) (s : ℕ) → s < sign_weight → w ≡ cond (m && true) sign_weight 0 + s → m ≡ minus_of w
      by true s h e = sym (le-leb sign_weight w (omega arith))
      by false s h e = sym (lt-leb sign_weight w (omega arith))

  -- it passes both tests
  power_there : (m : Bool) (e p : ℕ) → ReadsBack w m e p → power_for w e < powers_end
  unfolding power_for
  power_there m e p f = elim (less_or_not (power_for w e) powers_end) [
    | inl h ↦ h
    | inr h ↦
        let l = f.power in
        let own : word_of (minus_of w) e p ≡ w =
        ap (λ (b : Bool). word_of b e p) (sym (own_sign m e p f)) ∙ f.bits in
        absurd (true≢false (sym (eq-eqb _ _ own)
        ∙ first_before (λ (q : ℕ). eqb (word_of (minus_of w) e q) w) powers_end p (omega arith)))
  ]

  least : (m : Bool) (e p : ℕ) → ReadsBack w m e p → digits_for w ≤ e
  unfolding digits_for
  least m e p f = elim (less_or_not e (digits_for w)) [
    | inl h ↦ absurd (true≢false (sym (lt-ltb _ _ (power_there m e p f))
        ∙ first_before (λ (d : ℕ). ltb (power_for w d) powers_end) digits_end e h))
    | inr h ↦ h
  ]

  module _ (h : digits_for w < digits_end) where
    power_in : power_for w (digits_for w) < powers_end
    unfolding digits_for
    power_in = ltb-true _ _ (first_passes (λ (d : ℕ). ltb (power_for w d) powers_end) digits_end h)

    form : ReadsBack w (minus_of w) (digits_for w) (power_for w (digits_for w))
    unfolding power_for
    form = record {
      digits = h;
      power = power_in;
      bits = eqb-true _ _ (first_passes (λ (q : ℕ). eqb (word_of (minus_of w) (digits_for w) q) w) powers_end power_in);
    }

    shortest : Shortest w (minus_of w) (digits_for w) (power_for w (digits_for w))
    shortest = let a = some _ _ _ form in record {
      form = form;
      fewest = λ (m : Bool) (e p k : ℕ) (f : ReadsBack w m e p) (l : e < 10 ^ k). lt_of_le_of_lt (least m e p f) l;
      smallest = least;
      plain = λ (n : digits_for w ≡ 0). absurd (omega arith);
      zero = λ (n : digits_for w ≡ 0). absurd (omega arith);
    }

  nothing : digits_end ≤ digits_for w → (m : Bool) (e p : ℕ) → ReadsBack w m e p → ⊥
  nothing h m e p f = let l = f.digits in let k = least m e p f in omega arith

  found : (b : Bool) → ltb (digits_for w) digits_end ≡ b → Formed w (found_if b w)
  found true e = shortest (ltb-true _ _ e)
  found false e = nothing (ltb-false _ _ e)

-- what `form_of` gives is the shortest form, and where it gives nothing there is none
pub formed : (w : ℕ) → Formed w (form_of w)
unfolding form_of
formed w = by (eqb w 0) refl
  where
    by : (b : Bool) → eqb w 0 ≡ b → Formed w (form_if b w)
    by true e = zero_form w (eqb-true w 0 e)
    by false e = found w (eqb-false w 0 e) (ltb (digits_for w) digits_end) refl

-- so that it is what any search finds that finds the shortest
pub formed_is : (w : ℕ) (r : Option Decimal) → Formed w r → r ≡ form_of w
formed_is w r f = same r (form_of w) f (formed w)
  where
    same : (r s : Option Decimal) → Formed w r → Formed w s → r ≡ s
    same (Some x) (Some y) f g =
        let o = only_one w x.minus y.minus x.digits y.digits x.power y.power f g in
        ap (λ (b : Bool). Some (decimal b x.digits x.power)) o.0
        ∙ ap (λ (d : ℕ). Some (decimal y.minus d x.power)) o.1
        ∙ ap (λ (q : ℕ). Some (decimal y.minus y.digits q)) o.2
    same (Some x) None f g = absurd (g x.minus x.digits x.power f.form)
    same None (Some y) f g = absurd (f y.minus y.digits y.power g.form)
    same None None f g = refl

-- no number that reads back to a word has fewer digits than the form that is given for it
pub fewest : (w : ℕ) (m : Bool) (d q : ℕ) → form_of w ≡ Some (decimal m d q) → (n : Bool) (e p k : ℕ) → ReadsBack w n e p
    → e < 10 ^ k → d < 10 ^ k
fewest w m d q h = (subst (Formed w) h (formed w)).fewest
