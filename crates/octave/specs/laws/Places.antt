-- Positions and exponentials of a raised voltage, u = V + span, without a sign; from these the bounds of m and n.
use Rattle.std.specs.Prelude.{◌≡◌, refl, ◌⊎◌, ℕ, suc, ◌+◌, ◌*◌, ◌-◌, ◌/◌, ◌%◌, ◌≤◌, ◌<◌, ℤ, ◌+ℤ◌, ◌*ℤ◌}
use Rattle.std.proofs.Math.Path.{sym, ap, ap₂}
use Rattle.std.proofs.Common.{subst, ◌∙◌, inl, inr, add-one}
use Rattle.std.proofs.Math.Nat.{add-mul-div_right, div-eq_of_lt-le, div-add-mod', mod-lt, div-le_of_le-mul}
use native.Mathlib.Omega.{arith}
use Rattle.std.proofs.Math.IntN.{pos, negsuc, nat_abs, sub_ℕ}
use Rattle.quotients.specs.OfWhole.laws.Biased.{below_or_not, sub_up, sub_down, sub_add, turned}
use Rattle.quotients.specs.OfWhole.Floor.{floor_div, floor_mod, floor_rest}
use Rattle.volts.specs.Volts.{span}
use Rattle.octave.specs.declared.Exponential.{Exponential}
use Rattle.octave.specs.Table.{parts, mantissa_of, mantissa_size, IsMantissa}
use Rattle.octave.specs.Position.{nanovolts, position_of, whole_of, part_of, octave_from, InRange}
use Rattle.octave.specs.Exponential.{exponential_of, bias}
use Rattle.octave.specs.inner.Reciprocal.{offset_of, place_of}

-- the position of the largest voltage for the least octave
abbrev farthest : ℕ
farthest = span * (nanovolts * parts) / octave_from

module _ (x w : ℕ) (l : octave_from ≤ w) where
  upper : sub_ℕ (place_of (x + span) w) (bias * parts) ≡ position_of (pos x) w
  unfolding place_of
  upper =
      let e : (x + span) * (nanovolts * parts) + offset_of w ≡ x * (nanovolts * parts) + bias * parts * w =
      omega arith in
      let k = x * (nanovolts * parts) / w in
      ap (λ (n : ℕ). sub_ℕ (n / w) (bias * parts)) e
      ∙ ap (λ (n : ℕ). sub_ℕ n (bias * parts)) (add-mul-div_right (x * (nanovolts * parts)) (bias * parts) (omega arith))
      ∙ sub_up (k + bias * parts) (bias * parts) (omega arith) ∙ ap pos (omega arith)

  lower : (u : ℕ) → u + suc x ≡ span → sub_ℕ (place_of u w) (bias * parts) ≡ position_of (negsuc x) w
  unfolding place_of
  lower u h =
      let n = (x + 1) * (nanovolts * parts) - 1 in
      let pw : 0 < w = omega arith in
      let s : n ≤ w * farthest = omega arith in
      let b : n / w ≤ farthest = div-le_of_le-mul w s in
      let k = bias * parts - 1 - n / w in
      let ka : k + n / w ≡ bias * parts - 1 = omega arith in
      let kw = ap (λ (y : ℕ). y * w) ka in
      let d = div-add-mod' n w in
      let m = mod-lt n pw in
      let e : (u * (nanovolts * parts) + offset_of w) / w ≡ k = div-eq_of_lt-le w (omega arith) (omega arith) in
      let g : negsuc x *ℤ pos (nanovolts * parts) ≡ negsuc n =
      turned (suc x * (nanovolts * parts)) (omega arith)
      ∙ ap (λ (y : ℕ). negsuc (y * (nanovolts * parts) - 1)) (sym (add-one x)) in
      ap (λ (y : ℕ). sub_ℕ y (bias * parts)) e ∙ sub_down k (bias * parts) (omega arith) ∙ ap negsuc (omega arith)
      ∙ sym (ap (λ (y : ℤ). floor_div y w) g)

-- a place is the position of the voltage, raised by the bias
pub place_position : (u w : ℕ) → octave_from ≤ w → sub_ℕ (place_of u w) (bias * parts) ≡ position_of (sub_ℕ u span) w
place_position u w l = split (below_or_not u span)
  where
    split : (u < span) ⊎ (span ≤ u) → sub_ℕ (place_of u w) (bias * parts) ≡ position_of (sub_ℕ u span) w
    split (inl h) = lower (span - suc u) w l u (omega arith) ∙ sym (ap (λ (z : ℤ). position_of z w) (sub_down u span h))
    split (inr h) =
        let e : u - span + span ≡ u = omega arith in
        subst (λ (n : ℕ). sub_ℕ (place_of n w) (bias * parts) ≡ position_of (pos (u - span)) w) e (upper (u - span) w l)
        ∙ sym (ap (λ (z : ℤ). position_of z w) (sub_up u span h))

-- whole octaves and parts of a raised position
raised_whole : (p : ℕ) → floor_div (sub_ℕ p (bias * parts)) parts ≡ sub_ℕ (p / parts) bias
raised_whole p = split (below_or_not p (bias * parts))
  where
    split : (p < bias * parts) ⊎ (bias * parts ≤ p) → floor_div (sub_ℕ p (bias * parts)) parts ≡ sub_ℕ (p / parts) bias
    split (inl h) =
        ap (λ (z : ℤ). floor_div z parts) (sub_down p (bias * parts) h) ∙ ap negsuc (omega arith)
        ∙ sym (sub_down (p / parts) bias (omega arith))
    split (inr h) =
        ap (λ (z : ℤ). floor_div z parts) (sub_up p (bias * parts) h) ∙ ap pos (omega arith)
        ∙ sym (sub_up (p / parts) bias (omega arith))

raised_part : (p : ℕ) → floor_mod (sub_ℕ p (bias * parts)) parts ≡ p % parts
raised_part p = split (below_or_not p (bias * parts))
  where
    split : (p < bias * parts) ⊎ (bias * parts ≤ p) → floor_mod (sub_ℕ p (bias * parts)) parts ≡ p % parts
    split (inl h) =
        let e : parts - suc ((bias * parts - suc p) % parts) ≡ p % parts = omega arith in
        ap (λ (z : ℤ). floor_mod z parts) (sub_down p (bias * parts) h) ∙ e
    split (inr h) =
        let e : (p - bias * parts) % parts ≡ p % parts = omega arith in
        ap (λ (z : ℤ). floor_mod z parts) (sub_up p (bias * parts) h) ∙ e

module _ (u w : ℕ) (l : octave_from ≤ w) where
  whole_is : whole_of (sub_ℕ u span) w ≡ sub_ℕ (place_of u w / parts) bias
  whole_is = ap (λ (z : ℤ). floor_div z parts) (sym (place_position u w l)) ∙ raised_whole (place_of u w)

  part_is : part_of (sub_ℕ u span) w ≡ place_of u w % parts
  part_is = ap (λ (z : ℤ). floor_mod z parts) (sym (place_position u w l)) ∙ raised_part (place_of u w)

  unbiased : (n : ℕ) → nat_abs (sub_ℕ n bias +ℤ pos bias) ≡ n
  unbiased n =
      let e : n + bias - (bias + 0) ≡ n = omega arith in
      ap nat_abs (sub_add n bias bias 0 ∙ sub_up (n + bias) (bias + 0) (omega arith)) ∙ e

  -- the exponential from the place
  pub exponential_raised : exponential_of (sub_ℕ u span) w
      ≡ record { m = mantissa_of (place_of u w % parts); n = place_of u w / parts }
  unfolding exponential_of
  exponential_raised =
      ap₂ (λ (f : ℕ) (z : ℤ). record { m = mantissa_of f; n = nat_abs (z +ℤ pos bias) }) part_is whole_is
      ∙ ap (λ (n : ℕ). record { m = mantissa_of (place_of u w % parts); n = n }) (unbiased (place_of u w / parts))

  -- and its exponent without the bias
  pub exponent_is : sub_ℕ (exponential_of (sub_ℕ u span) w).n bias ≡ whole_of (sub_ℕ u span) w
  exponent_is = ap (λ (g : Exponential). sub_ℕ g.n bias) exponential_raised ∙ sym whole_is

-- m is a mantissa
pub exponential_mantissa : (v : ℤ) (w : ℕ) → (exponential_of v w).m ≡ mantissa_of (part_of v w)
unfolding exponential_of
exponential_mantissa v w = refl

pub exponential_size : (v : ℤ) (w : ℕ) → IsMantissa (exponential_of v w).m
exponential_size v w =
    subst IsMantissa (sym (exponential_mantissa v w))
    (mantissa_size (part_of v w) (floor_rest (position_of v w) parts (omega arith)))

-- the largest n: as many octaves above the bias as the largest voltage has of the least octave
abbrev pub exponent_most : ℕ
exponent_most = bias + span * nanovolts / octave_from

module _ (u w : ℕ) (h : u ≤ 2 * span) (r : InRange w) where
  place_high : place_of u w ≤ bias * parts + farthest
  unfolding place_of
  place_high = div-le_of_le-mul w (omega (arith, r))

  pub exponent_small : (exponential_of (sub_ℕ u span) w).n ≤ exponent_most
  exponent_small =
      let e = ap (λ (g : Exponential). g.n) (exponential_raised u w r.least) in
      omega (arith, place_high)
