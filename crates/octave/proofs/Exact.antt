-- Division by an octave as products and shifts: a reciprocal with 54 binary places loses nothing.
use mathlib.Core.Path.{◌≡◌, sym, ap, subst, ◌∙◌}
use Prim.Native.Nat.{ℕ, ◌+◌, ◌*◌, ◌-◌, ◌/◌, ◌%◌, ◌^◌, ◌≤◌, ◌<◌}
use native.Mathlib.Nat.{le_of_mul-le-mul_right, lt_of_mul-lt-mul_right, mul-le-mul, mul-le-mul_left, mul-le-mul_right}
use native.Mathlib.Nat.{mul-add-div_right, div-div-eq-div-mul, div-eq_of_lt-le, div-add-mod', div-le_of_le-mul}
use native.Mathlib.Nat.{mod-lt, mod-eq_of_lt}
use native.Mathlib.Omega.{arith}
use Rattle.quotients.specs.OfWhole.Scale.{held_at, stays_below}
use Rattle.quotients.specs.Quotient.{shifted_quotient}
use Rattle.volts.specs.Volts.{span}
use Rattle.octave.specs.declared.Reciprocal.{Reciprocal}
use Rattle.octave.specs.Table.{parts}
use Rattle.octave.specs.Position.{nanovolts, octave_from, InRange}
use Rattle.octave.specs.Exponential.{bias}
use Rattle.octave.specs.inner.Reciprocal.{fine_places, half_places, slack, scale_of, offset_of, place_of}
use Rattle.octave.specs.inner.Reciprocal.{reciprocal_of, Placeable}

-- m and c are k * s and z * s over w, rounded downward; e makes up for the u + 1 roundings and is lost in the last one
module _ (u w k z s m c q e i r t : ℕ)
    (m-is : m * w + r ≡ k * s) (c-is : c * w + t ≡ z * s) (q-is : q * w + i ≡ u * k + z)
    (r_small : r ≤ w) (t-small : t ≤ w) (i-small : i < w) (enough : u + 1 ≤ e) (small : e * w < s) where
  not_less : q * s ≤ u * m + c + e
  not_less =
      le_of_mul-le-mul_right {k = w}
      (omega (
        arith,
        ap (λ (x : ℕ). u * x) m-is,
        ap (λ (x : ℕ). x * s) q-is,
        mul-le-mul_left u r_small,
        mul-le-mul_right w enough,
      ))
      (omega arith)

  not_more : u * m + c + e < (q + 1) * s
  not_more =
      lt_of_mul-lt-mul_right w
      (omega (arith, ap (λ (x : ℕ). u * x) m-is, ap (λ (x : ℕ). x * s) q-is, mul-le-mul_right s i-small))

  exact : (u * m + c + e) / s ≡ q
  exact = div-eq_of_lt-le s not_less not_more

-- the product by halves of 32 bits, the shift by 32 and 22
halves : (u h l a b d : ℕ) → 0 < b → (u * h + (u * l + a) / b) / d ≡ (u * (h * b + l) + a) / (b * d)
halves u h l a b d p =
    let e : u * h * b + (u * l + a) ≡ u * (h * b + l) + a = omega arith in
    ap (λ (x : ℕ). x / d) (sym (mul-add-div_right p (u * h) (u * l + a)))
    ∙ div-div-eq-div-mul (u * h * b + (u * l + a)) b d
    ∙ ap (λ (x : ℕ). x / (b * d)) e

-- the code's numbers
abbrev fine : ℕ
fine = nanovolts * parts

abbrev unit : ℕ
unit = 2 ^ fine_places

abbrev half : ℕ
half = 2 ^ half_places

abbrev top : ℕ
top = 2 ^ (fine_places - half_places)

-- the shifts that 64 bits have room for, of the reciprocal and of the offset's rest
abbrev scale_first : ℕ
scale_first = 37

abbrev rest_first : ℕ
rest_first = 34

-- the limit at which neither is held
abbrev word_most : ℕ
word_most = 2 ^ 64 - 1

abbrev scale_most : ℕ
scale_most = fine * unit / octave_from + 1

-- how large the fields are
pub record Small (h l b a : ℕ) : Type 0 where
  pub high_small : h ≤ scale_most / half
  pub low_small : l < half
  pub base_small : b ≤ bias * parts
  pub add_small : a ≤ unit + slack

-- the rest of the offset, by the reciprocal
abbrev rest_of : ℕ → ℕ
rest_of w = offset_of w % w * unit / w

module _ (w : ℕ) (r : InRange w) where
  there : 0 < w
  there = omega (arith, r)

  scale_small : scale_of w ≤ scale_most
  unfolding scale_of
  scale_small = div-le_of_le-mul w (omega (arith, r))

  rest_small : rest_of w ≤ unit
  rest_small = div-le_of_le-mul w (omega (arith, mod-lt (offset_of w) there))

  base_low : offset_of w / w ≤ bias * parts
  base_low = div-le_of_le-mul w (omega arith)

  pub all_small : Small (scale_of w / half) (scale_of w % half) (offset_of w / w) (rest_of w + slack)
  all_small =
      record {
        high_small = omega (arith, scale_small);
        low_small = omega arith;
        base_small = base_low;
        add_small = omega (arith, rest_small);
      }

  module _ (u : ℕ) (near : u ≤ 2 * span) where
    -- the quotient that is left when the offset's whole part is taken out
    quotient_is : (u * scale_of w + (rest_of w + slack)) / unit ≡ (u * fine + offset_of w % w) / w
    unfolding scale_of
    quotient_is =
        let z = offset_of w % w in
        let n = fine * unit in
        let e : u * (n / w) + (z * unit / w + slack) ≡ u * (n / w) + z * unit / w + slack = omega arith in
        ap (λ (x : ℕ). x / unit) e
        ∙ exact u w fine z unit (n / w) (z * unit / w) ((u * fine + z) / w) slack
        ((u * fine + z) % w) (n % w) (z * unit % w)
        (div-add-mod' n w) (div-add-mod' (z * unit) w) (div-add-mod' (u * fine + z) w)
        (omega (arith, mod-lt n there)) (omega (arith, mod-lt (z * unit) there)) (mod-lt (u * fine + z) there)
        (omega arith) (omega (arith, r))

    pub place_is :
        offset_of w / w + (u * (scale_of w / half) + (u * (scale_of w % half) + (rest_of w + slack)) / half) / top
        ≡ place_of u w
    unfolding place_of
    place_is =
        let b = offset_of w / w in
        let a = rest_of w + slack in
        let e : scale_of w / half * half + scale_of w % half ≡ scale_of w = omega arith in
        let g : b * w + (u * fine + offset_of w % w) ≡ u * fine + offset_of w =
        omega (arith, div-add-mod' (offset_of w) w) in
        ap (λ (x : ℕ). b + x)
        (halves u (scale_of w / half) (scale_of w % half) a half top (omega arith)
        ∙ ap (λ (x : ℕ). (u * x + a) / unit) e
        ∙ quotient_is)
        ∙ sym (mul-add-div_right there b (u * fine + offset_of w % w))
        ∙ ap (λ (x : ℕ). x / w) g

-- the fields themselves
module _ {u : ℕ} {o : Reciprocal} (k : Placeable u o) where
  fields_small : Small o.high o.low o.base o.add
  unfolding reciprocal_of
  fields_small =
      subst (λ (p : Reciprocal). Small p.high p.low p.base p.add) (sym k.reciprocal.is)
      (all_small o.w k.reciprocal.range)

  pub fields_place : o.base + (u * o.high + (u * o.low + o.add) / half) / top ≡ place_of u o.w
  unfolding reciprocal_of
  fields_place =
      subst (λ (p : Reciprocal). p.base + (u * p.high + (u * p.low + p.add) / half) / top ≡ place_of u o.w)
      (sym k.reciprocal.is)
      (place_is o.w k.reciprocal.range u k.near)

  -- what `place` works with keeps within its words
  pub record Room : Type 0 where
    pub low_product : u * o.low ≤ 2 * span * half
    pub high_product : u * o.high ≤ 2 * span * (scale_most / half)
    pub small : Small o.high o.low o.base o.add

  pub room : Room
  room =
      let l : o.low ≤ half = omega (arith, fields_small) in
      record {
        low_product = mul-le-mul k.near l;
        high_product = mul-le-mul k.near fields_small.high_small;
        small = fields_small;
      }

-- what `reciprocal_of` gets from its two quotients
module _ (w : ℕ) (r : InRange w) where
  pub scale_held : (x : ℕ) →
      x ≡ held_at word_most (shifted_quotient (fine * 2 ^ scale_first) (fine_places - scale_first) w) → x ≡ scale_of w
  unfolding scale_of
  scale_held x e =
      e
      ∙ stays_below word_most (shifted_quotient (fine * 2 ^ scale_first) (fine_places - scale_first) w)
      (omega (arith, scale_small w r))

  pub rest_held : (x : ℕ) →
      x ≡ held_at word_most (shifted_quotient ((offset_of w % w * 2 ^ rest_first) % 2 ^ 64) (fine_places - rest_first) w) →
      x ≡ rest_of w
  rest_held x e =
      let z = offset_of w % w * 2 ^ rest_first in
      let s = fine_places - rest_first in
      let m : z < 2 ^ 64 = omega (arith, r, mod-lt (offset_of w) (there w r)) in
      let g : z * 2 ^ s ≡ offset_of w % w * unit = omega arith in
      let q : shifted_quotient (z % 2 ^ 64) s w ≡ rest_of w =
      ap (λ (y : ℕ). shifted_quotient y s w) (mod-eq_of_lt m) ∙ ap (λ (y : ℕ). y / w) g in
      e ∙ ap (held_at word_most) q ∙ stays_below word_most (rest_of w) (omega (arith, rest_small w r))
