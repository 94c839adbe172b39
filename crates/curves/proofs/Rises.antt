-- T of a value times the exponential never falls as the voltage rises, and at zero volts it is the value's own.
use mathlib.Core.Path.{◌≡◌, refl, sym, ap, ◌∙◌}
use Prim.Native.Nat.{ℕ, zero, suc, ◌+◌, ◌*◌, ◌^◌, ◌≤◌}
use native.Mathlib.Nat.{le_trans, le_of_eq, mul-le-mul_left, mul-one, mul_assoc, zero-div}
use native.Mathlib.Omega.{arith}
use lib.IntN.{ℤ, pos, neg_ℤ, ◌+ℤ◌, ◌-ℤ◌, +ℤ_assoc, +ℤ_comm}
use lib.Signed.{◌≤ℤ◌}
use Rattle.whole.specs.Floor.{floor_div, floor_mod, floor_rest}
use Rattle.whole.specs.Scale.{floor_scale}
use Rattle.octave.specs.Table.{parts, places, mantissa_of}
use Rattle.octave.specs.Position.{position_of}
use Rattle.scaling.specs.Scaled.{Scaled, exp_of, times, tick_places, whole_ticks}
use Rattle.curves.proofs.Floors.{position_rises, Climb, climb}
use Rattle.curves.proofs.Powers.{scale_rises, scale_moves}
use Rattle.curves.proofs.Mantissas.{mantissa_rises, mantissa_across, mantissa_foot}

-- the exponential at a position
abbrev at_position : ℤ → Scaled
at_position p = record { digits = mantissa_of (floor_mod p parts); power = floor_div p parts -ℤ pos places }

exp_is : (v : ℤ) (w : ℕ) → exp_of v w ≡ at_position (position_of v w)
unfolding exp_of
exp_is v w = refl

-- its digits, by how many octaves the later one is further up
digits_rise : (p q : ℤ) (k : ℕ) → (k ≡ 0 → floor_mod p parts ≤ floor_mod q parts) →
    mantissa_of (floor_mod p parts) ≤ mantissa_of (floor_mod q parts) * 2 ^ k
digits_rise p q zero h =
    le_trans (mantissa_rises (floor_mod p parts) (floor_mod q parts) (h refl) (floor_rest q parts (omega arith)))
    (le_of_eq (sym (mul-one (mantissa_of (floor_mod q parts)))))
digits_rise p q (suc k) h =
    mantissa_across (floor_mod p parts) (floor_mod q parts) k (floor_rest p parts (omega arith))
    (floor_rest q parts (omega arith))

-- sums of powers, in another order
pub last_two : (a b c : ℤ) → a +ℤ b +ℤ c ≡ a +ℤ c +ℤ b
last_two a b c = +ℤ_assoc a b c ∙ ap (λ (z : ℤ). a +ℤ z) (+ℤ_comm b c) ∙ sym (+ℤ_assoc a c b)

to_the_end : (b n k l t : ℤ) → b +ℤ (n +ℤ k +ℤ l) +ℤ t ≡ b +ℤ (n +ℤ l) +ℤ t +ℤ k
to_the_end b n k l t =
    ap (λ (z : ℤ). b +ℤ z +ℤ t) (last_two n k l) ∙ ap (λ (z : ℤ). z +ℤ t) (sym (+ℤ_assoc b (n +ℤ l) k))
    ∙ last_two (b +ℤ (n +ℤ l)) k t

-- a product's T, the octaves between two positions taken into the digits
octaves_moved : (x : Scaled) (p q : ℤ) (c : Climb p q) →
    whole_ticks (times x (at_position q))
    ≡ floor_scale (x.digits * mantissa_of (floor_mod q parts) * 2 ^ c.octaves)
    (x.power +ℤ (floor_div p parts -ℤ pos places) +ℤ pos tick_places)
octaves_moved x p q c =
    let m = x.digits * mantissa_of (floor_mod q parts) in
    ap (λ (z : ℤ). floor_scale m (x.power +ℤ (z -ℤ pos places) +ℤ pos tick_places)) c.wholes
    ∙ ap (floor_scale m)
    (to_the_end x.power (floor_div p parts) (pos c.octaves) (neg_ℤ (pos places)) (pos tick_places))
    ∙ scale_moves m c.octaves (x.power +ℤ (floor_div p parts -ℤ pos places) +ℤ pos tick_places)

positions_rise : (x : Scaled) (p q : ℤ) → p ≤ℤ q →
    whole_ticks (times x (at_position p)) ≤ whole_ticks (times x (at_position q))
positions_rise x p q h =
    let c = climb p q h in
    let m = mantissa_of (floor_mod q parts) in
    let d : x.digits * mantissa_of (floor_mod p parts) ≤ x.digits * m * 2 ^ c.octaves =
    le_trans (mul-le-mul_left x.digits (digits_rise p q c.octaves c.along))
    (le_of_eq (sym (mul_assoc x.digits m (2 ^ c.octaves)))) in
    le_trans
    (scale_rises (x.power +ℤ (floor_div p parts -ℤ pos places) +ℤ pos tick_places)
    (x.digits * mantissa_of (floor_mod p parts)) (x.digits * m * 2 ^ c.octaves) d)
    (le_of_eq (sym (octaves_moved x p q c)))

-- T of a value at a junction, for any octave
pub ticks_rise : (x : Scaled) (w : ℕ) (u v : ℤ) → u ≤ℤ v →
    whole_ticks (times x (exp_of u w)) ≤ whole_ticks (times x (exp_of v w))
ticks_rise x w u v h =
    rw (exp_is u w, exp_is v w) (positions_rise x (position_of u w) (position_of v w) (position_rises w u v h))

-- at zero volts the exponential is 2^30 * 2^-30
exp_at_zero : (w : ℕ) → exp_of (pos 0) w ≡ record { digits = 2 ^ places; power = neg_ℤ (pos places) }
exp_at_zero w =
    exp_is (pos 0) w ∙ ap (λ (n : ℕ). at_position (pos n)) (zero-div w)
    ∙ ap (λ (m : ℕ). record { digits = m; power = neg_ℤ (pos places) }) mantissa_foot

pub ticks_at_zero : (x : Scaled) (w : ℕ) → whole_ticks (times x (exp_of (pos 0) w)) ≡ whole_ticks x
ticks_at_zero x w =
    ap (λ (g : Scaled). whole_ticks (times x g)) (exp_at_zero w)
    ∙ sym (scale_moves x.digits places (x.power +ℤ neg_ℤ (pos places) +ℤ pos tick_places))
    ∙ ap (floor_scale x.digits)
    (+ℤ_assoc (x.power +ℤ neg_ℤ (pos places)) (pos tick_places) (pos places)
    ∙ +ℤ_assoc x.power (neg_ℤ (pos places)) (pos (tick_places + places)))
