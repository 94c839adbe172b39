-- The order of signed numbers, and what keeps it: products by a whole number, floors of quotients, differences.
use mathlib.Core.Logic.{◌⊎◌, inl, inr}
use Prim.Native.Nat.{ℕ, zero, suc, ◌*◌, ◌-◌, ◌/◌, ◌≤◌, ◌<◌, zero-le, suc-le-suc}
use native.Mathlib.Nat.{mul-le-mul_right, le_of_suc-le-suc, not-suc-le-zero, div-zero, div-mul-le_self, le_trans}
use native.Mathlib.Nat.{le-div_iff_mul-le, le_refl}
use native.Mathlib.Omega.{arith}
use lib.Dec.{le→leb, leb→le}
use lib.IntN.{ℤ, pos, negsuc, neg_ℤ, sub_ℕ, ◌*ℤ◌}
use lib.Signed.{◌≤ℤ◌, le_z_yes}
use Rattle.whole.specs.Floor.{floor_div}
use Rattle.whole.specs.laws.Biased.{below_or_not, sub_up, sub_down}

-- ---- whole numbers and their negatives

pub up_rises : {m n : ℕ} → m ≤ n → pos m ≤ℤ pos n
up_rises {m} {n} h = le_z_yes (le→leb m n h)

pub down_rises : {m n : ℕ} → n ≤ m → negsuc m ≤ℤ negsuc n
down_rises {m} {n} h = le_z_yes (le→leb n m h)

pub negative_rises : (m n : ℕ) → n ≤ m → neg_ℤ (pos m) ≤ℤ neg_ℤ (pos n)
negative_rises zero zero h = up_rises h
negative_rises zero (suc n) h = absurd (not-suc-le-zero h)
negative_rises (suc m) zero h = le_z_yes tt
negative_rises (suc m) (suc n) h = down_rises (le_of_suc-le-suc h)

negative_below : (m n : ℕ) → neg_ℤ (pos m) ≤ℤ pos n
negative_below zero n = up_rises zero-le
negative_below (suc m) n = le_z_yes tt

-- turning over reverses it
pub turn_falls : (y z : ℤ) → y ≤ℤ z → neg_ℤ z ≤ℤ neg_ℤ y
turn_falls (pos a) (pos b) h = negative_rises b a (leb→le a b h.le)
turn_falls (pos a) (negsuc b) h = absurd h.le
turn_falls (negsuc a) (pos b) h = negative_below b (suc a)
turn_falls (negsuc a) (negsuc b) h = up_rises (suc-le-suc (leb→le b a h.le))

-- ---- products and quotients

pub product_rises : (k : ℕ) (y z : ℤ) → y ≤ℤ z → (y *ℤ pos k) ≤ℤ (z *ℤ pos k)
product_rises k (pos a) (pos b) h = up_rises (mul-le-mul_right k (leb→le a b h.le))
product_rises k (pos a) (negsuc b) h = absurd h.le
product_rises k (negsuc a) (pos b) h = negative_below (suc a * k) (b * k)
product_rises k (negsuc a) (negsuc b) h =
    negative_rises (suc a * k) (suc b * k) (mul-le-mul_right k (suc-le-suc (leb→le b a h.le)))

pub quotient_rises : (d a b : ℕ) → a ≤ b → a / d ≤ b / d
quotient_rises zero a b h = rw (div-zero a, div-zero b) (le_refl 0)
quotient_rises (suc d) a b h =
    (le-div_iff_mul-le {k = suc d} {x = a / suc d} {y = b} (omega arith)).1 (le_trans (div-mul-le_self a (suc d)) h)

pub floor_rises : (d : ℕ) (y z : ℤ) → y ≤ℤ z → floor_div y d ≤ℤ floor_div z d
floor_rises d (pos a) (pos b) h = up_rises (quotient_rises d a b (leb→le a b h.le))
floor_rises d (pos a) (negsuc b) h = absurd h.le
floor_rises d (negsuc a) (pos b) h = le_z_yes tt
floor_rises d (negsuc a) (negsuc b) h = down_rises (quotient_rises d b a (leb→le b a h.le))

-- ---- differences

-- a difference rises with its first number
pub difference_rises : (m a b : ℕ) → a ≤ b → sub_ℕ a m ≤ℤ sub_ℕ b m
difference_rises m a b h = split (below_or_not a m) (below_or_not b m)
  where
    split : (a < m) ⊎ (m ≤ a) → (b < m) ⊎ (m ≤ b) → sub_ℕ a m ≤ℤ sub_ℕ b m
    split (inl k) (inl l) =
        let e : m - suc b ≤ m - suc a = omega arith in rw (sub_down a m k, sub_down b m l) (down_rises e)
    split (inl k) (inr l) = rw (sub_down a m k, sub_up b m l) (le_z_yes tt)
    split (inr k) (inl l) = absurd (omega arith)
    split (inr k) (inr l) = let e : a - m ≤ b - m = omega arith in rw (sub_up a m k, sub_up b m l) (up_rises e)
