-- From the highest power down: what each tells of the lower ones, and that the first form found has the smallest
-- digits.
use mathlib.Core.Path.{◌≡◌, sym, subst}
use mathlib.Core.Logic.{◌⊎◌, inl, inr}
use mathlib.Core.Bool.{Bool, true, false, not}
use Prim.Native.Nat.{ℕ, zero, suc, ◌+◌, ◌-◌, ◌≤◌, ◌<◌}
use native.Mathlib.Nat.{eq-or-lt_of_le}
use native.Mathlib.Omega.{arith}
use lib.Dec.{T, ltb, ltb→lt, nltb→le}
use Rattle.decimal.specs.Decimal.{digits_end, powers_end, size_bits}
use Rattle.reaching.specs.FirstTo.{FirstTo}
use Rattle.shortest.specs.inner.Search.{Reads, Smallest, NoneAbove}
use Rattle.decimal.proofs.Order.{size_mono, size_rise, size_zero}

pub less_or_not : (a b : ℕ) → (a < b) ⊎ (b ≤ a)
less_or_not a b = go (ltb a b) (ltb→lt a b) (nltb→le a b)
  where
    go : (t : Bool) → (T t → a < b) → (T (not t) → b ≤ a) → (a < b) ⊎ (b ≤ a)
    go true f g = inl (f tt)
    go false f g = inr (g tt)

-- digits before the first that come to w stay under it

below : {w q r : ℕ} (e : ℕ) → 0 < w → q < powers_end → FirstTo w q r → e < r → size_bits e q < w
below {w} {q} zero z h l k = subst (λ (x : ℕ). x < w) (sym (size_zero q)) z
below {w} {q} {r} (suc e) z h l k =
    let a = l.under (omega arith) in
    let m = l.most in
    let b = size_mono (suc e) (r - 1) q (omega arith) (omega arith) h in omega arith

-- a form of a size above zero has digits
pub some : {w : ℕ} (e : ℕ) {p : ℕ} → 0 < w → Reads w e p → 0 < e
some zero {p} z r = let a = size_zero p in let b = r.bits in absurd (omega arith)
some (suc e) z r = omega arith

-- the power at hand has no form either
pub missed : {w q r s : ℕ} → 0 < w → q < powers_end → FirstTo w q r → (r < digits_end → size_bits r q ≡ w → ⊥)
    → NoneAbove w s → s ≤ q + 1 → NoneAbove w q
missed {w} {q} {r} {s} z h l n f k = record { none = go }
  where
    here : (e : ℕ) → Reads w e q → ⊥
    here e d = elim (less_or_not e r) [
      | inl a ↦ let b = below e z h l a in let c = d.bits in omega arith
      | inr a ↦
          let t = d.digits in
          let o = l.over (omega arith) in
          let m = size_mono r e q a t h in
          let b = d.bits in n (omega arith) (omega arith)
    ]

    go : (e p : ℕ) → q ≤ p → Reads w e p → ⊥
    go e p a d = elim (eq-or-lt_of_le a) [
      | inl b ↦ here e (subst (λ (x : ℕ). Reads w e x)
          (sym b) d)
      | inr b ↦ f.none e p (omega arith) d
    ]

-- the power at hand has one, and it is the smallest
pub found : {w q r s : ℕ} → 0 < w → q < powers_end → FirstTo w q r → r < digits_end → size_bits r q ≡ w → NoneAbove w s
    → s ≤ q + 1 → Smallest w r q
found {w} {q} {r} {s} z h l t b f k = record {
  reads = record { digits = t; power = h; bits = b };
  least =
      λ (e p : ℕ) (d : Reads w e p). go e p d (less_or_not e r);
}
  where
    at : (e p : ℕ) → Reads w e p → e < r → (p ≡ q) ⊎ (p < q) → ⊥
    at e p d a (inl x) = let y = below e z h l a in let c = subst (λ (v : ℕ). size_bits e v ≡ w) x d.bits in
        omega arith
    at e p d a (inr x) = let y = size_rise e r p q (some e z d) (omega arith) x t h in let c = d.bits in omega arith

    go : (e p : ℕ) → Reads w e p → (e < r) ⊎ (r ≤ e) → r ≤ e
    go e p d (inr a) = a
    go e p d (inl a) = elim (less_or_not q p) [
      | inl x ↦ absurd (f.none e p (omega arith) d)
      | inr x ↦ absurd
          (at e p d a (eq-or-lt_of_le x))
    ]

-- the same digits have no two powers
pub one_power : {w d p q : ℕ} → 0 < w → Reads w d p → Reads w d q → p < q → ⊥
one_power {w} {d} {p} {q} z a b h = let y = size_rise d d p q (some d z a) (omega arith) h b.digits b.power in
    let u = a.bits in let v = b.bits in omega arith

-- one digit is too much already, so that no higher power has a form
pub ruled_out : {w : ℕ} (s : ℕ) → 0 < w → s < powers_end → w < size_bits 1 s → NoneAbove w s
ruled_out {w} s z h l = record { none = go }
  where
    go : (e p : ℕ) → s ≤ p → Reads w e p → ⊥
    go e p a d = elim (eq-or-lt_of_le a) [
      | inl b ↦
          let m = size_mono 1 e s (some e z d) d.digits h in
          let c = subst (λ (v : ℕ). size_bits e v ≡ w) (sym b) d.bits in omega arith
      | inr b ↦ let m = size_rise 1 e s p (omega arith) (some e z d) b d.digits d.power in let c = d.bits in
          omega arith
    ]

-- fifteen digits are too few, so that no lower power has a form
pub out_of_reach : {w q r s : ℕ} → 0 < w → q < powers_end → FirstTo w q r → digits_end ≤ r → NoneAbove w s → s ≤ q + 1
    → NoneAbove w 0
out_of_reach {w} {q} {r} {s} z h l k f t =
    record { none = λ (e p : ℕ) (a : 0 ≤ p) (d : Reads w e p). go e p d (less_or_not p q) }
  where
    go : (e p : ℕ) → Reads w e p → (p < q) ⊎ (q ≤ p) → ⊥
    go e p d (inl b) =
        let a = d.digits in
        let y = below 999999999999999 z h l (omega arith) in
        let m = size_rise e 999999999999999 p q (some e z d) (omega arith) b (omega arith) h in
        let c = d.bits in omega arith
    go e p d (inr b) = (missed z h l (λ x y. absurd (omega arith)) f t).none e p b d
