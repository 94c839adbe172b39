-- What tells small numbers.
use Rattle.std.proofs.Common.{◌≡◌, ℕ, ◌+◌, ◌*◌, ◌<◌, ◌≤◌, ◌⊎◌, List, get_or, ℤ, pos, subst, inl, inr, arith}
use lib.Bits.{bit_or, or_add_and, and_le_l, and_le_r}
use Rattle.whole.specs.laws.Biased.{below_or_not}
use Rattle.slices.specs.OfTotals.Gives.{nodes_most}
use Rattle.small.specs.inner.Small.{small_most, Small, EachSmall}

-- ---- the digits of the first k numbers

pub below_or : (a b : ℕ) {m : ℕ} → bit_or a b < m → (a < m) × (b < m)
below_or a b h =
    let e = or_add_and a b in
    let l = and_le_l a b in
    let r = and_le_r a b in
    (omega arith, omega arith)

pub record SmallTo (l : List ℤ) (digits k : ℕ) : Type 0 where
  pub each : digits < 2 * small_most → (i : ℕ) → i < k → Small (get_or l i (pos 0))

module _ {l : List ℤ} where
  pub small_none : {digits : ℕ} → SmallTo l digits 0
  small_none = record { each = λ b i q. absurd (omega arith) }

  -- beside digits of other numbers
  pub small_beside : (a : ℕ) {digits k : ℕ} → SmallTo l digits k → SmallTo l (bit_or digits a) k
  small_beside a {digits} s = record { each = λ b i q. s.each (below_or digits a b).0 i q }

  pub small_more : {digits k a : ℕ} {x : ℤ} → x ≡ get_or l k (pos 0) → (a < 2 * small_most → Small x) →
      SmallTo l digits k → SmallTo l (bit_or digits a) (k + 1)
  small_more {digits} {k} {a} p f s = record { each = λ b i q. go b i q (below_or_not i k) }
    where
      go : bit_or digits a < 2 * small_most → (i : ℕ) → i < k + 1 → (i < k) ⊎ (k ≤ i) → Small (get_or l i (pos 0))
      go b i q (inl n) = s.each (below_or digits a b).0 i n
      go b i q (inr n) = let same : i ≡ k = omega arith in rw same (subst Small p (f (below_or digits a b).1))

  pub small_all : {digits k : ℕ} → nodes_most ≤ k → SmallTo l digits k → digits < 2 * small_most → EachSmall l
  small_all h s b = record { each = λ i q. s.each b i (omega arith) }
