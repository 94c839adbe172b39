-- A line from either end, a byte at a time.
use mathlib.Core.Path.{◌≡◌, refl, sym, ap}
use mathlib.Core.List.{List, [], ◌∷◌}
use Prim.Native.Nat.{ℕ, zero, suc, ◌-◌, ◌<◌, ◌≤◌}
use native.Mathlib.Omega.{arith}
use borrow.Author.Tests.{eq-eqb, ne_eqb}
use lib.ListN.{length, take, drop, get_or}
use lib.Seq.{take_all}
use Rattle.spelling.specs.Bytes.{space}
use Rattle.trimming.specs.Trimmed.{from_first, before, to_last}

-- what is left of a line has the same bytes to keep
pub record Same (trim : List ℕ → List ℕ) (line t : List ℕ) : Type 0 where
  pub so_far : trim t ≡ trim line

-- nothing is left
pub none_first : (t : List ℕ) → length t ≤ 0 → t ≡ from_first t
unfolding from_first
none_first [] h = refl
none_first (b ∷ t) h = absurd (omega arith)

pub none_last : (t : List ℕ) → length t ≤ 0 → t ≡ to_last t
unfolding to_last
none_last [] h = refl
none_last (b ∷ t) h = absurd (omega arith)

-- ---- the first byte

pub first_kept : (t : List ℕ) → 0 < length t → (get_or t 0 0 ≡ space → ⊥) → t ≡ from_first t
unfolding from_first
first_kept [] h k = absurd (omega arith)
first_kept (b ∷ t) h k = rw (ne_eqb b space k)

pub first_passed : (t : List ℕ) → 0 < length t → get_or t 0 0 ≡ space
    → from_first (take (length t - 1) (drop 1 t)) ≡ from_first t
unfolding from_first
first_passed [] h k = absurd (omega arith)
first_passed (b ∷ t) h k =
    let e : take (length (b ∷ t) - 1) (drop 1 (b ∷ t)) ≡ t = take_all (length (b ∷ t) - 1) t (omega arith) in
    rw (e, eq-eqb b space k)

-- ---- the last byte

kept_at : (t : List ℕ) (i : ℕ) → suc i ≡ length t → (get_or t i 0 ≡ space → ⊥) → to_last t ≡ t
unfolding to_last
kept_at [] i e k = absurd (omega arith)
kept_at (b ∷ []) zero e k = rw (ne_eqb b space k)
kept_at (b ∷ []) (suc i) e k = absurd (omega arith)
kept_at (b ∷ c ∷ t) zero e k = absurd (omega arith)
kept_at (b ∷ c ∷ t) (suc i) e k = ap (before b) (kept_at (c ∷ t) i (omega arith) k)

passed_at : (t : List ℕ) (i : ℕ) → suc i ≡ length t → get_or t i 0 ≡ space → to_last (take i t) ≡ to_last t
unfolding to_last
passed_at [] i e k = absurd (omega arith)
passed_at (b ∷ []) zero e k = rw (eq-eqb b space k)
passed_at (b ∷ []) (suc i) e k = absurd (omega arith)
passed_at (b ∷ c ∷ t) zero e k = absurd (omega arith)
passed_at (b ∷ c ∷ t) (suc i) e k = ap (before b) (passed_at (c ∷ t) i (omega arith) k)

pub last_kept : (t : List ℕ) → 0 < length t → (get_or t (length t - 1) 0 ≡ space → ⊥) → t ≡ to_last t
last_kept t h k = sym (kept_at t (length t - 1) (omega arith) k)

pub last_passed : (t : List ℕ) → 0 < length t → get_or t (length t - 1) 0 ≡ space
    → to_last (take (length t - 1) t) ≡ to_last t
last_passed t h k = passed_at t (length t - 1) (omega arith) k
