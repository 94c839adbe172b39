-- What totals gain by places worked, each with the same card on the same nodes and the same currents held, is the same.
use Rattle.std.specs.Prelude.{◌≡◌, refl, Bool, true, false, cond, List, ℕ, zero, suc, ◌<◌, ℤ, pos, ◌+ℤ◌}
use Rattle.std.proofs.Common.{arith}
use Rattle.card.specs.declared.WorkedCard.{WorkedCard}
use Rattle.places.specs.OfTotals.Flow.{sum_below}
use Rattle.settle.specs.Change.{change_by, changes}

pub changes_same : (p q : ℕ → Bool) (c d : ℕ → WorkedCard) (on at : ℕ → List ℕ) (held own : ℕ → List ℤ) (will : List ℤ)
    (n k : ℕ) → ((i : ℕ) → i < k → p i ≡ q i) → ((i : ℕ) → i < k → q i ≡ true → c i ≡ d i) →
    ((i : ℕ) → i < k → q i ≡ true → on i ≡ at i) → ((i : ℕ) → i < k → q i ≡ true → held i ≡ own i) →
    changes p c on held will k n ≡ changes q d at own will k n
unfolding changes sum_below
changes_same p q c d on at held own will n zero s t w v = refl
changes_same p q c d on at held own will n (suc k) s t w v =
    go (q k) refl
    (changes_same p q c d on at held own will n k (λ i h. s i (omega arith)) (λ i h. t i (omega arith))
    (λ i h. w i (omega arith)) (λ i h. v i (omega arith)))
  where
    go : (x : Bool) → q k ≡ x → changes p c on held will k n ≡ changes q d at own will k n →
        changes p c on held will k n +ℤ cond (p k) (change_by (c k) (on k) (held k) will n) (pos 0)
        ≡ changes q d at own will k n +ℤ cond (q k) (change_by (d k) (at k) (own k) will n) (pos 0)
    go true e before = rw (s k (omega arith), e, t k (omega arith) e, w k (omega arith) e, v k (omega arith) e, before)
    go false e before = rw (s k (omega arith), e, before)
