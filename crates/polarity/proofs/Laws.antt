-- What callers may count on, of either polarity: as many ticks as branches, and none above the limit in size.
use mathlib.Core.Path.{◌≡◌, refl, sym, ap, subst, ◌∙◌}
use mathlib.Core.Bool.{Bool, true, false}
use mathlib.Core.List.{List, [], ◌∷◌, map}
use Prim.Native.Nat.{ℕ, zero, suc, ◌≤◌, zero-le}
use lib.ListN.{get_or, length, length-map}
use lib.IntN.{ℤ, pos, neg_ℤ, nat_abs}
use Rattle.whole.specs.laws.Machine.{abs_neg}
use Rattle.outcome.specs.OfCard.WorkedCard.{WorkedCard}
use Rattle.outcome.specs.OfScaling.Scaled.{tick_limit}
use Rattle.outcome.specs.OfTerms.Rows.{branches}
use Rattle.outcome.specs.OfRows.Outcome.{Outcome, told_ticks, outcome_across}
use Rattle.outcome.proofs.OfRows.Laws as rows
use Rattle.std.specs.Prelude.{Ok, Err}
use Rattle.polarity.specs.Polarity.{turned, seen_by, turned_outcome, outcome_of}

-- what counts of an outcome turned over, where a row overloads too: zeros are turned over to zeros
pub told_turned : (pnp : Bool) (o : Outcome) → told_ticks (turned_outcome pnp o) ≡ map (turned pnp) (told_ticks o)
told_turned pnp (Ok ticks) = refl
told_turned false (Err o) = refl
told_turned true (Err o) = refl

pub ticks_long : (c : WorkedCard) (v : List ℤ) → length (told_ticks (outcome_of c v)) ≡ branches
unfolding outcome_of
ticks_long c v =
    let o = outcome_across c (seen_by c v) in
    ap length (told_turned c.pnp o) ∙ length-map (told_ticks o) (turned c.pnp) ∙ rows.ticks_long c (seen_by c v)

turned_size : (pnp : Bool) (x : ℤ) → nat_abs (turned pnp x) ≡ nat_abs x
turned_size false x = refl
turned_size true x = abs_neg x

pub turned_small : (most : ℕ) (pnp : Bool) (l : List ℤ) → ((k : ℕ) → nat_abs (get_or l k (pos 0)) ≤ most) → (k : ℕ) →
    nat_abs (get_or (map (turned pnp) l) k (pos 0)) ≤ most
turned_small most pnp [] h k = zero-le
turned_small most pnp (x ∷ l) h zero = rw (turned_size pnp x) (h 0)
turned_small most pnp (x ∷ l) h (suc k) = turned_small most pnp l (λ j. h (suc j)) k

-- ticks turned over, place by place
pub negated_at : (l : List ℤ) (k : ℕ) → get_or (map neg_ℤ l) k (pos 0) ≡ neg_ℤ (get_or l k (pos 0))
negated_at [] k = refl
negated_at (x ∷ l) zero = refl
negated_at (x ∷ l) (suc k) = negated_at l k

-- no current is above the limit in size, whatever the card and the voltages
pub ticks_small : (c : WorkedCard) (v : List ℤ) (k : ℕ) →
    nat_abs (get_or (told_ticks (outcome_of c v)) k (pos 0)) ≤ tick_limit
unfolding outcome_of
ticks_small c v =
    let o = outcome_across c (seen_by c v) in
    subst (λ (l : List ℤ). (k : ℕ) → nat_abs (get_or l k (pos 0)) ≤ tick_limit) (sym (told_turned c.pnp o))
    (turned_small tick_limit c.pnp (told_ticks o) (rows.ticks_small c (seen_by c v)))
