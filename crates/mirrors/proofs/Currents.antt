-- A transistor of the other polarity at negated voltages: negated currents, and the same overload.
use mathlib.Core.Path.{◌≡◌, refl, sym, ap, ap₂, ◌∙◌}
use mathlib.Core.Bool.{Bool, true, false, not}
use mathlib.Core.List.{List, [], ◌∷◌, map}
use lib.ListN.{get_or}
use lib.IntN.{ℤ, pos, neg_ℤ, ◌-ℤ◌, neg_ℤ-neg_ℤ}
use Rattle.card.specs.declared.WorkedCard.{WorkedCard}
use Rattle.terms.specs.Rows.{Role, role_index, rows_for}
use Rattle.terms.specs.Values.{bias_of}
use Rattle.std.specs.Prelude.{Ok, Err}
use Rattle.rows.specs.Ticks.{row_ticks}
use Rattle.rows.specs.Outcome.{Outcome, first_over, outcome_at, outcome_across}
use Rattle.polarity.specs.Polarity.{turned, seen_by, turned_outcome, outcome_of}
use Rattle.mirrors.specs.Sister.{sister_of}
use Rattle.polarity.proofs.Laws.{negated_at}
use Rattle.polarity.proofs.Turned.{turned_less}

-- a number turned over twice, once for its sign and once for the other polarity
turned_back : (pnp : Bool) (x : ℤ) → turned (not pnp) (neg_ℤ x) ≡ turned pnp x
turned_back false x = neg_ℤ-neg_ℤ x
turned_back true x = refl

turned_twice : (pnp : Bool) (x : ℤ) → turned (not pnp) x ≡ neg_ℤ (turned pnp x)
turned_twice false x = refl
turned_twice true x = sym (neg_ℤ-neg_ℤ x)

all_twice : (pnp : Bool) (l : List ℤ) → map (turned (not pnp)) l ≡ map neg_ℤ (map (turned pnp) l)
all_twice pnp [] = refl
all_twice pnp (x ∷ l) = ap₂ ◌∷◌ (turned_twice pnp x) (all_twice pnp l)

-- what overloads knows of no polarity
outcome_twice : (pnp : Bool) (o : Outcome) → turned_outcome (not pnp) o ≡ turned_outcome true (turned_outcome pnp o)
outcome_twice pnp (Ok ticks) = ap Ok (all_twice pnp ticks)
outcome_twice pnp (Err o) = refl

-- the rows of the sister see the same voltages
seen_same : (c : WorkedCard) (volts : List ℤ) → seen_by (sister_of c) (map neg_ℤ volts) ≡ seen_by c volts
seen_same c volts =
    λ i p q.
    (ap (turned (not c.pnp))
    (ap₂ (λ (a b : ℤ). a -ℤ b) (negated_at volts (role_index p)) (negated_at volts (role_index q))
    ∙ turned_less true (get_or volts (role_index p) (pos 0)) (get_or volts (role_index q) (pos 0)))
    ∙ turned_back c.pnp (bias_of volts p q))
    i

-- and know of no polarity
rows_same : (c : WorkedCard) (v : Role → Role → ℤ) → outcome_across (sister_of c) v ≡ outcome_across c v
unfolding outcome_across
rows_same c v = go c.exsub
  where
    go : (x : Bool) →
        outcome_at (first_over (sister_of c) v 1 (rows_for x)) (map (row_ticks (sister_of c) v) (rows_for x))
        ≡ outcome_at (first_over c v 1 (rows_for x)) (map (row_ticks c v) (rows_for x))
    go true = refl
    go false = refl

pub pnp_mirrors : (c : WorkedCard) (volts : List ℤ) →
    outcome_of (sister_of c) (map neg_ℤ volts) ≡ turned_outcome true (outcome_of c volts)
unfolding outcome_of
pnp_mirrors c volts =
    ap (turned_outcome (not c.pnp)) (rows_same c _ ∙ ap (outcome_across c) (seen_same c volts))
    ∙ outcome_twice c.pnp (outcome_across c (seen_by c volts))
