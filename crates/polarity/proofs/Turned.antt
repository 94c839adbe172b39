-- Turning over, from what the code does to the definitions: kept voltages as the junctions' own, and ticks one by one.
use mathlib.Core.Path.{◌≡◌, refl, sym, ap, ap₂, subst, ◌∙◌}
use mathlib.Core.Bool.{Bool, true, false}
use mathlib.Core.List.{List, [], ◌∷◌, map}
use Prim.Native.Nat.{ℕ, zero, suc, ◌-◌, ◌≤◌, zero-le}
use native.Mathlib.Omega.{arith}
use lib.ListN.{get_or, length-map}
use lib.IntN.{ℤ, pos, nat_abs, neg_ℤ, ◌-ℤ◌, neg_ℤ-+ℤ, +ℤ_idl}
use mir.Syntax.{w64}
use mir.Val.{SFits}
use Rattle.volts.specs.Volts.{volts_most, span, given_back, AllNear}
use Rattle.volts.specs.laws.Across.{neg_sub}
use Rattle.whole.specs.laws.Biased.{sub_eq}
use Rattle.whole.specs.laws.Machine.{abs_neg, held, fits, held_is}
use Rattle.outcome.specs.OfCard.WorkedCard.{WorkedCard}
use Rattle.outcome.specs.OfScaling.Scaled.{tick_limit}
use Rattle.outcome.specs.OfTerms.Rows.{Role, role_index}
use Rattle.outcome.specs.OfTerms.Values.{bias_of}
use Rattle.outcome.specs.OfTerms.Ready.{Ready}
use Rattle.outcome.specs.OfTerms.inner.Ready.{Askable}
use Rattle.std.specs.Prelude.{Ok}
use Rattle.outcome.specs.OfRows.Outcome.{Outcome, told_ticks, outcome_across}
use Rattle.outcome.proofs.OfRows.Laws.{ticks_small}
use Rattle.polarity.specs.Polarity.{turned, seen_by, turned_outcome, outcome_of}
use Rattle.polarity.specs.inner.Turning.{kept_turned, Turnable}

-- a map that changes nothing
pub map_same : {A : Type 0} (l : List A) → l ≡ map (λ (x : A). x) l
map_same [] = refl
map_same (x ∷ l) = ap (λ r. x ∷ r) (map_same l)

-- ---- voltages

-- what is given back of a kept voltage turned over is the voltage turned over
back_turned : (pnp : Bool) (x : ℕ) → x ≤ span → given_back (kept_turned pnp x) ≡ turned pnp (given_back x)
back_turned false x h = refl
back_turned true x h = sub_eq (span - x) volts_most volts_most x (omega arith) ∙ sym (neg_sub x volts_most)

turned_none : (pnp : Bool) → pos 0 ≡ turned pnp (pos 0)
turned_none false = refl
turned_none true = refl

at_turned : (pnp : Bool) (v : List ℕ) → ((k : ℕ) → get_or v k 0 ≤ span) → (k : ℕ) →
    get_or (map given_back (map (kept_turned pnp) v)) k (pos 0) ≡ turned pnp (get_or (map given_back v) k (pos 0))
at_turned pnp [] h k = turned_none pnp
at_turned pnp (x ∷ v) h zero = back_turned pnp x (h 0)
at_turned pnp (x ∷ v) h (suc k) = at_turned pnp v (λ j. h (suc j)) k

pub turned_less : (pnp : Bool) (a b : ℤ) → turned pnp a -ℤ turned pnp b ≡ turned pnp (a -ℤ b)
turned_less false a b = refl
turned_less true a b = sym (neg_ℤ-+ℤ a (neg_ℤ b))

-- the junctions of roles whose kept voltages are turned over are those that the rows are to see
pub seen_is : (c : WorkedCard) {v : List ℕ} → AllNear v →
    bias_of (map given_back (map (kept_turned c.pnp) v)) ≡ seen_by c (map given_back v)
seen_is c {v} near =
    λ i p q.
    (ap₂ (λ (a b : ℤ). a -ℤ b) (at_turned c.pnp v near.each (role_index p))
    (at_turned c.pnp v near.each (role_index q))
    ∙ turned_less c.pnp _ _)
    i

-- what the rows ask of voltages they ask of those turned over
near_turned : (pnp : Bool) {v : List ℕ} → AllNear v → AllNear (map (kept_turned pnp) v)
near_turned pnp {v} near = record { each = go v near.each }
  where
    kept_near : (b : Bool) (x : ℕ) → x ≤ span → kept_turned b x ≤ span
    kept_near false x h = h
    kept_near true x h = omega arith

    go : (l : List ℕ) → ((k : ℕ) → get_or l k 0 ≤ span) → (k : ℕ) → get_or (map (kept_turned pnp) l) k 0 ≤ span
    go [] h k = zero-le
    go (x ∷ l) h zero = kept_near pnp x (h 0)
    go (x ∷ l) h (suc k) = go l (λ j. h (suc j)) k

pub asked_turned : {table : List ℕ} {r : Ready} {v s : List ℕ} → Askable table r v →
    s ≡ map (kept_turned r.card.pnp) v → Askable table r s
asked_turned {r = r} {v = v} a e =
    rw e
    (record {
      table_is = a.table_is;
      ready = a.ready;
      long = length-map v (kept_turned r.card.pnp) ∙ a.long;
      near = near_turned r.card.pnp a.near;
    })

-- ---- ticks

pub turned_fits : {l : List ℤ} → Turnable l → (k : ℕ) → SFits w64 (pos 0 -ℤ held (get_or l k (pos 0)))
turned_fits {l} t k =
    let x = get_or l k (pos 0) in
    let h = t.small k in
    rw (held_is x (omega arith), +ℤ_idl (neg_ℤ x)) (fits (neg_ℤ x) (omega (arith, abs_neg x)))

-- a number of the list, taken from none in the machine, is that number turned over
pub turned_is : {l : List ℤ} → Turnable l → (k : ℕ) →
    held (pos 0 -ℤ held (get_or l k (pos 0))) ≡ turned true (get_or l k (pos 0))
turned_is {l} t k =
    let x = get_or l k (pos 0) in
    let h = t.small k in
    rw (held_is x (omega arith), +ℤ_idl (neg_ℤ x)) (held_is (neg_ℤ x) (omega (arith, abs_neg x)))

-- ---- the outcome

pub turnable : (c : WorkedCard) (v : Role → Role → ℤ) {ticks : List ℤ} → outcome_across c v ≡ Ok ticks → Turnable ticks
turnable c v e =
    record {
      small =
          subst (λ (o : Outcome). (k : ℕ) → nat_abs (get_or (told_ticks o) k (pos 0)) ≤ tick_limit) e (ticks_small c v);
    }

-- what the rows give at the voltages turned over, turned over
pub outcome_turned : (c : WorkedCard) {v s : List ℕ} {o : Outcome} → AllNear v → s ≡ map (kept_turned c.pnp) v →
    o ≡ outcome_across c (bias_of (map given_back s)) → turned_outcome c.pnp o ≡ outcome_of c (map given_back v)
unfolding outcome_of
outcome_turned c near e f =
    ap (turned_outcome c.pnp)
    (f ∙ ap (λ (l : List ℕ). outcome_across c (bias_of (map given_back l))) e ∙ ap (outcome_across c) (seen_is c near))
