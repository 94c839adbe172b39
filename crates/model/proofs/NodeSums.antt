-- Sums over the places: their laws, what a place gives to a node at most, and the totals worked
-- anew, node by node.
use mathlib.Core.Path.{◌≡◌, refl, sym, ap, ◌∙◌, subst}
use mathlib.Core.Bool.{Bool, true, false, cond}
use mathlib.Core.Logic.{◌⊎◌, inl, inr}
use mathlib.Core.List.{List, [], ◌∷◌}
use Prim.Native.Nat.{ℕ, suc, ◌*◌, ◌≤◌, ◌<◌, zero-le}
use native.Mathlib.Nat.{suc-mul, zero-add}
use native.Mathlib.Omega.{arith}
use lib.Dec.{eqb}
use lib.ListN.{length, get_or, get_or-eq_default}
use lib.Seq.{ext_get_or}
use lib.IntN.{ℤ, pos, nat_abs}
use Rattle.whole.specs.laws.Biased.{below_or_not}
use Rattle.settle.specs.OfRows.inner.FromTerms.{list_up}
use Rattle.model.specs.Counts.{nodes_most, transistors_most}
use Rattle.settle.specs.OfTotals.Flow.{flow, sum_over}
use Rattle.settle.specs.OfPlaces.Gathered.{Card, Transistor, worked_at}
use Rattle.model.specs.inner.Sums.{place_gives, totals_of}
use Rattle.settle.specs.OfTotals.inner.Sums.{Room}
use Rattle.settle.specs.OfTotals.inner.Sizes.{flow_most}
use Rattle.settle.specs.OfDeck.laws.Ups.{length_up, get_or_up}
use Rattle.settle.proofs.OfTotals.Integers.{abs_add}
use Rattle.settle.proofs.OfFlows.Currents.{small_flow}

-- ---- sums and tables

pub sum_same : {A : Type 0} (f g : A → ℤ) (d : A) (l : List A) →
    ((i : ℕ) → i < length l → f (get_or l i d) ≡ g (get_or l i d)) → sum_over f l ≡ sum_over g l
unfolding sum_over
sum_same f g d [] h = refl
sum_same f g d (a ∷ rest) h = rw (h 0 (omega arith), sum_same f g d rest (λ i k. h (suc i) (omega arith)))

-- and over another list of as many, of which f says the same place by place
pub sum_alike : {A : Type 0} (f : A → ℤ) (d : A) (l m : List A) → length l ≡ length m →
    ((i : ℕ) → i < length l → f (get_or l i d) ≡ f (get_or m i d)) → sum_over f l ≡ sum_over f m
unfolding sum_over
sum_alike f d [] [] e h = refl
sum_alike f d [] (b ∷ m) e h = absurd (omega arith)
sum_alike f d (a ∷ l) [] e h = absurd (omega arith)
sum_alike f d (a ∷ l) (b ∷ m) e h =
    rw (h 0 (omega arith), sum_alike f d l m (omega arith) (λ i k. h (suc i) (omega arith)))

-- what stands at a place of a list counted up from 0
pub up_at : {A : Type 0} (f : ℕ → A) (n i : ℕ) (d : A) → i < n → get_or (list_up f n 0) i d ≡ f i
up_at f n i d h = get_or_up f n 0 i d h ∙ ap f (zero-add i)

-- ---- sizes

small_place : (cards : List Card) (volts : List ℤ) (n : ℕ) (t : Transistor) →
    nat_abs (place_gives cards volts n t) ≤ flow_most
unfolding place_gives
small_place cards volts n t = go (eqb t.issue 0)
  where
    go : (u : Bool) → nat_abs (cond u (pos 0) (flow (worked_at cards t.seat) t.nodes volts n)) ≤ flow_most
    go true = zero-le
    go false = small_flow (worked_at cards t.seat) t.nodes volts n

small_sum : {A : Type 0} (f : A → ℤ) (most : ℕ) → ((a : A) → nat_abs (f a) ≤ most) → (l : List A) →
    nat_abs (sum_over f l) ≤ length l * most
unfolding sum_over
small_sum f most h [] = zero-le
small_sum f most h (a ∷ rest) =
    let p = abs_add (f a) (sum_over f rest) in
    let q = h a in
    let t = small_sum f most h rest in rw (suc-mul (length rest) most) (omega arith)

-- ---- the totals

-- totals worked anew, node by node
pub totals_at : (cards : List Card) (ts : List Transistor) (volts : List ℤ) (n : ℕ) → n < nodes_most →
    get_or (totals_of cards ts volts) n (pos 0) ≡ sum_over (place_gives cards volts n) ts
unfolding totals_of
totals_at cards ts volts n h = up_at (λ (m : ℕ). sum_over (place_gives cards volts m) ts) nodes_most n (pos 0) h

pub totals_count : (cards : List Card) (ts : List Transistor) (volts : List ℤ) →
    length (totals_of cards ts volts) ≡ nodes_most
unfolding totals_of
totals_count cards ts volts = length_up (λ (n : ℕ). sum_over (place_gives cards volts n) ts) nodes_most 0

-- a list with these sums is the totals
pub are_totals : (cards : List Card) (ts : List Transistor) (volts : List ℤ) (l : List ℤ) → length l ≡ nodes_most →
    ((n : ℕ) → n < nodes_most → get_or l n (pos 0) ≡ sum_over (place_gives cards volts n) ts) → l ≡ totals_of cards ts volts
are_totals cards ts volts l h at =
    ext_get_or (pos 0) l (totals_of cards ts volts) (h ∙ sym (totals_count cards ts volts))
    (λ n q. let b = subst (λ (x : ℕ). n < x) h q in at n b ∙ sym (totals_at cards ts volts n b))

-- no total is above what each place can give
abbrev total_most : ℕ
total_most = transistors_most * flow_most

pub totals_room : (cards : List Card) (ts : List Transistor) (volts : List ℤ) → length ts ≡ transistors_most →
    Room nodes_most total_most (totals_of cards ts volts)
totals_room cards ts volts h =
    record { long = totals_count cards ts volts; within = λ n. go n (below_or_not n nodes_most) }
  where
    go : (n : ℕ) → (n < nodes_most) ⊎ (nodes_most ≤ n) → nat_abs (get_or (totals_of cards ts volts) n (pos 0)) ≤ total_most
    go n (inl b) =
        let s = small_sum (place_gives cards volts n) flow_most (small_place cards volts n) ts in
        rw (totals_at cards ts volts n b)
        (subst (λ (k : ℕ). nat_abs (sum_over (place_gives cards volts n) ts) ≤ k * flow_most) h s)
    go n (inr b) =
        rw (get_or-eq_default (totals_of cards ts volts) (pos 0) {n = n} (rw (totals_count cards ts volts) b))
        zero-le
