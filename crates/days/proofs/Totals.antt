-- What the stored totals are on every board that calls leave: sums over what stands, zero in all, small, and the same
-- for the same transistors.
use mathlib.Core.Path.{◌≡◌, refl, sym, ap, ◌∙◌}
use mathlib.Core.Bool.{Bool, true, false, cond}
use mathlib.Core.List.{List, [], ◌∷◌, map}
use Prim.Native.Nat.{ℕ, zero, suc, ◌+◌, ◌*◌, ◌^◌, ◌≤◌, ◌<◌}
use native.Mathlib.Nat.{le_refl, zero-add}
use native.Mathlib.Omega.{arith}
use lib.Dec.{eqb}
use lib.ListN.{get_or}
use lib.IntN.{ℤ, pos, nat_abs, neg_ℤ, ◌+ℤ◌, ◌-ℤ◌, +ℤ_idl, +ℤ_idr, +ℤ_invr}
use borrow.Author.Tests.{eqb-true, eqb-false, ne_eqb}
use Rattle.refusal.specs.Clash.{clash}
use Rattle.card.specs.declared.WorkedCard.{WorkedCard}
use Rattle.rows.specs.declared.Over.{Over}
use Rattle.std.specs.Prelude.{Option, Some, None}
use Rattle.scaling.specs.Scaled.{tick_limit}
use Rattle.terms.specs.Rows.{Row, rows_for, branches, role_index}
use Rattle.rows.specs.Outcome.{is_over, told_over}
use Rattle.polarity.specs.Polarity.{outcome_of}
use Rattle.places.specs.Gathered.{Card, Transistor}
use Rattle.model.specs.Board.{Board}
use Rattle.model.specs.Model.{cards_of, transistors_of, transistor_at}
use Rattle.model.specs.Counts.{nodes_most, transistors_most}
use Rattle.totals.specs.Gives.{at_node, rows_give}
use Rattle.model.specs.Desk.{Standing, Call, total, after}
use Rattle.totals.specs.Flow.{roles_at, overloads, ticks_at, ticks_give, flow, sum_over}
use Rattle.places.specs.Gathered.{no_transistor, worked_at}
use Rattle.model.specs.inner.Sums.{place_gives, totals_of}
use Rattle.model.specs.Model.{volts_of, board_after}
use Rattle.model.specs.Model.{Reached}
use Rattle.days.specs.Perm.{Perm}
use Rattle.days.specs.Stands.{standing_of, standing_in}
use Rattle.days.specs.Fitted.{sum_all, Fitted, fitted_of, fitted_in}
use Rattle.totals.proofs.Integers.{turned, swap_inner}
use Rattle.days.proofs.Perms.{perm_sum}
use Rattle.days.proofs.Places.{sum_occupied}
use Rattle.rows.specs.inner.FromTerms.{list_up}
use Rattle.deck.specs.laws.Ups.{get_or_up, up_same}
use Rattle.model.proofs.NodeSums.{totals_room}
use Rattle.model.proofs.Invariant.{invariant, invariant_after}
use Rattle.days.proofs.Orderly.{orderly_after}
use Rattle.days.proofs.Follows.{stands_after, totals_follow}

-- ---- each total is the sum over the transistors standing

pub totals_are_sums : (calls : List Call) (n : ℕ) → n < nodes_most →
    get_or (board_after calls).totals n (pos 0) ≡ total (after calls) n
totals_are_sums calls n h =
    totals_follow (board_after calls) (after calls) (invariant_after calls) (orderly_after calls) (stands_after calls)
    n h

-- ---- and counts for something: whatever stands has its currents

not_over : (o : Option Over) → is_over o ≡ false → o ≡ None
not_over None e = refl
not_over (Some o) e = clash cc

pub none_overloads : {b : Board} → Reached b → (i : ℕ) → ((transistor_at b i).issue ≡ 0 → ⊥) →
    told_over
    (outcome_of (worked_at (cards_of b) (transistor_at b i).seat)
    (roles_at (volts_of b) (transistor_at b i).nodes)) ≡ None
unfolding overloads
none_overloads r i h = not_over _ ((invariant r).holds.quiet i h)

-- ---- all of them add to zero

-- a table of sums is summed part by part
sum_both : (f g : ℕ → ℤ) (k s : ℕ) →
    sum_all (list_up (λ (n : ℕ). f n +ℤ g n) k s) ≡ sum_all (list_up f k s) +ℤ sum_all (list_up g k s)
unfolding list_up sum_over sum_all
sum_both f g zero s = refl
sum_both f g (suc k) s =
    ap (λ (z : ℤ). (f s +ℤ g s) +ℤ z) (sum_both f g k (suc s)) ∙ swap_inner (f s) (g s) _ _

sum_zeros : (f : ℕ → ℤ) (k s : ℕ) → ((n : ℕ) → s ≤ n → f n ≡ pos 0) → sum_all (list_up f k s) ≡ pos 0
unfolding list_up sum_over sum_all
sum_zeros f zero s h = refl
sum_zeros f (suc k) s h = rw (h s (le_refl s)) (+ℤ_idl _ ∙ sum_zeros f k (suc s) (λ n q. h n (omega arith)))

-- what one node gets is all there is
sum_node : (m k s : ℕ) (x : ℤ) → s ≤ m → m < s + k → sum_all (list_up (λ (n : ℕ). at_node m n x) k s) ≡ x
unfolding list_up sum_over sum_all
sum_node m zero s x l h = absurd (omega arith)
sum_node m (suc k) s x l h = go (eqb m s) refl (sum_node m k (suc s) x)
  where
    go : (t : Bool) → eqb m s ≡ t →
        (suc s ≤ m → m < suc s + k → sum_all (list_up (λ (n : ℕ). at_node m n x) k (suc s)) ≡ x) →
        cond t x (pos 0) +ℤ sum_all (list_up (λ (n : ℕ). at_node m n x) k (suc s)) ≡ x
    go true e later =
        let same = eqb-true m s e in
        ap (λ (z : ℤ). x +ℤ z)
        (sum_zeros (λ (n : ℕ). at_node m n x) k (suc s) (λ n q. rw (ne_eqb m n (λ p. omega arith))))
        ∙ +ℤ_idr x
    go false e later = let other = eqb-false m s e in +ℤ_idl _ ∙ later (omega arith) (omega arith)

-- a branch takes from one node what it gives to another
sum_ends : (a b k : ℕ) (x : ℤ) → a < k → b < k →
    sum_all (list_up (λ (n : ℕ). at_node a n x -ℤ at_node b n x) k 0) ≡ pos 0
sum_ends a b k x h j =
    ap sum_all
    (up_same (λ (n : ℕ). at_node a n x -ℤ at_node b n x) (λ (n : ℕ). at_node a n x +ℤ at_node b n (neg_ℤ x)) k 0
    (λ n p. ap (λ (z : ℤ). at_node a (0 + n) x +ℤ z) (sym (turned (eqb b (0 + n)) x))))
    ∙ sum_both (λ (n : ℕ). at_node a n x) (λ (n : ℕ). at_node b n (neg_ℤ x)) k 0
    ∙ rw (sum_node a k 0 x (omega arith) (omega arith), sum_node b k 0 (neg_ℤ x) (omega arith) (omega arith)) (+ℤ_invr x)

sum_rows : (rows : List Row) (nodes : List ℕ) (ticks : List ℤ) → ((k : ℕ) → get_or nodes k 0 < nodes_most) →
    sum_all (list_up (λ (n : ℕ). rows_give rows nodes ticks n) nodes_most 0) ≡ pos 0
unfolding rows_give
sum_rows [] nodes ticks h = sum_zeros (λ (n : ℕ). pos 0) nodes_most 0 (λ n q. refl)
sum_rows (r ∷ rs) nodes [] h = sum_zeros (λ (n : ℕ). pos 0) nodes_most 0 (λ n q. refl)
sum_rows (r ∷ rs) nodes (x ∷ xs) h =
    sum_both (λ (n : ℕ). at_node (get_or nodes (role_index r.from) 0) n x -ℤ at_node (get_or nodes (role_index r.to) 0)
    n x)
    (λ (n : ℕ). rows_give rs nodes xs n) nodes_most 0
    ∙ rw (
      sum_ends (get_or nodes (role_index r.from) 0) (get_or nodes (role_index r.to) 0) nodes_most x (h _) (h _),
      sum_rows rs nodes xs h,
    )

sum_flow : (c : WorkedCard) (nodes : List ℕ) (volts : List ℤ) → ((k : ℕ) → get_or nodes k 0 < nodes_most) →
    sum_all (list_up (λ (n : ℕ). flow c nodes volts n) nodes_most 0) ≡ pos 0
unfolding flow ticks_give
sum_flow c nodes volts h = sum_rows (rows_for false) nodes (ticks_at c nodes volts) h

sum_place : (cards : List Card) (volts : List ℤ) (t : Transistor) →
    ((t.issue ≡ 0 → ⊥) → (k : ℕ) → get_or t.nodes k 0 < nodes_most) →
    sum_all (list_up (λ (n : ℕ). place_gives cards volts n t) nodes_most 0) ≡ pos 0
unfolding place_gives
sum_place cards volts t h = go (eqb t.issue 0) refl
  where
    go : (u : Bool) → eqb t.issue 0 ≡ u →
        sum_all
        (list_up (λ (n : ℕ). cond u (pos 0) (flow (worked_at cards t.seat) t.nodes volts n)) nodes_most 0)
        ≡ pos 0
    go true e = sum_zeros (λ (n : ℕ). pos 0) nodes_most 0 (λ n q. refl)
    go false e = sum_flow (worked_at cards t.seat) t.nodes volts (h (eqb-false t.issue 0 e))

sum_places : (cards : List Card) (volts : List ℤ) (ts : List Transistor) →
    ((i : ℕ) → ((get_or ts i no_transistor).issue ≡ 0 → ⊥) → (k : ℕ) → get_or (get_or ts i no_transistor).nodes k 0 < nodes_most)
    →
    sum_all (list_up (λ (n : ℕ). sum_over (place_gives cards volts n) ts) nodes_most 0) ≡ pos 0
unfolding sum_over
sum_places cards volts [] h = sum_zeros (λ (n : ℕ). pos 0) nodes_most 0 (λ n q. refl)
sum_places cards volts (t ∷ ts) h =
    sum_both (λ (n : ℕ). place_gives cards volts n t) (λ (n : ℕ). sum_over (place_gives cards volts n) ts) nodes_most 0
    ∙ rw (sum_place cards volts t (h 0), sum_places cards volts ts (λ i. h (suc i)))

pub totals_add_to_zero : {b : Board} → Reached b → sum_all b.totals ≡ pos 0
unfolding totals_of
totals_add_to_zero {b} r =
    rw (invariant r).holds.balanced
    (sum_places (cards_of b) (volts_of b) (transistors_of b) (λ i h. ((invariant r).footing.footed.transistor i h).wired))

-- ---- the same transistors on the same cards and nodes, at the same voltages

sum_map : {A B : Type 0} (f : B → ℤ) (g : A → B) (l : List A) → sum_over f (map g l) ≡ sum_over (λ (a : A). f (g a)) l
unfolding sum_over
sum_map f g [] = refl
sum_map f g (a ∷ rest) = ap (λ (z : ℤ). f (g a) +ℤ z) (sum_map f g rest)

-- a node's sum, by what each counts by
sum_fitted : (b : Board) (n : ℕ) →
    sum_over (place_gives (cards_of b) (volts_of b) n) (transistors_of b) ≡ sum_over
    (λ (f : Fitted). flow f.worked f.nodes (volts_of b) n) (fitted_in b)
unfolding place_gives
sum_fitted b n =
    sym
    (sum_occupied (λ (t : Transistor). t.issue) (standing_of (cards_of b))
    (λ (t : Standing). flow t.worked t.nodes (volts_of b) n) (transistors_of b))
    ∙ sym
    (sum_map (λ (f : Fitted). flow f.worked f.nodes (volts_of b) n) fitted_of
    (standing_in (cards_of b) (transistors_of b)))

-- a stored total, by what each counts by
pub totals_fitted : {b : Board} → Reached b → (n : ℕ) → n < nodes_most →
    get_or b.totals n (pos 0) ≡ sum_over (λ (f : Fitted). flow f.worked f.nodes (volts_of b) n) (fitted_in b)
unfolding totals_of
totals_fitted {b} r n h =
    ap (λ (l : List ℤ). get_or l n (pos 0)) (invariant r).holds.balanced
    ∙ get_or_up (λ (m : ℕ). sum_over (place_gives (cards_of b) (volts_of b) m) (transistors_of b)) nodes_most 0 n (pos 0) h
    ∙ ap (λ (m : ℕ). sum_over (place_gives (cards_of b) (volts_of b) m) (transistors_of b)) (zero-add n)
    ∙ sum_fitted b n

pub same_standing_same_totals : {b c : Board} → Reached b → Reached c → Perm (fitted_in b) (fitted_in c) →
    volts_of b ≡ volts_of c → b.totals ≡ c.totals
unfolding totals_of
same_standing_same_totals {b} {c} r s p e =
    (invariant r).holds.balanced
    ∙ up_same (λ (n : ℕ). sum_over (place_gives (cards_of b) (volts_of b) n) (transistors_of b))
    (λ (n : ℕ). sum_over (place_gives (cards_of c) (volts_of c) n) (transistors_of c)) nodes_most 0
    (λ k h. let n : ℕ = 0 + k in sum_fitted b n
    ∙ perm_sum (λ (f : Fitted). flow f.worked f.nodes (volts_of b) n) p
    ∙ ap (λ (v : List ℤ). sum_over (λ (f : Fitted). flow f.worked f.nodes v n) (fitted_in c)) e
    ∙ sym (sum_fitted c n))
    ∙ sym (invariant s).holds.balanced

-- ---- and stay small

-- each row of each transistor counts once at a node, and that many are below 2^63
pub totals_are_small : {b : Board} → Reached b → (n : ℕ) → n < nodes_most →
    (nat_abs (get_or b.totals n (pos 0)) ≤ transistors_most * (branches * tick_limit))
    × (nat_abs (get_or b.totals n (pos 0)) < 2 ^ 63)
totals_are_small {b} r n h =
    let s =
    (totals_room (cards_of b) (transistors_of b) (volts_of b) (invariant r).footing.footed.transistors_long).within n in
    rw (invariant r).holds.balanced (omega arith, omega arith)
