-- What totals gain where voltages are moved: totals that were the sums of what stands are so again.
use mathlib.Core.Path.{◌≡◌, refl, sym, ap, ◌∙◌, subst}
use mathlib.Core.Bool.{Bool, true, false, cond, ◌||◌}
use mathlib.Core.List.{List, [], ◌∷◌, map}
use Prim.Native.Nat.{ℕ, zero, suc, ◌≤◌, ◌<◌}
use native.Mathlib.Omega.{arith}
use lib.Dec.{eqb}
use lib.ListN.{length, get_or, set}
use lib.IntN.{ℤ, pos, neg_ℤ, ◌+ℤ◌, +ℤ_idr, +ℤ_idl, +ℤ_assoc, +ℤ_comm, +ℤ_invr, +ℤ_invl}
use lib.Seq.{ext_get_or}
use borrow.Author.Tests.{eqb-true, eqb-false, ne_eqb, eq-eqb}
use Rattle.refusal.specs.Clash.{clash}
use Rattle.volts.specs.Volts.{given_back, kept_as}
use Rattle.card.specs.declared.WorkedCard.{WorkedCard}
use Rattle.settle.specs.OfRows.Outcome.{told_ticks}
use Rattle.settle.specs.OfPolarity.Polarity.{outcome_of}
use Rattle.settle.specs.OfTotals.Gives.{nodes_most}
use Rattle.settle.specs.OfTotals.Flow.{roles_at, ticks_at, flow, sum_over, sum_below, with_more}
use Rattle.settle.specs.OfTotals.inner.Sums.{More}
use Rattle.settle.proofs.OfSlices.Passing.{more_long}
use Rattle.settle.specs.OfGiven.Lists.{any_of}
use Rattle.settle.specs.OfPlaces.Gathered.{Card, Transistor, no_transistor, worked_at}
use Rattle.settle.specs.OfPlaces.Finding.{names, stands_at}
use Rattle.settle.specs.OfFlows.Back.{ticks_back}
use Rattle.settle.specs.Change.{change_by}
use Rattle.settle.specs.OfGiven.Pairs.{Shift, shifted_in}
use Rattle.model.specs.Model.{shifted, touched}
use Rattle.model.specs.inner.Sums.{place_gives, totals_of}
use Rattle.model.proofs.NodeSums.{up_at, totals_at, are_totals}

-- ---- totals with more

pub more_at : (l : List ℤ) (f : ℕ → ℤ) (n : ℕ) → n < nodes_most →
    get_or (with_more l f) n (pos 0) ≡ get_or l n (pos 0) +ℤ f n
unfolding with_more
more_at l f n h = up_at (λ (m : ℕ). get_or l m (pos 0) +ℤ f m) nodes_most n (pos 0) h

-- what has so much more at each node is the totals with that more
more_is : {l₀ l : List ℤ} {f : ℕ → ℤ} (g : ℕ → ℤ) → More nodes_most l₀ l f → ((n : ℕ) → n < nodes_most → f n ≡ g n) →
    l ≡ with_more l₀ g
more_is {l₀} {l} g more same =
    ext_get_or (pos 0) l (with_more l₀ g) (more.long ∙ sym (more_long l₀ g))
    (λ n q. let b = subst (λ (k : ℕ). n < k) more.long q in
    more.at n b ∙ ap (λ (z : ℤ). get_or l₀ n (pos 0) +ℤ z) (same n b) ∙ sym (more_at l₀ g n b))

-- totals with the same more at each node
pub same_more : (totals : List ℤ) (f g : ℕ → ℤ) → ((n : ℕ) → n < nodes_most → f n ≡ g n) →
    with_more totals f ≡ with_more totals g
same_more totals f g same =
    more_is g (record { long = more_long totals f; at = λ n h. more_at totals f n h }) same

-- ---- voltages of roles that no moved node has

map_other : (f : ℕ → ℤ) (l : List ℕ) (n m v : ℕ) → (m ≡ n → ⊥) →
    get_or (map f (set l n v)) m (pos 0) ≡ get_or (map f l) m (pos 0)
map_other f [] n m v h = refl
map_other f (x ∷ l) zero zero v h = absurd (h refl)
map_other f (x ∷ l) zero (suc m) v h = refl
map_other f (x ∷ l) (suc n) zero v h = refl
map_other f (x ∷ l) (suc n) (suc m) v h = map_other f l n m v (λ q. h (ap suc q))

roles_one : (volts : List ℕ) (n v : ℕ) (nodes : List ℕ) → names n nodes ≡ false →
    roles_at (map given_back (set volts n v)) nodes ≡ roles_at (map given_back volts) nodes
unfolding any_of
roles_one volts n v [] e = refl
roles_one volts n v (m ∷ nodes) e = go (eqb m n) refl e (λ q. roles_one volts n v nodes q)
  where
    go : (t : Bool) → eqb m n ≡ t → t || names n nodes ≡ false →
        (names n nodes ≡ false → roles_at (map given_back (set volts n v)) nodes ≡ roles_at (map given_back volts) nodes) →
        roles_at (map given_back (set volts n v)) (m ∷ nodes) ≡ roles_at (map given_back volts) (m ∷ nodes)
    go true p q next = clash cc
    go false p q next = rw (map_other given_back volts n m v (eqb-false m n p), next q)

pub either_false : (a b : Bool) → a || b ≡ false → (a ≡ false) × (b ≡ false)
either_false true b e = clash cc
either_false false b e = (refl, e)

pub roles_same : (shifts : List Shift) (volts : List ℕ) (t : Transistor) → (t.issue ≡ 0 → ⊥) →
    touched shifts t ≡ false →
    roles_at (map given_back (shifted volts shifts)) t.nodes ≡ roles_at (map given_back volts) t.nodes
unfolding shifted_in any_of
roles_same [] volts t h e = refl
roles_same (s ∷ rest) volts t h e =
    let p = either_false (stands_at s.node t) (touched rest t) e in
    let q : names s.node t.nodes ≡ false = rw (ne_eqb t.issue 0 h) at p.0 in
    roles_same rest (set volts s.node (kept_as s.volts)) t h p.1
    ∙ roles_one volts s.node (kept_as s.volts) t.nodes q

-- so that it has the currents that it had
pub ticks_same : (shifts : List Shift) (volts : List ℕ) (c : WorkedCard) (t : Transistor) → (t.issue ≡ 0 → ⊥) →
    touched shifts t ≡ false →
    ticks_at c t.nodes (map given_back (shifted volts shifts)) ≡ ticks_at c t.nodes (map given_back volts)
unfolding ticks_at
ticks_same shifts volts c t h e = ap (λ (v : List ℤ). told_ticks (outcome_of c v)) (roles_same shifts volts t h e)

-- what is worked stands
pub touched_stands : (shifts : List Shift) (t : Transistor) → touched shifts t ≡ true → t.issue ≡ 0 → ⊥
unfolding any_of
touched_stands [] t e z = clash cc
touched_stands (s ∷ rest) t e z =
    let none : stands_at s.node t ≡ false = rw (eq-eqb _ _ z) in
    touched_stands rest t (rw none at e) z

-- ---- what one place gives, before and after

-- a transistor that stands holds the currents that it has
abbrev pub HeldIs : List Card → List ℤ → Transistor → Type 0
HeldIs cards volts t = (t.issue ≡ 0 → ⊥) → t.currents ≡ ticks_at (worked_at cards t.seat) t.nodes volts

module _ (cards : List Card) (volts : List ℕ) (shifts : List Shift) (n : ℕ) where
  abbrev before : Transistor → ℤ
  before t = place_gives cards (map given_back volts) n t

  abbrev after : Transistor → ℤ
  after t = place_gives cards (map given_back (shifted volts shifts)) n t

  -- what node n gains by the transistor
  abbrev pub gain_by : Transistor → ℤ
  gain_by t =
      cond (touched shifts t)
      (change_by (worked_at cards t.seat) t.nodes t.currents (map given_back (shifted volts shifts)) n)
      (pos 0)

  gain_is : (t : Transistor) → HeldIs cards (map given_back volts) t → gain_by t ≡ neg_ℤ (before t) +ℤ after t
  unfolding place_gives change_by ticks_back flow
  gain_is t held = go (touched shifts t) refl (eqb t.issue 0) refl
    where
      go : (w : Bool) → touched shifts t ≡ w → (u : Bool) → eqb t.issue 0 ≡ u →
          cond w
          (change_by (worked_at cards t.seat) t.nodes t.currents (map given_back (shifted volts shifts)) n)
          (pos 0) ≡ neg_ℤ (before t) +ℤ after t
      go true p true q = absurd (touched_stands shifts t p (eqb-true _ _ q))
      go true p false q = rw (q, held (eqb-false _ _ q))
      go false p true q = rw q
      go false p false q =
          rw (q, ticks_same shifts volts (worked_at cards t.seat) t (eqb-false _ _ q) p)
          (sym (+ℤ_invl (flow (worked_at cards t.seat) t.nodes (map given_back volts) n)))

-- ---- sums half way

-- f over the first k, g over the others
unfoldable midway : {A : Type 0} → (A → ℤ) → (A → ℤ) → ℕ → List A → ℤ
unfolding sum_over
midway f g zero l = sum_over g l
midway f g (suc k) [] = pos 0
midway f g (suc k) (a ∷ l) = f a +ℤ midway f g k l

swap_first : (x y s : ℤ) → y +ℤ s ≡ (x +ℤ s) +ℤ (neg_ℤ x +ℤ y)
swap_first x y s =
    +ℤ_comm y s
    ∙ sym
    (sym (+ℤ_assoc (x +ℤ s) (neg_ℤ x) y)
    ∙ ap (λ (z : ℤ). z +ℤ y)
    (ap (λ (z : ℤ). z +ℤ neg_ℤ x) (+ℤ_comm x s) ∙ +ℤ_assoc s x (neg_ℤ x) ∙ ap (λ (z : ℤ). s +ℤ z) (+ℤ_invr x) ∙ +ℤ_idr s))

module _ {A : Type 0} (f g : A → ℤ) (d : A) where
  midway_more : (k : ℕ) (l : List A) → k < length l →
      midway f g (suc k) l ≡ midway f g k l +ℤ (neg_ℤ (g (get_or l k d)) +ℤ f (get_or l k d))
  unfolding midway sum_over
  midway_more k [] h = absurd (omega arith)
  midway_more zero (a ∷ l) h = swap_first (g a) (f a) (sum_over g l)
  midway_more (suc k) (a ∷ l) h =
      ap (λ (z : ℤ). f a +ℤ z) (midway_more k l (omega arith)) ∙ sym (+ℤ_assoc (f a) (midway f g k l) _)

  midway_sum : (h : ℕ → ℤ) (l : List A) →
      ((i : ℕ) → i < length l → h i ≡ neg_ℤ (g (get_or l i d)) +ℤ f (get_or l i d)) →
      (k : ℕ) → k ≤ length l → sum_over g l +ℤ sum_below h k ≡ midway f g k l
  unfolding sum_below midway
  midway_sum h l is zero m = +ℤ_idr _
  midway_sum h l is (suc k) m =
      sym (+ℤ_assoc (sum_over g l) (sum_below h k) (h k))
      ∙ ap (λ (z : ℤ). z +ℤ h k) (midway_sum h l is k (omega arith))
      ∙ ap (λ (z : ℤ). midway f g k l +ℤ z) (is k (omega arith))
      ∙ sym (midway_more k l (omega arith))

midway_all : {A : Type 0} (f g : A → ℤ) (k : ℕ) (l : List A) → length l ≡ k → midway f g k l ≡ sum_over f l
unfolding midway sum_over
midway_all f g zero [] h = refl
midway_all f g zero (a ∷ l) h = absurd (omega arith)
midway_all f g (suc k) [] h = absurd (omega arith)
midway_all f g (suc k) (a ∷ l) h = ap (λ (z : ℤ). f a +ℤ z) (midway_all f g k l (omega arith))

-- ---- the totals

module _ (cards : List Card) (ts : List Transistor) (volts : List ℕ) (shifts : List Shift) {totals : List ℤ}
    (e : totals ≡ totals_of cards ts (map given_back volts))
    (held : (i : ℕ) → HeldIs cards (map given_back volts) (get_or ts i no_transistor)) where
  -- what node n gains by the first k places
  abbrev pub gain_of : ℕ → ℕ → ℤ
  gain_of k n = sum_below (λ (i : ℕ). gain_by cards volts shifts n (get_or ts i no_transistor)) k

  sum_at : (n : ℕ) → n < nodes_most → (k : ℕ) → k ≤ length ts →
      get_or totals n (pos 0) +ℤ gain_of k n ≡ midway (after cards volts shifts n) (before cards volts shifts n) k ts
  sum_at n h k m =
      ap (λ (z : ℤ). z +ℤ gain_of k n)
      (ap (λ (l : List ℤ). get_or l n (pos 0)) e ∙ totals_at cards ts (map given_back volts) n h)
      ∙ midway_sum (after cards volts shifts n) (before cards volts shifts n) no_transistor _ ts
      (λ i q. gain_is cards volts shifts n (get_or ts i no_transistor) (held i)) k m

  pub totals_settled : (k : ℕ) → length ts ≡ k →
      with_more totals (gain_of k) ≡ totals_of cards ts (map given_back (shifted volts shifts))
  totals_settled k h =
      are_totals cards ts (map given_back (shifted volts shifts)) (with_more totals (gain_of k)) (more_long totals
      (gain_of k))
      (λ n b. more_at totals (gain_of k) n b ∙ sum_at n b k (omega arith)
      ∙ midway_all (after cards volts shifts n) (before cards volts shifts n) k ts h)

-- ---- one transistor more, or less

sum_set : {A : Type 0} (f : A → ℤ) (d : A) (l : List A) (i : ℕ) (a : A) → i < length l →
    sum_over f (set l i a) ≡ sum_over f l +ℤ (neg_ℤ (f (get_or l i d)) +ℤ f a)
unfolding sum_over
sum_set f d [] i a h = absurd (omega arith)
sum_set f d (b ∷ l) zero a h = swap_first (f b) (f a) (sum_over f l)
sum_set f d (b ∷ l) (suc i) a h =
    ap (λ (z : ℤ). f b +ℤ z) (sum_set f d l i a (omega arith)) ∙ sym (+ℤ_assoc (f b) (sum_over f l) _)

module _ (cards : List Card) (ts : List Transistor) (volts : List ℤ) {totals : List ℤ}
    (e : totals ≡ totals_of cards ts volts) (i : ℕ) (below : i < length ts) (t : Transistor) where
  changed : (f : ℕ → ℤ) →
      ((n : ℕ) → f n ≡ neg_ℤ (place_gives cards volts n (get_or ts i no_transistor)) +ℤ place_gives cards volts n t) →
      with_more totals f ≡ totals_of cards (set ts i t) volts
  changed f is =
      are_totals cards (set ts i t) volts (with_more totals f) (more_long totals f)
      (λ n h. more_at totals f n h
      ∙ ap (λ (z : ℤ). z +ℤ f n) (ap (λ (l : List ℤ). get_or l n (pos 0)) e ∙ totals_at cards ts volts n h)
      ∙ ap (λ (z : ℤ). sum_over (place_gives cards volts n) ts +ℤ z) (is n)
      ∙ sym (sum_set (place_gives cards volts n) no_transistor ts i t below))

  pub totals_put : (get_or ts i no_transistor).issue ≡ 0 → (t.issue ≡ 0 → ⊥) →
      with_more totals (flow (worked_at cards t.seat) t.nodes volts) ≡ totals_of cards (set ts i t) volts
  unfolding place_gives
  totals_put free stands =
      changed (flow (worked_at cards t.seat) t.nodes volts)
      (λ n. rw (eq-eqb _ _ free, ne_eqb _ _ stands) (sym (+ℤ_idl (flow (worked_at cards t.seat) t.nodes volts n))))

  pub totals_taken : ((get_or ts i no_transistor).issue ≡ 0 → ⊥) → t.issue ≡ 0 →
      HeldIs cards volts (get_or ts i no_transistor) →
      with_more totals (ticks_back (get_or ts i no_transistor).nodes (get_or ts i no_transistor).currents)
      ≡ totals_of cards (set ts i t) volts
  unfolding place_gives ticks_back flow
  totals_taken stands free held =
      changed (ticks_back (get_or ts i no_transistor).nodes (get_or ts i no_transistor).currents)
      (λ n. rw (eq-eqb _ _ free, ne_eqb _ _ stands, held stands) (sym (+ℤ_idr _)))
