-- Branches given to the roles, and the roles' amounts to the totals: each node gets what its definition says, and no
-- sum leaves the machine's signed numbers.
use mathlib.Core.Path.{◌≡◌, refl, sym, ap, ◌∙◌}
use mathlib.Core.Bool.{Bool, true, false, cond}
use mathlib.Core.List.{List, [], ◌∷◌}
use mathlib.Core.Logic.{◌⊎◌, inl, inr}
use Prim.Native.Nat.{ℕ, zero, suc, ◌+◌, ◌*◌, ◌^◌, ◌≤◌, ◌<◌, zero-le}
use native.Mathlib.Nat.{suc-mul}
use native.Mathlib.Numerals.{add-one}
use native.Mathlib.Omega.{arith}
use lib.Dec.{eqb, lit<}
use lib.ListN.{length, get_or, set, length-set, get_or-eq_default}
use lib.Seq.{get_or-set_same, get_or-set_other}
use lib.IntN.{ℤ, pos, nat_abs, neg_ℤ, ◌+ℤ◌, ◌-ℤ◌, +ℤ_idr, +ℤ_assoc}
use borrow.Author.Tests.{eqb-true, eqb-false}
use Rattle.whole.specs.laws.Biased.{below_or_not}
use Rattle.ends.specs.OfScaling.Scaled.{tick_limit}
use Rattle.ends.specs.OfTerms.Rows.{Row, role_index, roles, branches}
use Rattle.totals.specs.Gives.{nodes_most, at_node, rows_give}
use Rattle.totals.specs.inner.Sums.{More, Within, Room, Wired, ends, ends_give, spread}
use Rattle.totals.specs.inner.Sizes.{flow_most, room_most, handed_most}
use Rattle.whole.specs.laws.Machine.{abs_neg, held, held_is}
use Rattle.totals.proofs.Integers.{abs_add, abs_ends, turned}

-- ---- the sizes fit

-- a role's amount with a branch more at each of its ends
branch_fits : flow_most + 2 * tick_limit < 2 ^ 63
branch_fits = lit< tt

-- ---- more at one node

at_one : (l : List ℤ) (m : ℕ) (x : ℤ) (n : ℕ) → m < length l →
    get_or (set l m (get_or l m (pos 0) +ℤ x)) n (pos 0) ≡ get_or l n (pos 0) +ℤ at_node m n x
at_one l m x n h = go (eqb m n) refl
  where
    go : (t : Bool) → eqb m n ≡ t →
        get_or (set l m (get_or l m (pos 0) +ℤ x)) n (pos 0) ≡ get_or l n (pos 0) +ℤ cond t x (pos 0)
    go true e = let same = eqb-true m n e in rw (← same) (get_or-set_same l m _ (pos 0) h)
    go false e = get_or-set_other l m n _ (pos 0) (λ q. eqb-false m n e (sym q)) ∙ sym (+ℤ_idr _)

-- ---- a branch

-- asked of a branch
abbrev pub Fair : List ℤ → ℕ → ℕ → ℤ → Type 0
Fair l f t x = (f < roles) × (t < roles) × Room roles flow_most l × (nat_abs x ≤ tick_limit)

abs_at : (m n : ℕ) (x : ℤ) → nat_abs (at_node m n x) ≤ nat_abs x
abs_at m n x = go (eqb m n)
  where
    go : (t : Bool) → nat_abs (cond t x (pos 0)) ≤ nat_abs x
    go true = omega arith
    go false = zero-le

module _ (l : List ℤ) (f t : ℕ) (x : ℤ) (p : Fair l f t x) where
  long : length l ≡ roles
  long = p.2.long

  x_is : held x ≡ x
  x_is = let b = p.3 in held_is x (omega (arith, branch_fits))

  from_is : held (get_or l f (pos 0)) ≡ get_or l f (pos 0)
  from_is = let b = p.2.within f in held_is (get_or l f (pos 0)) (omega (arith, branch_fits))

  small_sum : nat_abs (get_or l f (pos 0) +ℤ x) < 2 ^ 63
  small_sum = let a = p.2.within f in let b = p.3 in omega (arith, branch_fits, abs_add (get_or l f (pos 0)) x)

  -- the totals with x more at the first end
  abbrev once : List ℤ
  once = set l f (held (held (get_or l f (pos 0)) +ℤ held x))

  once_is : once ≡ set l f (get_or l f (pos 0) +ℤ x)
  once_is = rw (from_is, x_is, held_is _ small_sum)

  once_at : (n : ℕ) → get_or once n (pos 0) ≡ get_or l n (pos 0) +ℤ at_node f n x
  once_at n = rw once_is (at_one l f x n (rw long p.0))

  small_once : nat_abs (get_or once t (pos 0)) ≤ flow_most + tick_limit
  small_once =
      let a = p.2.within t in
      let b = p.3 in
      let d = abs_at f t x in rw (once_at t) (omega (arith, abs_add (get_or l t (pos 0)) (at_node f t x)))

  to_is : held (get_or once t (pos 0)) ≡ get_or once t (pos 0)
  to_is = let b = small_once in held_is (get_or once t (pos 0)) (omega (arith, branch_fits))

  small_less : nat_abs (get_or once t (pos 0) -ℤ x) < 2 ^ 63
  small_less =
      let a = small_once in
      let b = p.3 in
      let d = abs_neg x in omega (arith, branch_fits, abs_add (get_or once t (pos 0)) (neg_ℤ x))

  abbrev twice : List ℤ
  twice = set once t (held (held (get_or once t (pos 0)) -ℤ held x))

  twice_is : twice ≡ set once t (get_or once t (pos 0) +ℤ neg_ℤ x)
  twice_is =
      ap (λ (z : ℤ). set once t z)
      (ap (λ (z : ℤ). held (z -ℤ held x)) to_is
      ∙ ap (λ (z : ℤ). held (get_or once t (pos 0) -ℤ z)) x_is
      ∙ held_is _ small_less)

  once_long : length once ≡ roles
  once_long = length-set l f _ ∙ long

  pub branch_gives : More roles l twice (ends f t x)
  branch_gives =
      record {
        long = length-set once t _ ∙ once_long;
        at = λ n h. ap (λ (m : List ℤ). get_or m n (pos 0)) twice_is ∙ at_one once t (neg_ℤ x) n (rw once_long p.1)
            ∙ ap (λ (z : ℤ). z +ℤ at_node t n (neg_ℤ x)) (once_at n)
            ∙ +ℤ_assoc (get_or l n (pos 0)) (at_node f n x) (at_node t n (neg_ℤ x))
            ∙ ap (λ (z : ℤ). get_or l n (pos 0) +ℤ (at_node f n x +ℤ z)) (turned (eqb t n) x);
      }

-- ---- all branches

pub ends_small : (froms tos : List ℕ) (ticks : List ℤ) → Within tick_limit ticks → (k n : ℕ) →
    nat_abs (ends_give froms tos ticks k n) ≤ k * tick_limit
unfolding ends_give
ends_small froms tos ticks w zero n = zero-le
ends_small froms tos ticks w (suc k) n =
    let a = ends_small froms tos ticks w k n in
    let x = get_or ticks k (pos 0) in
    let b = w.within k in
    let e = abs_ends (eqb (get_or froms k 0) n) (eqb (get_or tos k 0) n) x in
    let s = abs_add (ends_give froms tos ticks k n) (ends (get_or froms k 0) (get_or tos k 0) x n) in
    rw (suc-mul k tick_limit) (omega arith)

pub room_more : {k a m : ℕ} {l₀ l : List ℤ} {f : ℕ → ℤ} → Room k a l₀ → More k l₀ l f → ((n : ℕ) → nat_abs (f n) ≤ m) →
    Room k (a + m) l
room_more {k} {a} {m} {l₀} {l} {f} w more small = record { long = more.long; within = λ n. go n (below_or_not n k) }
  where
    go : (n : ℕ) → (n < k) ⊎ (k ≤ n) → nat_abs (get_or l n (pos 0)) ≤ a + m
    go n (inl h) =
        let s = abs_add (get_or l₀ n (pos 0)) (f n) in
        let u = w.within n in
        let v = small n in rw (more.at n h) (omega arith)
    go n (inr h) = rw (get_or-eq_default l (pos 0) {n = n} (rw more.long h)) zero-le

pub room_less : {k a m : ℕ} {l : List ℤ} → a ≤ m → Room k a l → Room k m l
room_less h w = record { long = w.long; within = λ n. let u = w.within n in omega arith }

module _ (froms tos : List ℕ) (ticks : List ℤ) where
  pub ends_none : (l : List ℤ) → length l ≡ roles → More roles l l (ends_give froms tos ticks 0)
  unfolding ends_give
  ends_none l h = record { long = h; at = λ n k. sym (+ℤ_idr (get_or l n (pos 0))) }

  pub ends_more : {l₀ l l' : List ℤ} (k : ℕ) (x : ℤ) → More roles l₀ l (ends_give froms tos ticks k) →
      x ≡ get_or ticks k (pos 0) → More roles l l' (ends (get_or froms k 0) (get_or tos k 0) x) →
      More roles l₀ l' (ends_give froms tos ticks (k + 1))
  unfolding ends_give
  ends_more {l₀} k x p e q =
      record {
        long = q.long;
        at =
            λ n h. rw add-one
            (q.at n h
            ∙ ap (λ (z : ℤ). z +ℤ ends (get_or froms k 0) (get_or tos k 0) x n) (p.at n h)
            ∙ +ℤ_assoc (get_or l₀ n (pos 0)) (ends_give froms tos ticks k n) (ends (get_or froms k 0) (get_or tos k 0) x n)
            ∙ ap (λ (z : ℤ). get_or l₀ n (pos 0) +ℤ
            (ends_give froms tos ticks k n +ℤ ends (get_or froms k 0) (get_or tos k 0) z n)) e);
      }

  -- there is room for one more branch
  pub fair_next : {l₀ l : List ℤ} (k : ℕ) (x : ℤ) → Wired roles froms → Wired roles tos → Room roles 0 l₀ →
      Within tick_limit ticks → k < branches → x ≡ get_or ticks k (pos 0) →
      More roles l₀ l (ends_give froms tos ticks k) → Fair l (get_or froms k 0) (get_or tos k 0) x
  fair_next k x u v w s h e more =
      let b = s.within k in
      (u.wired k, v.wired k, room_less (omega arith) (room_more w more (ends_small froms tos ticks s k)), rw e b)

-- ---- a role's amount to its node

spread_small : (nodes : List ℕ) (f : ℕ → ℤ) (most : ℕ) → ((r : ℕ) → nat_abs (f r) ≤ most) → (k n : ℕ) →
    nat_abs (spread nodes f k n) ≤ k * most
unfolding spread
spread_small nodes f most w zero n = zero-le
spread_small nodes f most w (suc k) n =
    let a = spread_small nodes f most w k n in
    let b = w k in
    let e = abs_at (get_or nodes k 0) n (f k) in
    let s = abs_add (spread nodes f k n) (at_node (get_or nodes k 0) n (f k)) in
    rw (suc-mul k most) (omega arith)

module _ (nodes : List ℕ) (f : ℕ → ℤ) where
  pub spread_none : (l : List ℤ) → length l ≡ nodes_most → More nodes_most l l (spread nodes f 0)
  unfolding spread
  spread_none l h = record { long = h; at = λ n k. sym (+ℤ_idr (get_or l n (pos 0))) }

  pub spread_more : {l₀ l l' : List ℤ} (k : ℕ) (x : ℤ) → More nodes_most l₀ l (spread nodes f k) → x ≡ f k →
      More nodes_most l l' (λ (m : ℕ). at_node (get_or nodes k 0) m x) → More nodes_most l₀ l' (spread nodes f (k + 1))
  unfolding spread
  spread_more {l₀} k x p e q =
      record {
        long = q.long;
        at =
            λ n h. rw add-one
            (q.at n h
            ∙ ap (λ (z : ℤ). z +ℤ at_node (get_or nodes k 0) n x) (p.at n h)
            ∙ +ℤ_assoc (get_or l₀ n (pos 0)) (spread nodes f k n) (at_node (get_or nodes k 0) n x)
            ∙ ap (λ (z : ℤ). get_or l₀ n (pos 0) +ℤ (spread nodes f k n +ℤ at_node (get_or nodes k 0) n z)) e);
      }

  -- there is room for one more role
  pub room_next : {l₀ l : List ℤ} (k : ℕ) (x : ℤ) → Wired nodes_most nodes → Room nodes_most room_most l₀ →
      ((r : ℕ) → nat_abs (f r) ≤ flow_most) → k < roles → x ≡ f k → More nodes_most l₀ l (spread nodes f k) →
      (get_or nodes k 0 < nodes_most) × Room nodes_most handed_most l × (nat_abs x ≤ flow_most)
  room_next k x u w s h e more =
      let b = s k in
      (u.wired k, room_less (omega arith) (room_more w more (spread_small nodes f flow_most s k)), rw e b)

-- ---- sizes: a row counts at most once at a node

pub small_rows : (rows : List Row) (nodes : List ℕ) (ticks : List ℤ) (n most : ℕ) →
    ((k : ℕ) → nat_abs (get_or ticks k (pos 0)) ≤ most) → nat_abs (rows_give rows nodes ticks n) ≤ length rows * most
unfolding rows_give
small_rows [] nodes ticks n most h = zero-le
small_rows (r ∷ rs) nodes [] n most h = zero-le
small_rows (r ∷ rs) nodes (x ∷ xs) n most h =
    let a = get_or nodes (role_index r.from) 0 in
    let b = get_or nodes (role_index r.to) 0 in
    let p = abs_add (at_node a n x -ℤ at_node b n x) (rows_give rs nodes xs n) in
    let q = abs_ends (eqb a n) (eqb b n) x in
    let t = small_rows rs nodes xs n most (λ k. h (suc k)) in
    let u = h 0 in
    rw (suc-mul (length rs) most) (omega arith)
