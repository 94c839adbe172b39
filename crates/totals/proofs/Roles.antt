-- The branches of a transistor by its roles: once the roles hand what they have to their nodes, each node has what
-- the rows give it.
use mathlib.Core.Path.{◌≡◌, refl, sym, ap, ◌∙◌}
use mathlib.Core.Bool.{Bool, true, false, cond}
use mathlib.Core.List.{List, [], ◌∷◌, map}
use Prim.Native.Nat.{ℕ, zero, suc, ◌≤◌, ◌<◌, zero-le}
use native.Mathlib.Nat.{le_of_eq}
use native.Mathlib.Omega.{arith}
use lib.Dec.{eqb, lit<}
use lib.ListN.{length, get_or, replicate, length-map}
use lib.IntN.{ℤ, pos, neg_ℤ, ◌+ℤ◌, +ℤ_idl, +ℤ_idr, +ℤ_assoc, neg_ℤ-+ℤ}
use borrow.Author.Tests.{eqb-true, eqb-false, ne_eqb}
use Rattle.ends.specs.OfTerms.Rows.{Role, E1, B1, B2, C1, C2, C4, S, E, B, C, C3, Row, role_index, roles, branches}
use Rattle.ends.specs.OfScaling.Scaled.{tick_limit}
use Rattle.ends.specs.OfTerms.Ends.{froms_of, tos_of}
use Rattle.totals.specs.Gives.{nodes_most, at_node, rows_give}
use Rattle.totals.specs.inner.Sums.{More, Within, Room, Wired, Givable, ends, ends_give, spread, roles_give}
use Rattle.totals.specs.inner.Sizes.{flow_most, room_most}
use Rattle.totals.proofs.Lists.{get_d_map}
use Rattle.totals.proofs.Integers.{turned, swap_inner}
use Rattle.totals.proofs.Amounts.{room_more, ends_small}

-- ---- handing out is by role

nothing_at : (t : Bool) → cond t (pos 0) (pos 0) ≡ pos 0
nothing_at true = refl
nothing_at false = refl

both_at : (t : Bool) (x y : ℤ) → cond t (x +ℤ y) (pos 0) ≡ cond t x (pos 0) +ℤ cond t y (pos 0)
both_at true x y = refl
both_at false x y = refl

module _ (nodes : List ℕ) (n : ℕ) where
  spread_same : (f g : ℕ → ℤ) (k : ℕ) → ((r : ℕ) → r < k → f r ≡ g r) → spread nodes f k n ≡ spread nodes g k n
  unfolding spread
  spread_same f g zero e = refl
  spread_same f g (suc k) e = rw (spread_same f g k (λ r h. e r (omega arith)), e k (omega arith))

  spread_nothing : (k : ℕ) → spread nodes (λ (r : ℕ). pos 0) k n ≡ pos 0
  unfolding spread
  spread_nothing zero = refl
  spread_nothing (suc k) = rw (spread_nothing k, nothing_at (eqb (get_or nodes k 0) n))

  spread_both : (f g : ℕ → ℤ) (k : ℕ) →
      spread nodes (λ (r : ℕ). f r +ℤ g r) k n ≡ spread nodes f k n +ℤ spread nodes g k n
  unfolding spread
  spread_both f g zero = refl
  spread_both f g (suc k) =
      rw (spread_both f g k, both_at (eqb (get_or nodes k 0) n) (f k) (g k))
      (swap_inner (spread nodes f k n) (spread nodes g k n) _ _)

  spread_less : (f : ℕ → ℤ) (k : ℕ) → spread nodes (λ (r : ℕ). neg_ℤ (f r)) k n ≡ neg_ℤ (spread nodes f k n)
  unfolding spread
  spread_less f zero = refl
  spread_less f (suc k) =
      rw (spread_less f k, turned (eqb (get_or nodes k 0) n) (f k)) (sym (neg_ℤ-+ℤ (spread nodes f k n) _))

  -- what one role has goes to its node
  spread_away : (r : ℕ) (x : ℤ) (k : ℕ) → k ≤ r → spread nodes (λ (j : ℕ). at_node r j x) k n ≡ pos 0
  unfolding spread
  spread_away r x zero h = refl
  spread_away r x (suc k) h =
      rw (spread_away r x k (omega arith), ne_eqb r k (λ q. omega arith), nothing_at (eqb (get_or nodes k 0) n))

  spread_one : (r : ℕ) (x : ℤ) (k : ℕ) → r < k →
      spread nodes (λ (j : ℕ). at_node r j x) k n ≡ at_node (get_or nodes r 0) n x
  unfolding spread
  spread_one r x zero h = absurd (omega arith)
  spread_one r x (suc k) h = go (eqb r k) refl (λ q. spread_one r x k q)
    where
      go : (t : Bool) → eqb r k ≡ t →
          (r < k → spread nodes (λ (j : ℕ). at_node r j x) k n ≡ at_node (get_or nodes r 0) n x) →
          spread nodes (λ (j : ℕ). at_node r j x) k n +ℤ at_node (get_or nodes k 0) n (cond t x (pos 0)) ≡ at_node
          (get_or nodes r 0) n x
      go true e next = let same = eqb-true r k e in rw (spread_away r x k (omega arith), same) (+ℤ_idl _)
      go false e next =
          let other = eqb-false r k e in rw (next (omega arith), nothing_at (eqb (get_or nodes k 0) n)) (+ℤ_idr _)

  spread_ends : (f t : ℕ) (x : ℤ) → f < roles → t < roles →
      spread nodes (ends f t x) roles n ≡ ends (get_or nodes f 0) (get_or nodes t 0) x n
  spread_ends f t x h j =
      spread_both (λ (r : ℕ). at_node f r x) (λ (r : ℕ). neg_ℤ (at_node t r x)) roles
      ∙ rw (spread_one f x roles h, spread_less (λ (r : ℕ). at_node t r x) roles, spread_one t x roles j)

  -- the nodes of roles
  abbrev nodes_of : List ℕ → List ℕ
  nodes_of rs = map (λ (r : ℕ). get_or nodes r 0) rs

  spread_branches : (froms tos : List ℕ) (ticks : List ℤ) → Wired roles froms → Wired roles tos → (k : ℕ) →
      k ≤ length froms → k ≤ length tos →
      spread nodes (ends_give froms tos ticks k) roles n ≡ ends_give (nodes_of froms) (nodes_of tos) ticks k n
  unfolding ends_give
  spread_branches froms tos ticks u v zero h j = spread_nothing roles
  spread_branches froms tos ticks u v (suc k) h j =
      spread_both (ends_give froms tos ticks k) (ends (get_or froms k 0) (get_or tos k 0) (get_or ticks k (pos 0))) roles
      ∙ rw (
        spread_branches froms tos ticks u v k (omega arith) (omega arith),
        spread_ends (get_or froms k 0) (get_or tos k 0) (get_or ticks k (pos 0)) (u.wired k) (v.wired k),
        get_d_map (λ (r : ℕ). get_or nodes r 0) froms k 0 0 (omega arith),
        get_d_map (λ (r : ℕ). get_or nodes r 0) tos k 0 0 (omega arith),
      )

-- ---- the branches by their nodes

-- the first branch before the others
ends_first : (f t : ℕ) (froms tos : List ℕ) (x : ℤ) (ticks : List ℤ) (k n : ℕ) →
    ends_give (f ∷ froms) (t ∷ tos) (x ∷ ticks) (suc k) n ≡ ends f t x n +ℤ ends_give froms tos ticks k n
unfolding ends_give
ends_first f t froms tos x ticks zero n = +ℤ_idl (ends f t x n) ∙ sym (+ℤ_idr (ends f t x n))
ends_first f t froms tos x ticks (suc k) n =
    ap (λ (z : ℤ). z +ℤ ends (get_or froms k 0) (get_or tos k 0) (get_or ticks k (pos 0)) n)
    (ends_first f t froms tos x ticks k n)
    ∙ +ℤ_assoc (ends f t x n) (ends_give froms tos ticks k n) _

-- so that branches between the ends of rows give what the rows give
module _ (nodes : List ℕ) (n : ℕ) where
  ends_are_rows : (rows : List Row) (ticks : List ℤ) → length ticks ≡ length rows →
      ends_give (nodes_of nodes n (froms_of rows)) (nodes_of nodes n (tos_of rows)) ticks (length rows) n
      ≡ rows_give rows nodes ticks n
  unfolding ends_give rows_give
  ends_are_rows [] ticks h = refl
  ends_are_rows (r ∷ rows) [] h = absurd (omega arith)
  ends_are_rows (r ∷ rows) (x ∷ ticks) h =
      ends_first _ _ (nodes_of nodes n (froms_of rows)) (nodes_of nodes n (tos_of rows)) x ticks (length rows) n
      ∙ ap (λ (z : ℤ). ends (get_or nodes (role_index r.from) 0) (get_or nodes (role_index r.to) 0) x n +ℤ z)
      (ends_are_rows rows ticks (omega arith))

-- ---- and by their roles

-- every role is one of them
role_below : (r : Role) → role_index r < roles
role_below E1 = lit< tt
role_below B1 = lit< tt
role_below B2 = lit< tt
role_below C1 = lit< tt
role_below C2 = lit< tt
role_below C4 = lit< tt
role_below S = lit< tt
role_below E = lit< tt
role_below B = lit< tt
role_below C = lit< tt
role_below C3 = lit< tt

wired_by : (end : Row → Role) (rows : List Row) → Wired roles (map (λ (r : Row). role_index (end r)) rows)
wired_by end rows = record { wired = go rows }
  where
    go : (rows : List Row) (k : ℕ) → get_or (map (λ (r : Row). role_index (end r)) rows) k 0 < roles
    go [] k = lit< tt
    go (r ∷ rows) zero = role_below (end r)
    go (r ∷ rows) (suc k) = go rows k

pub wired_froms : (rows : List Row) → Wired roles (froms_of rows)
wired_froms rows = wired_by (λ (r : Row). r.from) rows

pub wired_tos : (rows : List Row) → Wired roles (tos_of rows)
wired_tos rows = wired_by (λ (r : Row). r.to) rows

-- any rows
module _ (rows : List Row) (nodes : List ℕ) (ticks : List ℤ) (n : ℕ) (h : length ticks ≡ length rows) where
  pub roles_are_rows :
      spread nodes (ends_give (froms_of rows) (tos_of rows) ticks (length rows)) roles n ≡ rows_give rows nodes ticks n
  roles_are_rows =
      spread_branches nodes n (froms_of rows) (tos_of rows) ticks (wired_froms rows) (wired_tos rows) (length rows)
      (le_of_eq (sym (length-map rows _))) (le_of_eq (sym (length-map rows _)))
      ∙ ends_are_rows nodes n rows ticks h

-- ---- the roles' amounts, worked from nothing

same_yet : {A : Type 0} (v : A) (k r : ℕ) → get_or (replicate k v) r v ≡ v
same_yet v zero r = refl
same_yet v (suc k) zero = refl
same_yet v (suc k) (suc r) = same_yet v k r

within_nothing : (k most : ℕ) → Within most (replicate k (pos 0))
within_nothing k most = record { within = λ r. rw (same_yet (pos 0) k r) zero-le }

pub room_nothing : Room roles 0 (replicate roles (pos 0))
room_nothing = record { long = refl; within = (within_nothing roles 0).within }

module _ (froms tos : List ℕ) (ticks a : List ℤ)
    (more : More roles (replicate roles (pos 0)) a (ends_give froms tos ticks branches)) where
  pub amounts_within : Within tick_limit ticks → Within flow_most a
  amounts_within w = record { within = (room_more room_nothing more (ends_small froms tos ticks w branches)).within }

  pub amounts_out : (nodes : List ℕ) {l l' : List ℤ} →
      More nodes_most l l' (spread nodes (λ (k : ℕ). get_or a k (pos 0)) roles) →
      More nodes_most l l' (roles_give nodes froms tos ticks)
  amounts_out nodes {l} m =
      record {
        long = m.long;
        at =
            λ n h. m.at n h
            ∙ ap (λ (z : ℤ). get_or l n (pos 0) +ℤ z)
            (spread_same nodes n _ _ roles (λ r k. more.at r k ∙ rw (same_yet (pos 0) roles r) (+ℤ_idl _)));
      }

-- no ticks can be given to totals that are nothing
pub givable_none : Givable (replicate nodes_most (pos 0)) (replicate roles 0) (replicate branches (pos 0))
givable_none =
    record {
      wired = record { wired = λ k. rw (same_yet {A = ℕ} 0 roles k) (lit< tt) };
      room = record { long = refl; within = (within_nothing nodes_most room_most).within };
      within = within_nothing branches tick_limit;
    }
