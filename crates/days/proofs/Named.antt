-- The sets of nodes over any calls: each is a fresh scan, a move leaves whoever is in none of its nodes' sets as it
-- was, and what is listed of a node are its transistors, each once, in rising order.
use mathlib.Core.Path.{◌≡◌, refl, sym, ap, ◌∙◌, subst}
use mathlib.Core.Bool.{Bool, true, false}
use mathlib.Core.List.{List, [], ◌∷◌, map}
use mathlib.Core.Logic.{inl, inr}
use Prim.Native.Nat.{ℕ, zero, suc, ◌≤◌, ◌<◌}
use native.Mathlib.Omega.{arith}
use lib.Dec.{eqb}
use lib.ListN.{get_or}
use lib.IntN.{ℤ}
use Rattle.refusal.specs.Order.{Verdict, no, yes}
use Rattle.given.specs.Lists.{any_of, keep_if, only}
use Rattle.given.specs.Pairs.{Shift, shifts_of}
use Rattle.places.specs.Gathered.{Transistor, no_transistor}
use Rattle.places.specs.Finding.{stands_at}
use Rattle.places.specs.Sets.{member}
use Rattle.places.specs.inner.Flat.{naming_in}
use Rattle.places.specs.laws.Gather.{naming_flat}
use Rattle.places.specs.laws.Members.{member_set}
use Rattle.model.specs.Board.{Board}
use Rattle.model.specs.Counts.{nodes_most, transistors_most}
use Rattle.model.specs.Desk.{Standing, Call, after, standing_on}
use Rattle.model.specs.Model.{cards_of, transistors_of, transistor_at, touched, may_move, moved, moved_of, issues_on}
use Rattle.model.specs.Model.{board_after}
use Rattle.model.proofs.Verdicts.{moves}
use Rattle.model.proofs.Boards.{transistor_then}
use Rattle.model.proofs.Invariant.{Invariant, invariant_after}
use Rattle.pairs.proofs.Pairs.{any_same}
use Rattle.days.specs.Perm.{Perm, then}
use Rattle.days.specs.Rising.{Rising}
use Rattle.days.specs.Told.{Among}
use Rattle.days.specs.Stands.{standing_of}
use Rattle.days.proofs.Perms.{count, more}
use Rattle.days.proofs.Amongst.{perm_back, of_occupied}
use Rattle.days.proofs.Ordered.{perm_in_order, order_rises}
use Rattle.days.proofs.Orderly.{orderly_after}
use Rattle.days.proofs.Rosters.{issues_told, issues_same}
use Rattle.days.proofs.Follows.{stands_after}

-- ---- each set is a scan

-- after any calls each node's set is what a scan of all places finds: who stands there and names the node
pub sets_are_scans : (calls : List Call) (n : ℕ) → n < nodes_most →
    get_or (board_after calls).naming n 0 ≡ naming_in n (board_after calls).issues (board_after calls).nodes
unfolding transistors_of
sets_are_scans calls n h =
    let b = board_after calls in
    (invariant_after calls).footing.named.at n h
    ∙ naming_flat b.issues b.cards b.seats b.nodes b.currents n

-- ---- a move leaves the others

-- a move, taken or refused, leaves the record of every transistor outside the sets of its nodes as it was
pub others_untouched : (calls : List Call) (pairs : List ℤ) (i : ℕ) → i < transistors_most →
    any_of (λ (s : Shift). member (get_or (board_after calls).naming s.node 0) i) (shifts_of pairs) ≡ false →
    transistor_at (moved_of (board_after calls) pairs).board i ≡ transistor_at (board_after calls) i
unfolding moved_of
others_untouched calls pairs i h out = go (may_move b pairs) refl
  where
    b : Board
    b = board_after calls

    g : Invariant b
    g = invariant_after calls

    go : (w : Verdict (List Shift)) → may_move b pairs ≡ w → transistor_at (moved b w).board i ≡ transistor_at b i
    go (no f) e = refl
    go (yes shifts) e =
        let m = moves e in
        let still : touched shifts (transistor_at b i) ≡ false =
        ap (λ (l : List Shift). touched l (transistor_at b i)) m.by
        ∙ sym
        (any_same (λ (s : Shift). member (get_or b.naming s.node 0) i)
        (λ (s : Shift). stands_at s.node (transistor_at b i)) pairs m.on
        (λ s q. ap (λ (x : ℕ). member x i) (g.footing.named.at s.node q)
        ∙ member_set (λ (j : ℕ). stands_at s.node (transistor_at b j)) transistors_most i h))
        ∙ out in
        transistor_then g.footing.sized shifts i h ∙ rw still

-- ---- what is listed

once_only : {A : Type 0} (key : A → ℕ) (p : A → Bool) (k : ℕ) (l : List A) →
    count (λ (m : ℕ). eqb m k) (map key (only p l)) ≤ count (λ (a : A). eqb (key a) k) l
unfolding count only
once_only key p k [] = omega arith
once_only {A} key p k (a ∷ rest) = go (p a) (eqb (key a) k) refl (once_only key p k rest)
  where
    go : (t u : Bool) → eqb (key a) k ≡ u →
        count (λ (m : ℕ). eqb m k) (map key (only p rest)) ≤ count (λ (x : A). eqb (key x) k) rest →
        count (λ (m : ℕ). eqb m k) (map key (keep_if t a (only p rest))) ≤ more u (count (λ (x : A). eqb (key x) k) rest)
    go true true e h = rw e (omega arith)
    go true false e h = rw e h
    go false true e h = omega arith
    go false false e h = h

-- a number that is told of some is the number of one of the list
of_only : (p : Standing → Bool) (k : ℕ) (l : List Standing) → Among k (map (λ (t : Standing). t.issue) (only p l)) →
    (t : Standing) × (Among t l) × (k ≡ t.issue)
unfolding only
of_only p k [] m = absurd m
of_only p k (a ∷ rest) m = go (p a) m (λ q. of_only p k rest q)
  where
    go : (t : Bool) → Among k (map (λ (x : Standing). x.issue) (keep_if t a (only p rest))) →
        (Among k (map (λ (x : Standing). x.issue) (only p rest)) → (t : Standing) × (Among t rest) × (k ≡ t.issue)) →
        (t : Standing) × (Among t (a ∷ rest)) × (k ≡ t.issue)
    go true (inl e) later = (a, inl refl, e)
    go true (inr q) later = let w = later q in (w.0, inr w.1, w.2)
    go false q later = let w = later q in (w.0, inr w.1, w.2)

positive : (k : ℕ) → (k ≡ 0 → ⊥) → 0 < k
positive zero f = absurd (f refl)
positive (suc k) f = omega arith

module _ (calls : List Call) (n : ℕ) (h : n < nodes_most) where
  -- the numbers of those that stand and name the node
  abbrev pub standing_issues : List ℕ
  standing_issues = map (λ (t : Standing). t.issue) (standing_on (after calls) n)

  once : (k : ℕ) → count (λ (m : ℕ). eqb m k) standing_issues ≤ 1
  once k =
      let o = (orderly_after calls).standing.single k in
      let f = once_only (λ (t : Standing). t.issue) (λ (t : Standing). any_of (λ (m : ℕ). eqb m n) t.nodes) k
      (after calls).standing in omega arith

  given : (k : ℕ) → Among k standing_issues → 0 < k
  given k m =
      let w = of_only (λ (t : Standing). any_of (λ (m : ℕ). eqb m n) t.nodes) k (after calls).standing m in
      let p =
      of_occupied (λ (t : Transistor). t.issue) (standing_of (cards_of (board_after calls))) no_transistor w.0
      (transistors_of (board_after calls)) (perm_back w.0 (stands_after calls).standing w.1) in
      let e = ap (λ (t : Standing). t.issue) p.is in positive k (λ z. p.stands (sym (w.2 ∙ e) ∙ z))

  -- the list rises strictly, and has the number of each transistor that stands and names the node, once, and no other
  pub who_lists : Rising 0 (issues_on (board_after calls) n) × Perm (issues_on (board_after calls) n) standing_issues
  who_lists = (
    subst (Rising 0)
        (sym (issues_same (board_after calls) (after calls) (invariant_after calls) (stands_after calls) n h))
        (order_rises standing_issues given once),
    then (perm_in_order _)
        (issues_told (board_after calls) (after calls) (invariant_after calls) (stands_after calls) n h),
  )
