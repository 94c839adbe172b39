-- Issue numbers on a desk: every one below the next, and no two alike of one kind.
use mathlib.Core.Path.{◌≡◌, refl}
use mathlib.Core.Bool.{Bool, true, false, not}
use mathlib.Core.List.{List, [], ◌∷◌}
use Prim.Native.Nat.{ℕ, suc, ◌≤◌, zero-le}
use native.Mathlib.Nat.{le_trans}
use native.Mathlib.Omega.{arith}
use lib.Dec.{eqb, lit≤}
use borrow.Author.Tests.{eqb-true, ne_eqb}
use Rattle.refusal.specs.Order.{Verdict, no, yes}
use Rattle.card.specs.declared.WorkedCard.{WorkedCard}
use Rattle.given.specs.Pairs.{Shift}
use Rattle.model.specs.Desk.{Held, Standing, Desk, Call, load, place, move, lift, withdraw, look_up, node, currents}
use Rattle.model.specs.Desk.{who, sum_up}
use Rattle.given.specs.Lists.{keep_if}
use Rattle.model.specs.Desk.{without, loaded, placed, moved, lifted, withdrawn, looked, showed, opened, may_load}
use Rattle.model.specs.Desk.{may_place, may_move, may_lift, may_withdraw, may_look_up, may_read, may_open, step, fresh_desk}
use Rattle.model.specs.Desk.{after, listed, may_list, summed, may_sum}
use Rattle.days.proofs.Perms.{count, more}

-- things whose keys are their numbers: each number at most once, and below next
pub record Numbered {A : Type 0} (key : A → ℕ) (l : List A) (next : ℕ) : Type 0 where
  pub single : (n : ℕ) → count (λ (a : A). eqb (key a) n) l ≤ 1
  pub below : (n : ℕ) → next ≤ n → count (λ (a : A). eqb (key a) n) l ≡ 0

module _ {A : Type 0} (key : A → ℕ) where
  fewer : (k n : ℕ) (l : List A) →
      count (λ (a : A). eqb (key a) n) (without key k l) ≤ count (λ (a : A). eqb (key a) n) l
  unfolding count without
  fewer k n [] = zero-le
  fewer k n (a ∷ rest) = go (not (eqb (key a) k)) (eqb (key a) n) refl (fewer k n rest)
    where
      go : (t u : Bool) → eqb (key a) n ≡ u →
          count (λ (a : A). eqb (key a) n) (without key k rest) ≤ count (λ (a : A). eqb (key a) n) rest →
          count (λ (a : A). eqb (key a) n) (keep_if t a (without key k rest)) ≤ more u
          (count (λ (a : A). eqb (key a) n) rest)
      go true true e h = rw e (omega arith)
      go true false e h = rw e h
      go false true e h = omega arith
      go false false e h = h

  pub numbered_none : (next : ℕ) → Numbered key [] next
  unfolding count
  numbered_none next = record { single = λ n. lit≤ tt; below = λ n h. refl }

  pub numbered_later : {l : List A} {next : ℕ} → Numbered key l next → Numbered key l (suc next)
  numbered_later h = record { single = h.single; below = λ n k. h.below n (omega arith) }

  pub numbered_without : (k : ℕ) {l : List A} {next : ℕ} → Numbered key l next → Numbered key (without key k l) next
  numbered_without k {l} h =
      record {
        single = λ n. le_trans (fewer k n l) (h.single n);
        below = λ n p. let a = fewer k n l in let b = h.below n p in omega arith;
      }

  pub numbered_join : (x : A) {l : List A} {next : ℕ} → key x ≡ next → Numbered key l next →
      Numbered key (x ∷ l) (suc next)
  unfolding count
  numbered_join x {l} {next} e h = record {
    single = λ n. go n (eqb (key x) n) refl;
    below = λ n p. rw (ne_eqb (key x) n (λ q. omega arith)) (h.below n (omega arith));
  }
    where
      go : (n : ℕ) (t : Bool) → eqb (key x) n ≡ t → more t (count (λ (a : A). eqb (key a) n) l) ≤ 1
      go n true p = let a = h.below n (let q = eqb-true (key x) n p in omega arith) in omega arith
      go n false p = h.single n

pub record Orderly (d : Desk) : Type 0 where
  pub begun : 1 ≤ d.next
  pub cards : Numbered (λ (h : Held). h.issue) d.cards d.next
  pub standing : Numbered (λ (t : Standing). t.issue) d.standing d.next

pub orderly_fresh : Orderly fresh_desk
unfolding fresh_desk
orderly_fresh = record { begun = lit≤ tt; cards = numbered_none _ 1; standing = numbered_none _ 1 }

-- each call keeps it
pub orderly_step : (d : Desk) (c : Call) → Orderly d → Orderly (step d c).desk
unfolding step
orderly_step d (load name bytes) o = go (may_load d name bytes)
  where
    go : (v : Verdict WorkedCard) → Orderly (loaded d name v).desk
    go (no f) = o
    go (yes c) =
        record {
          begun = omega arith;
          cards = numbered_join _ _ refl o.cards;
          standing = numbered_later _ o.standing;
        }
orderly_step d (place card nodes sized) o = go (may_place d card nodes)
  where
    go : (v : Verdict Held) → Orderly (placed d nodes v).desk
    go (no f) = o
    go (yes h) =
        record {
          begun = omega arith;
          cards = numbered_later _ o.cards;
          standing = numbered_join _ _ refl o.standing;
        }
orderly_step d (move pairs) o = go (may_move d pairs)
  where
    go : (w : Verdict (List Shift)) → Orderly (moved d w).desk
    go (no f) = o
    go (yes shifts) = record { begun = o.begun; cards = o.cards; standing = o.standing }
orderly_step d (lift n) o = go (may_lift d n)
  where
    go : (v : Verdict Standing) → Orderly (lifted d v).desk
    go (no f) = o
    go (yes t) = record { begun = o.begun; cards = o.cards; standing = numbered_without _ t.issue o.standing }
orderly_step d (withdraw n) o = go (may_withdraw d n)
  where
    go : (v : Verdict Held) → Orderly (withdrawn d v).desk
    go (no f) = o
    go (yes h) = record { begun = o.begun; cards = numbered_without _ h.issue o.cards; standing = o.standing }
orderly_step d (look_up name) o = go (may_look_up d name)
  where
    go : (v : Verdict ℕ) → Orderly (looked d v).desk
    go (no f) = o
    go (yes n) = o
orderly_step d (node n) o = go (may_read n)
  where
    go : (v : Verdict ℕ) → Orderly (showed d v).desk
    go (no f) = o
    go (yes k) = o
orderly_step d (currents n) o = go (may_open d n)
  where
    go : (v : Verdict Standing) → Orderly (opened d v).desk
    go (no f) = o
    go (yes t) = o
orderly_step d (who n room) o = go (may_list d n room)
  where
    go : (v : Verdict ℕ) → Orderly (listed d v).desk
    go (no f) = o
    go (yes k) = o
orderly_step d (sum_up n) o = go (may_sum n)
  where
    go : (v : Verdict ℕ) → Orderly (summed d v).desk
    go (no f) = o
    go (yes k) = o

pub orderly_after : (calls : List Call) → Orderly (after calls)
unfolding after
orderly_after [] = orderly_fresh
orderly_after (c ∷ cs) = orderly_step (after cs) c (orderly_after cs)
