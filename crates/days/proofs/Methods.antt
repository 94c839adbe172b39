-- From what the methods promise to what the desk says: on a board beside its own slices that stands for a desk,
-- whatever a method may answer is the desk's answer, and the board that it hands back, beside the slices as it left
-- them, stands for the desk's next.
use mathlib.Core.Path.{◌≡◌, refl, sym, ap, ◌∙◌, subst}
use mathlib.Core.Bool.{Bool, true, false, not, ◌||◌}
use mathlib.Core.List.{List, [], ◌∷◌}
use Prim.Native.Nat.{ℕ, ◌≤◌}
use native.Mathlib.Omega.{arith}
use lib.Dec.{eqb}
use lib.ListN.{length}
use lib.Seq.{take-append_seam}
use lib.IntN.{ℤ}
use Rattle.bytes_le.specs.Buffer.{over}
use Rattle.refusal.specs.declared.Refusal.TheVariants.{OutOfRange}
use Rattle.refusal.specs.Clash.{clash}
use Rattle.refusal.specs.Order.{Verdict, no, yes, refuse_if}
use borrow.Author.Tests.{eqb-true}
use Rattle.model.specs.Board.{Board, Answered}
use Rattle.model.specs.Desk.{Held, Standing, Desk, Call, step}
use Rattle.model.specs.Desk.{fresh_desk, after}
use Rattle.model.specs.Counts.{nodes_most}
use Rattle.model.specs.declared.Answer.{Answer}
use Rattle.model.specs.declared.Answer.TheVariants.{Done}
use Rattle.model.specs.Model.{issues_on, listed, may_list, listed_of, placed_of, moved_of, lifted_of, showed_of, answered}
use Rattle.model.specs.Model.{board_after}
use Rattle.model.proofs.Footing.{showed_stays}
use Rattle.lending.specs.Rest.{State, board_in, bare, state_of}
use Rattle.lending.specs.Lending.{Lent, lent_as, lent_by, read_verdict, change_verdict, fresh_by, fresh_lent, placed_lent}
use Rattle.lending.specs.Lending.{moved_lent, lifted_lent, showed_lent, lent_of}
use Rattle.lending.specs.Reached.{state_after, Own}
use Rattle.lending.proofs.Stays.{place_volts_stay, lift_volts_stay, show_volts_stay}
use Rattle.lending_laws.proofs.Slices.{board_again}
use Rattle.lending_laws.proofs.Old.{state_is_old, lent_is_old}
use Rattle.board.specs.declared.Answered as code
use Rattle.board.specs.Promise.{model_of, state_in, handed_as, taken_as}
use Rattle.model.proofs.Invariant.{invariant_after}
use Rattle.model.proofs.Whole.{place_plain, lift_plain, move_plain, showed_whole}
use Rattle.holding.proofs.Whole.{load_plain, withdraw_plain, looked_whole}
use Rattle.reading.proofs.Whole.{opened_whole}
use Rattle.summary.proofs.Sums.{summed_whole}
use Rattle.days.specs.Perm.{Perm}
use Rattle.days.specs.Stands.{Stands, Follow}
use Rattle.days.specs.Promised.{Promised, by_load, by_place, by_move_all, by_move_to, by_lift, by_withdraw}
use Rattle.days.specs.Promised.{by_look_up, by_read_currents, by_list_node, by_sum_up, told_in}
use Rattle.days.specs.Promised.{by_read_node, PromisedFresh, by_fresh, Day, begun, then}
use Rattle.days.proofs.Perms.{count, perm_count}
use Rattle.days.proofs.Orderly.{Numbered, Orderly, orderly_after}
use Rattle.days.proofs.Follows.{follow, stands_fresh, stands_after}

-- ---- every desk that a board stands for is as orderly

numbered_as : {A : Type 0} (key : A → ℕ) {xs ys zs : List A} {m n : ℕ} → Perm xs ys → Perm xs zs → m ≡ n →
    Numbered key ys m → Numbered key zs n
numbered_as {A} key {xs} {ys} {zs} p q e h = record {
  single = λ k. subst (λ (l : ℕ). l ≤ 1) (counts k) (h.single k);
  below = λ k j. sym (counts k) ∙ h.below k (omega arith);
}
  where
    counts : (k : ℕ) → count (λ (a : A). eqb (key a) k) ys ≡ count (λ (a : A). eqb (key a) k) zs
    counts k = sym (perm_count (λ (a : A). eqb (key a) k) p) ∙ perm_count (λ (a : A). eqb (key a) k) q

orderly_as : (b : Board) {d e : Desk} → Stands b d → Stands b e → Orderly d → Orderly e
orderly_as b p q o =
    let next = sym p.next ∙ q.next in
    record {
      begun = let h = o.begun in omega arith;
      cards = numbered_as (λ (h : Held). h.issue) p.cards q.cards next o.cards;
      standing = numbered_as (λ (t : Standing). t.issue) p.standing q.standing next o.standing;
    }

orderly : (calls : List Call) {d : Desk} → Stands (board_after calls) d → Orderly d
orderly calls s = orderly_as (board_after calls) (stands_after calls) s (orderly_after calls)

-- ---- each method's promise is that of its call

-- the list that was left in a buffer is told by its length
told_list : (b : Board) (n : ℤ) (old : List ℕ) →
    told_in (listed_of b n (length old)).answer (over (listed_of b n (length old)).list old)
    ≡ (listed_of b n (length old)).list
unfolding listed_of
told_list b n old = go (may_list b n (length old))
  where
    go : (v : Verdict ℕ) → told_in (listed b v).answer (over (listed b v).list old) ≡ (listed b v).list
    go (no f) = refl
    go (yes k) = take-append_seam (issues_on b k) _

-- what was handed back, beside what stands in the slices and the list that was told
abbrev lent_back : code.Answered → List ℤ → List ℤ → List ℕ → Lent
lent_back r volts totals list =
    record { state = state_in r.board volts totals; answer = r.answer; ticks = r.ticks; list = list }

lent_back_lem : (l : Lent) {r : code.Answered} {v t : List ℤ} {list : List ℕ} → r ≡ handed_as l → v ≡ l.state.volts →
    t ≡ l.state.totals → list ≡ l.list → lent_back r v t list ≡ l
lent_back_lem l e v t w = λ j. record {
  state = state_in (e j).board (v j) (t j);
  answer = (e j).answer;
  ticks = (e j).ticks;
  list = w j;
}

-- a call over the slices tells no list
unlisted : (s : State) (a : Answered) → a.list ≡ [] → (v : Verdict Answer) → [] ≡ (lent_by s a v).list
unlisted s a e (no f) = refl
unlisted s a e (yes told) = sym e

module _ (s : State) where
  place_unlisted : (card : ℤ) (nodes : List ℤ) → [] ≡ (placed_lent s card nodes).list
  unfolding placed_lent
  place_unlisted card nodes =
      let a = placed_of (board_in s) card nodes in
      unlisted s a (place_plain (board_in s) card nodes).1 (change_verdict s a)

  move_unlisted : (pairs : List ℤ) → [] ≡ (moved_lent s pairs).list
  unfolding moved_lent
  move_unlisted pairs =
      let a = moved_of (board_in s) pairs in unlisted s a (move_plain (board_in s) pairs).1 (change_verdict s a)

  lift_unlisted : (n : ℤ) → [] ≡ (lifted_lent s n).list
  unfolding lifted_lent
  lift_unlisted n =
      let a = lifted_of (board_in s) n in unlisted s a (lift_plain (board_in s) n).1 (change_verdict s a)

  show_unlisted : (n : ℤ) → [] ≡ (showed_lent s n).list
  unfolding showed_lent
  show_unlisted n =
      let a = showed_of (board_in s) n in
      unlisted s a (sym (ap (λ (x : Answered). x.list) (showed_whole (board_in s) n refl))) (read_verdict s a)

-- reading a node leaves the totals
show_totals : (s : State) (n : ℤ) → s.totals ≡ (showed_lent s n).state.totals
unfolding showed_lent
show_totals s n = go (read_verdict s (showed_of (board_in s) n))
  where
    go : (v : Verdict Answer) → s.totals ≡ (lent_by s (showed_of (board_in s) n) v).state.totals
    go (no f) = refl
    go (yes told) = sym (ap (λ (b : Board). b.totals) (showed_stays (board_in s) n))

kept_promise : {s : State} {c : Call} {r : code.Answered} {v t : List ℤ} {list : List ℕ} → Promised s c r v t list →
    lent_back r v t list ≡ lent_of s c
unfolding lent_of
kept_promise (by_load κs a e p) = lent_back_lem _ p.0 refl refl (sym (load_plain _ _ _).1)
kept_promise (by_place κs a e sized p) =
    lent_back_lem _ p.0 (sym (place_volts_stay _ _ _)) p.1.1 (place_unlisted _ _ _)
kept_promise (by_move_all κs a e p) = lent_back_lem _ p.0 p.1.1.0 p.1.1.1 (move_unlisted _ _)
kept_promise (by_move_to κs a e p) = lent_back_lem _ p.0 p.1.1.0 p.1.1.1 (move_unlisted _ _)
kept_promise (by_lift κs a e p) = lent_back_lem _ p.0 (sym (lift_volts_stay _ _)) p.1.1 (lift_unlisted _ _)
kept_promise (by_withdraw κs a e p) = lent_back_lem _ p.0 refl refl (sym (withdraw_plain _ _).1)
kept_promise (by_look_up κs a e p) =
    lent_back_lem _ p.0 refl refl (ap (λ (x : Answered). x.list) (looked_whole _ _ refl))
kept_promise (by_read_node κs a e p) =
    lent_back_lem _ p.0 (sym (show_volts_stay _ _)) (show_totals _ _) (show_unlisted _ _)
kept_promise (by_read_currents κs a e p) =
    lent_back_lem _ p.0 refl refl (ap (λ (x : Answered). x.list) (opened_whole _ _ (refl, refl)))
kept_promise (by_list_node κs a e p) =
    lent_back_lem _ p.0 refl refl
    ((λ j. told_in (p.0 j).answer (p.1.1 j)) ∙ told_list (bare (model_of a.0)) a.1.0 a.1.1.0.now)
kept_promise (by_sum_up κs a e p) =
    lent_back_lem _ p.0 refl refl (ap (λ (x : Answered). x.list) (summed_whole _ _ refl))

-- ---- beside its own slices a board is the board that was

-- what is lent is an answer of that board
abbrev old_of : Lent → Answered
old_of l = record { board = board_in l.state; answer = l.answer; ticks = l.ticks; list = l.list }

old_again : (a : Answered) → old_of (lent_as a) ≡ a
old_again a = λ j. record { board = board_again a.board j; answer = a.answer; ticks = a.ticks; list = a.list }

module _ {s : State} (o : Own s) where
  was : s ≡ state_of (board_after o.calls)
  was = sym o.leaves ∙ state_is_old o.volts o.totals o.volts_long o.totals_long o.calls

  -- its board, in the terms of the theorems over calls
  pub own_board : board_in s ≡ board_after o.calls
  own_board = ap board_in was ∙ board_again (board_after o.calls)

  -- one call more leaves a state that is the board's own
  own_more : (c : Call) → Own (lent_of s c).state
  unfolding state_after
  own_more c =
      record {
        volts = o.volts;
        totals = o.totals;
        volts_long = o.volts_long;
        totals_long = o.totals_long;
        calls = c ∷ o.calls;
        leaves = ap (λ (x : State). (lent_of x c).state) o.leaves;
      }

  own_answers : (c : Call) → lent_of s c ≡ lent_as (answered (board_after o.calls) c)
  own_answers c =
      ap (λ (x : State). lent_of x c) (sym o.leaves)
      ∙ lent_is_old o.volts o.totals o.volts_long o.totals_long o.calls c

-- whatever a method may answer follows the desk
pub methods_follow : {s : State} {d : Desk} {c : Call} {r : code.Answered} {v t : List ℤ} {list : List ℕ} → Own s →
    Stands (board_in s) d → Promised s c r v t list →
    Follow (taken_as r v t list) (step d c) × Own (state_in r.board v t)
methods_follow {s} {d} {c} {r} {v} {t} {list} o stands p =
    let e = kept_promise p in
    let stood = subst (λ (b : Board). Stands b d) (own_board o) stands in
    let f = follow (board_after o.calls) d (invariant_after o.calls) (orderly o.calls stood) stood c in (
      subst (λ (a : Answered). Follow a (step d c))
          (sym (ap old_of (e ∙ own_answers o c) ∙ old_again (answered (board_after o.calls) c))) f,
      subst Own (sym (ap (λ (l : Lent). l.state) e)) (own_more o c),
    )

-- ---- a fresh call that was taken

done_long : (volts totals : List ℤ) → (fresh_lent volts totals).answer ≡ Done →
    (length volts ≡ nodes_most) × (length totals ≡ nodes_most)
unfolding fresh_lent
done_long volts totals e = go (eqb (length volts) nodes_most) (eqb (length totals) nodes_most) refl refl e
  where
    go : (a b : Bool) → eqb (length volts) nodes_most ≡ a → eqb (length totals) nodes_most ≡ b →
        (fresh_by volts totals (refuse_if (not a || not b) OutOfRange (yes Done))).answer ≡ Done →
        (length volts ≡ nodes_most) × (length totals ≡ nodes_most)
    go true true p q e = (eqb-true _ _ p, eqb-true _ _ q)
    go true false p q e = clash cc
    go false b p q e = clash cc

pub fresh_follows : {volts totals v t : List ℤ} {r : code.Answered} → PromisedFresh volts totals r v t →
    r.answer ≡ Done → Stands (board_in (state_in r.board v t)) fresh_desk × Own (state_in r.board v t)
unfolding state_after board_after
fresh_follows (by_fresh κs a {r} e p) done =
    let long =
    done_long a.0.now a.1.0.now (sym (ap (λ (x : code.Answered). x.answer) p.0) ∙ done) in
    let own : Own (state_in r.board e.0.now e.1.0.now) =
    record {
      volts = a.0.now;
      totals = a.1.0.now;
      volts_long = long.0;
      totals_long = long.1;
      calls = [];
      leaves = sym (λ j. state_in (p.0 j).board (p.1.1.0 j) (p.1.1.1 j));
    } in
    (subst (λ (b : Board). Stands b fresh_desk) (sym (own_board own)) stands_fresh, own)

-- ---- a day of them

pub days_follow : {calls : List Call} {s : State} → Day calls s → Stands (board_in s) (after calls) × Own s
unfolding after
days_follow (begun p done) = fresh_follows p done
days_follow (then day p) =
    let h = days_follow day in let f = methods_follow h.1 h.0 p in (f.0.board, f.1)

-- and the next call of the day is answered as the desk answers it
pub day_answers : {calls : List Call} {s : State} {c : Call} {r : code.Answered} {v t : List ℤ} {list : List ℕ} →
    Day calls s → Promised s c r v t list → Follow (taken_as r v t list) (step (after calls) c)
day_answers day p = let h = days_follow day in (methods_follow h.1 h.0 p).0
