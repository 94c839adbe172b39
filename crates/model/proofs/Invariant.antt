-- What holds of every board that calls from a fresh board leave: its footing, voltages in range, nobody beyond a limit,
-- and that what is held and each total is worked from what stands.
use mathlib.Core.Path.{◌≡◌, refl, sym, ap, ◌∙◌, subst}
use mathlib.Core.Bool.{Bool, true, false, cond}
use mathlib.Core.List.{List, [], ◌∷◌, map}
use Prim.Native.Nat.{ℕ, zero, suc, ◌+◌, ◌<◌}
use lib.Dec.{eqb, lit≤}
use lib.ListN.{length, get_or, set, replicate, length-replicate}
use lib.Seq.{get_or-set_other}
use lib.IntN.{ℤ, pos, +ℤ_idl}
use borrow.Author.Tests.{eqb-false}
use Rattle.refusal.specs.Order.{Verdict, no, yes}
use Rattle.volts.specs.Volts.{given_back, kept_as}
use Rattle.volts.specs.laws.Keeping.{near_replicate}
use Rattle.card.specs.declared.WorkedCard.{WorkedCard}
use Rattle.settle.specs.OfTerms.Rows.{roles}
use Rattle.settle.specs.OfRows.Outcome.{is_over, told_over}
use Rattle.settle.specs.OfPolarity.Polarity.{outcome_of}
use Rattle.settle.specs.OfTotals.Flow.{roles_at, over_at, overloads, flow, sum_over}
use Rattle.settle.specs.OfGiven.Arguments.{issue_of}
use Rattle.settle.specs.OfGiven.Pairs.{Shift}
use Rattle.settle.specs.OfDeck.laws.Ups.{up_all, up_same}
use Rattle.settle.specs.OfPlaces.Gathered.{Card, Transistor, empty_card, empty_transistor, no_card, no_transistor, worked_at}
use Rattle.settle.specs.OfPlaces.Finding.{card_place, free_card, free_transistor}
use Rattle.settle.specs.Change.{changes}
use Rattle.settle.specs.First.{first_by}
use Rattle.settle.specs.laws.Firsts.{first_quiet}
use Rattle.settle.specs.OfFlows.inner.Workable.{Volts}
use Rattle.model.specs.Board.{Board}
use Rattle.model.specs.Counts.{nodes_most, cards_most, transistors_most}
use Rattle.model.specs.Desk.{Call, load, place, move, lift, withdraw, look_up, node, currents, who, sum_up}
use Rattle.model.specs.Model.{cards_of, transistors_of, transistor_at, worked_on, volts_of, shifted, touched}
use Rattle.model.specs.Model.{first_over, current_then, fresh_board, loaded, loaded_of, may_load, newcomer}
use Rattle.model.specs.Model.{placed, seen_on, placed_of, may_place, moved, moved_of, may_move, lifted, lifted_of}
use Rattle.model.specs.Model.{may_lift, withdrawn, withdrawn_of, may_withdraw, answered, board_after, Reached}
use Rattle.model.specs.inner.Sums.{place_gives, totals_of}
use Rattle.model.proofs.Lists.{each_set, each_replicate, stands}
use Rattle.model.proofs.NodeSums.{sum_same, sum_alike, totals_count}
use Rattle.model.proofs.Shifts.{shifted_long, shifted_near}
use Rattle.model.proofs.Gains.{roles_same, ticks_same, HeldIs, totals_settled, totals_put, totals_taken}
use Rattle.model.proofs.Boards.{fresh_cards, fresh_transistors, transistors_holding, cards_standing}
use Rattle.model.proofs.Boards.{then, transistors_count, transistor_then}
use Rattle.model.proofs.Footing.{Footing, Away, footing_fresh, load_away, load_cards, load_footing}
use Rattle.model.proofs.Footing.{arrival, withdraw_away, withdraw_cards, withdraw_footing, looked_long}
use Rattle.model.proofs.Footing.{place_below, place_transistors, place_footing, at_lifted, lift_transistors}
use Rattle.model.proofs.Footing.{lift_footing, stood, footing_then, begun, free_empty, looked_stays}
use Rattle.model.proofs.Footing.{showed_stays, opened_stays, listed_stays, summed_stays}
use Rattle.model.proofs.Verdicts.{places, moves}

-- whoever stands is within its limits and holds its currents, and each total is worked from what stands
pub record Holds (cards : List Card) (ts : List Transistor) (volts : List ℤ) (totals : List ℤ) : Type 0 where
  pub quiet : (i : ℕ) → ((get_or ts i no_transistor).issue ≡ 0 → ⊥) →
      overloads (worked_at cards (get_or ts i no_transistor).seat) (get_or ts i no_transistor).nodes volts ≡ false
  pub current : (i : ℕ) → HeldIs cards volts (get_or ts i no_transistor)
  pub balanced : totals ≡ totals_of cards ts volts

pub record Invariant (b : Board) : Type 0 where
  pub footing : Footing b
  pub kept : Volts b.volts
  pub holds : Holds (cards_of b) (transistors_of b) (volts_of b) b.totals

-- ---- other cards leave what stands as it is

module _ (cards : List Card) (p : ℕ) (c : Card) (volts : List ℤ) where
  pub worked_same : (i : ℕ) → (i ≡ p → ⊥) → worked_at (set cards p c) i ≡ worked_at cards i
  worked_same i h = ap (λ (x : Card). x.ready.card) (get_or-set_other cards p i c no_card h)

  gives_same : (n : ℕ) (t : Transistor) → ((t.issue ≡ 0 → ⊥) → t.seat ≡ p → ⊥) →
      place_gives cards volts n t ≡ place_gives (set cards p c) volts n t
  unfolding place_gives
  gives_same n t h = go (eqb t.issue 0) refl
    where
      go : (u : Bool) → eqb t.issue 0 ≡ u →
          cond u (pos 0) (flow (worked_at cards t.seat) t.nodes volts n) ≡ cond u (pos 0)
          (flow (worked_at (set cards p c) t.seat) t.nodes volts n)
      go true e = refl
      go false e = rw (worked_same t.seat (h (eqb-false t.issue 0 e)))

  pub totals_keep : (ts : List Transistor) →
      ((i : ℕ) → ((get_or ts i no_transistor).issue ≡ 0 → ⊥) → (get_or ts i no_transistor).seat ≡ p → ⊥) →
      totals_of cards ts volts ≡ totals_of (set cards p c) ts volts
  unfolding totals_of
  totals_keep ts h =
      up_same (λ (n : ℕ). sum_over (place_gives cards volts n) ts) (λ (n : ℕ). sum_over (place_gives (set cards p c) volts
      n) ts)
      nodes_most 0 (λ n k. same (0 + n))
    where
      same : (n : ℕ) → sum_over (place_gives cards volts n) ts ≡ sum_over (place_gives (set cards p c) volts n) ts
      same n =
          sum_same (place_gives cards volts n) (place_gives (set cards p c) volts n) no_transistor ts
          (λ i q. gives_same n (get_or ts i no_transistor) (h i))

  -- another card at a place on which nobody stands
  holds_card : {ts : List Transistor} {totals : List ℤ} → Holds cards ts volts totals → Away ts p →
      Holds (set cards p c) ts volts totals
  holds_card {ts} g away =
      record {
        quiet = λ i h. rw (worked_same (get_or ts i no_transistor).seat (away i h)) (g.quiet i h);
        current = λ i h. rw (worked_same (get_or ts i no_transistor).seat (away i h)) (g.current i h);
        balanced = g.balanced ∙ totals_keep ts away;
      }

-- another transistor at a place, with totals to fit
holds_transistor : {cards : List Card} {ts : List Transistor} {volts : List ℤ} {totals totals' : List ℤ} →
    Holds cards ts volts totals → (p : ℕ) (t : Transistor) →
    ((t.issue ≡ 0 → ⊥) → overloads (worked_at cards t.seat) t.nodes volts ≡ false) → HeldIs cards volts t →
    totals' ≡ totals_of cards (set ts p t) volts → Holds cards (set ts p t) volts totals'
holds_transistor {cards} {ts} {volts} g p t q c e =
    record {
      quiet =
          λ j. each_set
          (λ (u : Transistor). (u.issue ≡ 0 → ⊥) → overloads (worked_at cards u.seat) u.nodes volts ≡ false) ts p
          j t no_transistor q (g.quiet j);
      current = λ j. each_set (HeldIs cards volts) ts p j t no_transistor c (g.current j);
      balanced = e;
    }

-- ---- a fresh board

-- no place of a fresh board has anything on it
totals_none : (cards : List Card) (volts : List ℤ) (n k : ℕ) →
    sum_over (place_gives cards volts n) (replicate k empty_transistor) ≡ pos 0
unfolding sum_over place_gives
totals_none cards volts n zero = refl
totals_none cards volts n (suc k) = +ℤ_idl _ ∙ totals_none cards volts n k

totals_fresh : (cards : List Card) (volts : List ℤ) →
    replicate nodes_most (pos 0) ≡ totals_of cards (replicate transistors_most empty_transistor) volts
unfolding totals_of
totals_fresh cards volts =
    sym
    (up_all (λ (n : ℕ). sum_over (place_gives cards volts n) (replicate transistors_most empty_transistor)) (pos 0)
    nodes_most 0
    (λ n. totals_none cards volts n transistors_most))

holds_fresh : (volts : List ℤ) →
    Holds (replicate cards_most empty_card) (replicate transistors_most empty_transistor) volts
    (replicate nodes_most (pos 0))
holds_fresh volts =
    record {
      quiet = λ i h. absurd (h (nobody i));
      current = λ i h. absurd (h (nobody i));
      balanced = totals_fresh (replicate cards_most empty_card) volts;
    }
  where
    nobody : (i : ℕ) → (get_or (replicate transistors_most empty_transistor) i no_transistor).issue ≡ 0
    nobody i =
        each_replicate (λ (t : Transistor). t.issue ≡ 0) transistors_most i empty_transistor no_transistor refl refl

invariant_fresh : Invariant fresh_board
unfolding fresh_board
invariant_fresh =
    record {
      footing = footing_fresh;
      kept =
          record { long = length-replicate nodes_most (kept_as (pos 0)); near = near_replicate nodes_most (lit≤ tt) };
      holds =
          rw (fresh_cards, fresh_transistors) (holds_fresh (map given_back (replicate nodes_most (kept_as (pos 0)))));
    }

-- ---- each call keeps it

invariant_loaded : {b : Board} (name bytes : List ℕ) → Invariant b → Invariant (loaded_of b name bytes).board
unfolding loaded_of
invariant_loaded {b} name bytes g = go (may_load b name bytes) refl
  where
    go : (v : Verdict WorkedCard) → may_load b name bytes ≡ v → Invariant (loaded b name v).board
    go (no f) e = g
    go (yes c) e =
        let f = g.footing in
        let p = free_card (cards_of b) in
        let card = arrival f name bytes e in
        record {
          footing = load_footing f name bytes e;
          kept = g.kept;
          holds =
              rw (load_cards f name bytes e, transistors_holding b f.sized p card (b.next + 1))
              (holds_card (cards_of b) p card (volts_of b) g.holds (load_away f name bytes e));
        }

invariant_withdrawn : {b : Board} (n : ℤ) → Invariant b → Invariant (withdrawn_of b n).board
unfolding withdrawn_of
invariant_withdrawn {b} n g = go _ refl
  where
    go : (w : Verdict ℕ) → may_withdraw b n ≡ w → Invariant (withdrawn b w).board
    go (no f) e = g
    go (yes p) e =
        let f = g.footing in
        record {
          footing = withdraw_footing f n e;
          kept = g.kept;
          holds =
              rw (withdraw_cards f n e, transistors_holding b f.sized p empty_card b.next)
              (holds_card (cards_of b) p empty_card (volts_of b) g.holds (withdraw_away f n e));
        }

-- whoever stands holds its currents
pub held_is : {b : Board} → Invariant b → (i : ℕ) → HeldIs (cards_of b) (volts_of b) (transistor_at b i)
held_is g i h = g.holds.current i h

invariant_placed : {b : Board} (card : ℤ) (nodes : List ℤ) → length nodes ≡ roles → Invariant b →
    Invariant (placed_of b card nodes).board
unfolding placed_of overloads
invariant_placed {b} card nodes sized g = go _ refl
  where
    go : (v : Verdict ℕ) → may_place b card (seen_on b card nodes) ≡ v →
        Invariant (placed b (seen_on b card nodes) v).board
    go (no f) e = g
    go (yes i) e =
        let f = g.footing in
        let long = looked_long _ nodes sized in
        let seen = seen_on b card nodes in
        let p = places (card_place (issue_of card) (cards_of b)) b.next e in
        let free = free_transistor (transistors_of b) in
        let below = place_below f card seen long e in
        let t = newcomer b i seen in
        record {
          footing = place_footing f card seen long e;
          kept = g.kept;
          holds =
              rw (
                cards_standing b f.sized free t _ _ (b.next + 1),
                place_transistors f card seen long e,
              )
              (holds_transistor g.holds free t (λ h. p.quiet) (λ h. refl)
              (totals_put (cards_of b) (transistors_of b) (volts_of b) g.holds.balanced free
              (rw f.footed.transistors_long below) t (free_empty f below) (begun f)));
        }

invariant_lifted : {b : Board} (n : ℤ) → Invariant b → Invariant (lifted_of b n).board
unfolding lifted_of
invariant_lifted {b} n g = go _ refl
  where
    go : (w : Verdict ℕ) → may_lift b n ≡ w → Invariant (lifted b w).board
    go (no f) e = g
    go (yes i) e =
        let f = g.footing in
        let a = at_lifted f n e in
        record {
          footing = lift_footing f n e;
          kept = g.kept;
          holds =
              rw (cards_standing b f.sized i empty_transistor _ _ b.next, lift_transistors f n e)
              (holds_transistor g.holds i empty_transistor (λ h. absurd (h refl)) (λ h. absurd (h refl))
              (totals_taken (cards_of b) (transistors_of b) (volts_of b) g.holds.balanced i a.below empty_transistor
              (λ z. a.given (sym a.issue_is ∙ z)) refl (held_is g i)));
        }

-- ---- moving

module _ {b : Board} (g : Invariant b) (shifts : List Shift) where
  -- who names no node that moves is within its limits as before
  pub aside : (j : ℕ) → ((transistor_at b j).issue ≡ 0 → ⊥) → touched shifts (transistor_at b j) ≡ false →
      overloads (worked_on b j) (transistor_at b j).nodes (map given_back (shifted b.volts shifts)) ≡ false
  unfolding overloads over_at
  aside j h e = there
    where
      there :
          is_over
          (told_over (outcome_of (worked_on b j)
          (roles_at (map given_back (shifted b.volts shifts)) (transistor_at b j).nodes))) ≡ false
      there = rw (roles_same shifts b.volts (transistor_at b j) h e) (g.holds.quiet j h)

  -- every transistor is within its limits at the new voltages: those worked by the test, the others as they were
  pub still : is_over (first_by (first_over b shifts)) ≡ false → (j : ℕ) → ((transistor_at b j).issue ≡ 0 → ⊥) →
      overloads (worked_on b j) (transistor_at b j).nodes (map given_back (shifted b.volts shifts)) ≡ false
  unfolding overloads
  still quiet j h = go (touched shifts (transistor_at b j)) refl
    where
      go : (w : Bool) → touched shifts (transistor_at b j) ≡ w →
          overloads (worked_on b j) (transistor_at b j).nodes (map given_back (shifted b.volts shifts)) ≡ false
      go true e =
          first_quiet (λ (i : ℕ). touched shifts (transistor_at b i)) (λ (i : ℕ). (transistor_at b i).issue)
          (λ (i : ℕ). over_at (worked_on b i) (transistor_at b i).nodes (map given_back (shifted b.volts shifts)))
          transistors_most quiet j
          (subst (λ (k : ℕ). j < k) g.footing.footed.transistors_long
          (stands (λ (u : Transistor). u.issue) no_transistor (transistors_of b) j refl h)) e
      go false e = aside j h e

  -- what it holds then is what it has then, whether it was worked or not
  held_then : (j : ℕ) → ((transistor_at b j).issue ≡ 0 → ⊥) →
      cond (touched shifts (transistor_at b j)) (current_then b shifts j) (transistor_at b j).currents ≡ current_then b
      shifts j
  held_then j h = go (touched shifts (transistor_at b j)) refl
    where
      go : (w : Bool) → touched shifts (transistor_at b j) ≡ w →
          cond w (current_then b shifts j) (transistor_at b j).currents ≡ current_then b shifts j
      go true e = refl
      go false e =
          g.holds.current j h
          ∙ sym (ticks_same shifts b.volts (worked_on b j) (transistor_at b j) h e)

  pub totals_then : (volts : List ℤ) →
      totals_of (cards_of b) (transistors_of (then g.footing.sized shifts)) volts
      ≡ totals_of (cards_of b) (transistors_of b) volts
  unfolding totals_of place_gives
  totals_then volts =
      up_same (λ (n : ℕ). sum_over (place_gives (cards_of b) volts n) (transistors_of (then g.footing.sized shifts)))
      (λ (n : ℕ). sum_over (place_gives (cards_of b) volts n) (transistors_of b)) nodes_most 0
      (λ n k. sum_alike (place_gives (cards_of b) volts (0 + n)) no_transistor
      (transistors_of (then g.footing.sized shifts)) (transistors_of b)
      (transistors_count g.footing.sized shifts ∙ sym g.footing.footed.transistors_long)
      (λ i q. ap (place_gives (cards_of b) volts (0 + n))
      (transistor_then g.footing.sized shifts i (rw (transistors_count g.footing.sized shifts) at q))))

  pub invariant_settled : is_over (first_by (first_over b shifts)) ≡ false → Volts (shifted b.volts shifts) →
      Invariant (then g.footing.sized shifts)
  unfolding changes cards_of
  invariant_settled quiet volts =
      let f = g.footing in
      record {
        footing = footing_then f shifts;
        kept = volts;
        holds =
            record {
              quiet =
                  λ j h. let p = stood f shifts j h in
                  rw (transistor_then f.sized shifts j p.0) (still quiet j p.1);
              current =
                  λ j h. let p = stood f shifts j h in
                  rw (transistor_then f.sized shifts j p.0) (held_then j p.1);
              balanced =
                  totals_settled (cards_of b) (transistors_of b) b.volts shifts g.holds.balanced (held_is g)
                  transistors_most f.footed.transistors_long
                  ∙ sym (totals_then (map given_back (shifted b.volts shifts)));
            };
      }

invariant_moved : {b : Board} (pairs : List ℤ) → Invariant b → Invariant (moved_of b pairs).board
unfolding moved_of
invariant_moved {b} pairs g = go _ refl
  where
    go : (w : Verdict (List Shift)) → may_move b pairs ≡ w → Invariant (moved b w).board
    go (no f) e = g
    go (yes shifts) e =
        let m = moves e in
        invariant_settled g shifts (rw m.by m.quiet)
        (record {
          long = shifted_long shifts b.volts ∙ g.kept.long;
          near = rw m.by (shifted_near pairs m.on g.kept.near);
        })

-- ---- any calls

invariant_answered : {b : Board} (c : Call) → Invariant b → Invariant (answered b c).board
unfolding answered
invariant_answered (load name bytes) g = invariant_loaded name bytes g
invariant_answered (place card nodes sized) g = invariant_placed card nodes sized g
invariant_answered (move pairs) g = invariant_moved pairs g
invariant_answered (lift n) g = invariant_lifted n g
invariant_answered (withdraw n) g = invariant_withdrawn n g
invariant_answered {b} (look_up name) g = subst Invariant (sym (looked_stays b name)) g
invariant_answered {b} (node n) g = subst Invariant (sym (showed_stays b n)) g
invariant_answered {b} (currents n) g = subst Invariant (sym (opened_stays b n)) g
invariant_answered {b} (who n room) g = subst Invariant (sym (listed_stays b n room)) g
invariant_answered {b} (sum_up n) g = subst Invariant (sym (summed_stays b n)) g

pub invariant_after : (calls : List Call) → Invariant (board_after calls)
unfolding board_after
invariant_after [] = invariant_fresh
invariant_after (c ∷ cs) = invariant_answered c (invariant_after cs)

pub invariant : {b : Board} → Reached b → Invariant b
invariant r = subst Invariant r.leaves (invariant_after r.calls)

pub totals_long : {b : Board} → Invariant b → length b.totals ≡ nodes_most
totals_long {b} g = ap length g.holds.balanced ∙ totals_count (cards_of b) (transistors_of b) (volts_of b)
