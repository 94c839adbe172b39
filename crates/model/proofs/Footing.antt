-- The footing of every board that calls leave, whatever voltages and totals each of them was handed: who stands where
-- and on which card, that no held number is above its limit and the next number one above the last at most, and that
-- each node's set is a scan of what stands.
use mathlib.Core.Path.{◌≡◌, refl, sym, ap, ◌∙◌, subst}
use mathlib.Core.Bool.{Bool, true, false, cond}
use mathlib.Core.List.{List}
use Prim.Native.Nat.{ℕ, zero, suc, ◌+◌, ◌≤◌, ◌<◌}
use native.Mathlib.Omega.{arith}
use lib.Dec.{leb, lit≤}
use lib.ListN.{length, get_or, set, replicate, length-set, length-replicate, length-map}
use lib.Seq.{get_or-set_other}
use lib.IntN.{ℤ, pos, nat_abs}
use borrow.Author.Tests.{eqb-true, eqb-false, ne_eqb, leb-false, ltb-false}
use Rattle.refusal.specs.Order.{Verdict, no, yes}
use Rattle.name.specs.Name.{name_length, padded}
use Rattle.name.proofs.Laws.{padded_long}
use Rattle.scaling.specs.Scaled.{tick_limit}
use Rattle.card.specs.declared.WorkedCard.{WorkedCard}
use Rattle.settle.specs.OfTerms.inner.Ready.{IsReady, ready_of}
use Rattle.settle.proofs.OfTerms.Laws.{made_ready}
use Rattle.settle.specs.OfTerms.Rows.{roles, branches}
use Rattle.settle.specs.OfTerms.Looked.{looked_at}
use Rattle.settle.specs.OfTotals.inner.Sums.{Within}
use Rattle.settle.specs.OfGiven.Lists.{any_of}
use Rattle.settle.specs.OfGiven.Arguments.{issues_most, issue_of}
use Rattle.settle.specs.OfGiven.Pairs.{Shift}
use Rattle.settle.specs.OfDeck.laws.Stretches.{get_or_none}
use Rattle.settle.specs.OfPlaces.Gathered.{Card, Transistor, empty_card, empty_transistor, no_card, no_transistor}
use Rattle.settle.specs.OfPlaces.Finding.{is_card, is_transistor, card_place, free_card, free_transistor, stands_on, stands_at}
use Rattle.settle.specs.OfPlaces.laws.Members.{set_same, set_empty}
use Rattle.settle.proofs.OfPlaces.Scans.{none_of}
use Rattle.settle.specs.OfFlows.inner.Workable.{Volts}
use Rattle.settle.proofs.OfFlows.Currents.{ticks_within, ticks_count}
use Rattle.model.specs.Board.{Board}
use Rattle.model.specs.Counts.{nodes_most, cards_most, transistors_most}
use Rattle.model.specs.Verdict.{node_verdict}
use Rattle.model.specs.Model.{cards_of, transistors_of, transistor_at, touched, current_then, fresh_board}
use Rattle.model.specs.Model.{loaded, loaded_of, may_load, newcomer, placed, seen_on, placed_of, may_place}
use Rattle.model.specs.Model.{moved, moved_of, may_move, lifted, lifted_of, may_lift, withdrawn, withdrawn_of}
use Rattle.model.specs.Model.{may_withdraw, looked, looked_of, may_look_up, showed, showed_of, opened, opened_of}
use Rattle.model.specs.Model.{may_open, listed, listed_of, may_list, summed, summed_of}
use Rattle.model.specs.inner.Sized.{Sized}
use Rattle.model.proofs.Lists.{each_set, each_replicate, first_passes, stands}
use Rattle.model.proofs.Named.{scan_of, Scans, at_nodes_long, scans_joined, scans_parted}
use Rattle.model.proofs.Found.{AtCard, at_card, AtTransistor, at_transistor, on_nodes}
use Rattle.model.proofs.Boards.{sized_fresh, fresh_cards, fresh_transistors, sized_holding, cards_holding}
use Rattle.model.proofs.Boards.{transistors_holding, sized_standing, cards_standing, transistors_standing}
use Rattle.model.proofs.Boards.{then, transistors_count, transistor_then, sized_then}
use Rattle.model.proofs.Verdicts.{loads, places, lifts, withdraws}

-- a transistor that stands: on a card that is there and on nodes of the board; what it holds is small
pub record Standing (cards : List Card) (t : Transistor) : Type 0 where
  pub place_there : t.seat < cards_most
  pub card_there : (get_or cards t.seat no_card).issue ≡ t.card
  pub card_given : t.card ≡ 0 → ⊥
  pub wired : (k : ℕ) → get_or t.nodes k 0 < nodes_most
  pub long : length t.nodes ≡ roles
  pub small : Within tick_limit t.currents

-- what holds of the places and the next number
pub record Footed (cards : List Card) (ts : List Transistor) (next : ℕ) : Type 0 where
  pub cards_long : length cards ≡ cards_most
  pub transistors_long : length ts ≡ transistors_most
  pub begun : 1 ≤ next
  pub numbered : next ≤ suc issues_most
  pub transistor : (i : ℕ) → ((get_or ts i no_transistor).issue ≡ 0 → ⊥) → Standing cards (get_or ts i no_transistor)
  pub ready : (i : ℕ) → ((get_or cards i no_card).issue ≡ 0 → ⊥) → IsReady (get_or cards i no_card).ready

-- of voltages and totals it says nothing
pub record Footing (b : Board) : Type 0 where
  pub sized : Sized b
  pub footed : Footed (cards_of b) (transistors_of b) b.next
  pub named : Scans b.naming (transistors_of b)

-- a board on which transistors can be worked: 32 voltages in range, and 32 totals of any size
pub record Ground (b : Board) : Type 0 where
  pub footing : Footing b
  pub kept : Volts b.volts
  pub totals_long : length b.totals ≡ nodes_most

-- ---- a fresh board

footed_fresh : Footed (replicate cards_most empty_card) (replicate transistors_most empty_transistor) 1
footed_fresh =
    record {
      cards_long = length-replicate cards_most empty_card;
      transistors_long = length-replicate transistors_most empty_transistor;
      begun = lit≤ tt;
      numbered = lit≤ tt;
      transistor =
          λ i h. absurd
          (h (each_replicate (λ (t : Transistor). t.issue ≡ 0) transistors_most i empty_transistor no_transistor refl
          refl));
      ready = λ i h. absurd (h (each_replicate (λ (c : Card). c.issue ≡ 0) cards_most i empty_card no_card refl refl));
    }

scans_fresh : Scans (replicate nodes_most 0) (replicate transistors_most empty_transistor)
scans_fresh =
    record {
      at =
          λ n h. get_or_none 0 nodes_most n
          ∙ set_empty _ transistors_most
          (λ i l. each_replicate (λ (t : Transistor). stands_at n t ≡ false) transistors_most i empty_transistor
          no_transistor refl refl);
    }

pub footing_fresh : Footing fresh_board
unfolding fresh_board
footing_fresh =
    record {
      sized = sized_fresh;
      footed = rw (fresh_cards, fresh_transistors) footed_fresh;
      named = rw fresh_transistors scans_fresh;
    }

-- ---- the places of cards and of transistors

-- nobody stands on the place p of the cards
abbrev pub Away : List Transistor → ℕ → Type 0
Away ts p = (i : ℕ) → ((get_or ts i no_transistor).issue ≡ 0 → ⊥) → (get_or ts i no_transistor).seat ≡ p → ⊥

standing_keeps : (cards : List Card) (p : ℕ) (c : Card) (t : Transistor) → (t.seat ≡ p → ⊥) → Standing cards t →
    Standing (set cards p c) t
standing_keeps cards p c t h s =
    record {
      place_there = s.place_there;
      card_there = rw (get_or-set_other cards p t.seat c no_card h) s.card_there;
      card_given = s.card_given;
      wired = s.wired;
      long = s.long;
      small = s.small;
    }

-- nobody stands on a card on which no transistor stands
not_on : (n : ℕ) (t : Transistor) → (t.issue ≡ 0 → ⊥) → stands_on n t ≡ false → t.card ≡ n → ⊥
not_on n t h e = eqb-false t.card n (rw (ne_eqb t.issue 0 h) at e)

module _ {cards : List Card} {ts : List Transistor} {next : ℕ} (g : Footed cards ts next) where
  -- the free place that a new card takes
  pub free_below : leb cards_most (free_card cards) ≡ false → free_card cards < cards_most
  free_below e = leb-false cards_most (free_card cards) e

  pub free_away : leb cards_most (free_card cards) ≡ false → Away ts (free_card cards)
  free_away e i h q =
      let below : free_card cards < length cards = rw g.cards_long (free_below e) in
      let empty : (get_or cards (free_card cards) no_card).issue ≡ 0 = eqb-true _ 0 (first_passes (is_card 0) no_card cards
      below) in
      (g.transistor i h).card_given
      (sym (g.transistor i h).card_there ∙ ap (λ (j : ℕ). (get_or cards j no_card).issue) q ∙ empty)

  pub unused_away : (n p : ℕ) → AtCard n cards p → any_of (stands_on n) ts ≡ false → Away ts p
  unused_away n p a unused i h q =
      not_on n (get_or ts i no_transistor) h
      (none_of _ ts no_transistor unused i (stands (λ (u : Transistor). u.issue) no_transistor ts i refl h))
      (sym (g.transistor i h).card_there ∙ ap (λ (j : ℕ). (get_or cards j no_card).issue) q ∙ a.issue_is)

  -- another card at a place on which nobody stands
  footed_card : (p next' : ℕ) (c : Card) → 1 ≤ next' → next' ≤ suc issues_most → Away ts p →
      ((c.issue ≡ 0 → ⊥) → IsReady c.ready) → Footed (set cards p c) ts next'
  footed_card p next' c first last away made =
      record {
        cards_long = length-set cards p c ∙ g.cards_long;
        transistors_long = g.transistors_long;
        begun = first;
        numbered = last;
        transistor = λ i h. standing_keeps cards p c (get_or ts i no_transistor) (away i h) (g.transistor i h);
        ready =
            λ i. each_set (λ (x : Card). (x.issue ≡ 0 → ⊥) → IsReady x.ready) cards p i c no_card made (g.ready i);
      }

  -- another transistor at a place
  footed_transistor : (p next' : ℕ) (t : Transistor) → 1 ≤ next' → next' ≤ suc issues_most →
      ((t.issue ≡ 0 → ⊥) → Standing cards t) → Footed cards (set ts p t) next'
  footed_transistor p next' t first last s =
      record {
        cards_long = g.cards_long;
        transistors_long = length-set ts p t ∙ g.transistors_long;
        begun = first;
        numbered = last;
        transistor =
            λ j. each_set (λ (u : Transistor). (u.issue ≡ 0 → ⊥) → Standing cards u) ts p j t no_transistor s
            (g.transistor j);
        ready = g.ready;
      }

module _ {b : Board} (g : Footing b) where
  -- the next number is never 0
  pub begun : b.next ≡ 0 → ⊥
  begun e = let h = g.footed.begun in omega arith

  -- the free place that a new transistor takes is empty
  pub free_empty : free_transistor (transistors_of b) < transistors_most →
      (transistor_at b (free_transistor (transistors_of b))).issue ≡ 0
  free_empty h =
      let below : free_transistor (transistors_of b) < length (transistors_of b) = rw g.footed.transistors_long h in
      eqb-true _ 0 (first_passes (is_transistor 0) no_transistor (transistors_of b) below)

-- ---- loading

module _ {b : Board} (g : Footing b) (name bytes : List ℕ) {c : WorkedCard}
    (e : may_load b name bytes ≡ yes c) where
  abbrev pub arrival : Card
  arrival = record { issue = b.next; name = padded name; ready = ready_of c }

  pub load_away : Away (transistors_of b) (free_card (cards_of b))
  load_away = free_away g.footed (loads name e).room

  pub load_cards :
      cards_of (loaded b name (yes c)).board ≡ set (cards_of b) (free_card (cards_of b)) arrival
  load_cards =
      cards_holding b g.sized (free_card (cards_of b)) arrival (b.next + 1)
      (free_below g.footed (loads name e).room) (padded_long name)

  pub load_footing : Footing (loaded b name (yes c)).board
  load_footing =
      let same = transistors_holding b g.sized (free_card (cards_of b)) arrival (b.next + 1) in
      let left = ltb-false issues_most b.next (loads name e).number in
      record {
        sized = sized_holding b g.sized (free_card (cards_of b)) arrival (b.next + 1);
        footed =
            rw (load_cards, same)
            (footed_card g.footed (free_card (cards_of b)) (b.next + 1) arrival (omega arith) (omega arith) load_away
            (λ h. made_ready bytes c (loads name e).judged));
        named = rw same g.named;
      }

pub footing_loaded : {b : Board} (name bytes : List ℕ) → Footing b → Footing (loaded_of b name bytes).board
unfolding loaded_of
footing_loaded {b} name bytes g = go (may_load b name bytes) refl
  where
    go : (v : Verdict WorkedCard) → may_load b name bytes ≡ v → Footing (loaded b name v).board
    go (no f) e = g
    go (yes c) e = load_footing g name bytes e

-- ---- withdrawing

module _ {b : Board} (g : Footing b) (n : ℤ) {p : ℕ} (e : may_withdraw b n ≡ yes p) where
  at_withdrawn : AtCard (issue_of n) (cards_of b) p
  at_withdrawn =
      at_card (issue_of n) (cards_of b) p g.footed.cards_long
      (withdraws (card_place (issue_of n) (cards_of b)) e).there

  pub withdraw_away : Away (transistors_of b) p
  withdraw_away =
      unused_away g.footed (issue_of n) p at_withdrawn (withdraws (card_place (issue_of n) (cards_of b)) e).unused

  pub withdraw_cards : cards_of (withdrawn b (yes p)).board ≡ set (cards_of b) p empty_card
  withdraw_cards =
      cards_holding b g.sized p empty_card b.next
      (subst (λ (k : ℕ). p < k) g.footed.cards_long at_withdrawn.below) (length-replicate name_length zero)

  pub withdraw_footing : Footing (withdrawn b (yes p)).board
  withdraw_footing =
      let same = transistors_holding b g.sized p empty_card b.next in
      record {
        sized = sized_holding b g.sized p empty_card b.next;
        footed =
            rw (withdraw_cards, same)
            (footed_card g.footed p b.next empty_card g.footed.begun g.footed.numbered withdraw_away
            (λ h. absurd (h refl)));
        named = rw same g.named;
      }

pub footing_withdrawn : {b : Board} (n : ℤ) → Footing b → Footing (withdrawn_of b n).board
unfolding withdrawn_of
footing_withdrawn {b} n g = go _ refl
  where
    go : (w : Verdict ℕ) → may_withdraw b n ≡ w → Footing (withdrawn b w).board
    go (no f) e = g
    go (yes p) e = withdraw_footing g n e

-- ---- placing

-- what a card looks at is a node for each role
pub looked_long : (wide : Bool) (nodes : List ℤ) → length nodes ≡ roles → length (looked_at wide nodes) ≡ roles
unfolding looked_at
looked_long true nodes h = h
looked_long false nodes h = refl

module _ {b : Board} (g : Footing b) (card : ℤ) (nodes : List ℤ) (sized : length nodes ≡ roles) {i : ℕ}
    (e : may_place b card nodes ≡ yes i) where
  at_seat : AtCard (issue_of card) (cards_of b) i
  at_seat =
      at_card (issue_of card) (cards_of b) i g.footed.cards_long
      (places (card_place (issue_of card) (cards_of b)) b.next e).there

  pub place_below : free_transistor (transistors_of b) < transistors_most
  place_below =
      leb-false transistors_most (free_transistor (transistors_of b))
      (places (card_place (issue_of card) (cards_of b)) b.next e).room

  pub place_transistors :
      transistors_of (placed b nodes (yes i)).board
      ≡ set (transistors_of b) (free_transistor (transistors_of b)) (newcomer b i nodes)
  place_transistors =
      transistors_standing b g.sized (free_transistor (transistors_of b)) (newcomer b i nodes) _ _ (b.next + 1)
      place_below (length-map nodes nat_abs ∙ sized) (ticks_count _ _ _)

  newcomer_stands : Standing (cards_of b) (newcomer b i nodes)
  newcomer_stands =
      record {
        place_there = subst (λ (k : ℕ). i < k) g.footed.cards_long at_seat.below;
        card_there = refl;
        card_given = λ z. at_seat.given (sym at_seat.issue_is ∙ z);
        wired = on_nodes nodes (places (card_place (issue_of card) (cards_of b)) b.next e).on;
        long = length-map nodes nat_abs ∙ sized;
        small = ticks_within _ _ _;
      }

  pub place_footing : Footing (placed b nodes (yes i)).board
  place_footing =
      let free = free_transistor (transistors_of b) in
      let t = newcomer b i nodes in
      let left = ltb-false issues_most b.next (places (card_place (issue_of card) (cards_of b)) b.next e).number in
      record {
        sized = sized_standing b g.sized free t _ _ (b.next + 1) (at_nodes_long _ _ _);
        footed =
            rw (cards_standing b g.sized free t _ _ (b.next + 1), place_transistors)
            (footed_transistor g.footed free (b.next + 1) t (omega arith) (omega arith) (λ h. newcomer_stands));
        named =
            rw place_transistors
            (scans_joined g.named free t (rw g.footed.transistors_long place_below) (free_empty g place_below)
            (begun g));
      }

pub footing_placed : {b : Board} (card : ℤ) (nodes : List ℤ) → length nodes ≡ roles → Footing b →
    Footing (placed_of b card nodes).board
unfolding placed_of
footing_placed {b} card nodes sized g = go _ refl
  where
    go : (v : Verdict ℕ) → may_place b card (seen_on b card nodes) ≡ v → Footing (placed b (seen_on b card nodes) v).board
    go (no f) e = g
    go (yes i) e = place_footing g card (seen_on b card nodes) (looked_long _ nodes sized) e

-- ---- lifting

module _ {b : Board} (g : Footing b) (n : ℤ) {i : ℕ} (e : may_lift b n ≡ yes i) where
  pub at_lifted : AtTransistor (issue_of n) (transistors_of b) i
  at_lifted = at_transistor (issue_of n) (transistors_of b) i g.footed.transistors_long (lifts _ e)

  pub lift_transistors : transistors_of (lifted b (yes i)).board ≡ set (transistors_of b) i empty_transistor
  lift_transistors =
      transistors_standing b g.sized i empty_transistor _ _ b.next
      (subst (λ (k : ℕ). i < k) g.footed.transistors_long at_lifted.below) (length-replicate roles zero)
      (length-replicate branches (pos 0))

  pub lift_footing : Footing (lifted b (yes i)).board
  lift_footing =
      record {
        sized = sized_standing b g.sized i empty_transistor _ _ b.next (at_nodes_long _ _ _);
        footed =
            rw (cards_standing b g.sized i empty_transistor _ _ b.next, lift_transistors)
            (footed_transistor g.footed i b.next empty_transistor g.footed.begun g.footed.numbered
            (λ h. absurd (h refl)));
        named = rw lift_transistors (scans_parted g.named i empty_transistor at_lifted.below refl);
      }

pub footing_lifted : {b : Board} (n : ℤ) → Footing b → Footing (lifted_of b n).board
unfolding lifted_of
footing_lifted {b} n g = go _ refl
  where
    go : (w : Verdict ℕ) → may_lift b n ≡ w → Footing (lifted b w).board
    go (no f) e = g
    go (yes i) e = lift_footing g n e

-- ---- moving

module _ {b : Board} (g : Footing b) (shifts : List Shift) where
  -- what is said of a place without what it holds is said of it then
  pub stood : (j : ℕ) → ((transistor_at (then g.sized shifts) j).issue ≡ 0 → ⊥) →
      (j < transistors_most) × ((transistor_at b j).issue ≡ 0 → ⊥)
  stood j h =
      let below =
      subst (λ (k : ℕ). j < k) (transistors_count g.sized shifts)
      (stands (λ (u : Transistor). u.issue) no_transistor (transistors_of (then g.sized shifts)) j refl h) in
      (below, λ z. h (ap (λ (t : Transistor). t.issue) (transistor_then g.sized shifts j below) ∙ z))

  -- who names a node is not moved
  scan_then : (n : ℕ) → scan_of (transistors_of b) n ≡ scan_of (transistors_of (then g.sized shifts)) n
  scan_then n =
      set_same _ _ transistors_most (λ j h. sym (ap (stands_at n) (transistor_then g.sized shifts j h)))

  -- what it holds then is small, whether it was worked or not
  small_then : (j : ℕ) → ((transistor_at b j).issue ≡ 0 → ⊥) →
      Within tick_limit (cond (touched shifts (transistor_at b j)) (current_then b shifts j) (transistor_at b j).currents)
  small_then j h = go (touched shifts (transistor_at b j))
    where
      go : (w : Bool) → Within tick_limit (cond w (current_then b shifts j) (transistor_at b j).currents)
      go true = ticks_within _ _ _
      go false = (g.footed.transistor j h).small

  pub footing_then : Footing (then g.sized shifts)
  unfolding cards_of
  footing_then =
      record {
        sized = sized_then g.sized shifts;
        footed =
            record {
              cards_long = g.footed.cards_long;
              transistors_long = transistors_count g.sized shifts;
              begun = g.footed.begun;
              numbered = g.footed.numbered;
              transistor =
                  λ j h. let p = stood j h in
                  let s = g.footed.transistor j p.1 in
                  rw (transistor_then g.sized shifts j p.0)
                  (record {
                    place_there = s.place_there;
                    card_there = s.card_there;
                    card_given = s.card_given;
                    wired = s.wired;
                    long = s.long;
                    small = small_then j p.1;
                  });
              ready = g.footed.ready;
            };
        named = record { at = λ n h. g.named.at n h ∙ scan_then n };
      }

pub footing_moved : {b : Board} (pairs : List ℤ) → Footing b → Footing (moved_of b pairs).board
unfolding moved_of
footing_moved {b} pairs g = go (may_move b pairs)
  where
    go : (w : Verdict (List Shift)) → Footing (moved b w).board
    go (no f) = g
    go (yes shifts) = footing_then g shifts

-- ---- calls that change nothing

module _ (b : Board) where
  pub looked_stays : (name : List ℕ) → (looked_of b name).board ≡ b
  unfolding looked_of
  looked_stays name = go (may_look_up b name)
    where
      go : (w : Verdict ℕ) → (looked b w).board ≡ b
      go (no f) = refl
      go (yes n) = refl

  pub showed_stays : (n : ℤ) → (showed_of b n).board ≡ b
  unfolding showed_of
  showed_stays n = go (node_verdict n)
    where
      go : (w : Verdict ℕ) → (showed b w).board ≡ b
      go (no f) = refl
      go (yes k) = refl

  pub opened_stays : (n : ℤ) → (opened_of b n).board ≡ b
  unfolding opened_of
  opened_stays n = go (may_open b n)
    where
      go : (w : Verdict ℕ) → (opened b w).board ≡ b
      go (no f) = refl
      go (yes i) = refl

  pub listed_stays : (n : ℤ) (room : ℕ) → (listed_of b n room).board ≡ b
  unfolding listed_of
  listed_stays n room = go (may_list b n room)
    where
      go : (w : Verdict ℕ) → (listed b w).board ≡ b
      go (no f) = refl
      go (yes k) = refl

  pub summed_stays : (n : ℤ) → (summed_of b n).board ≡ b
  unfolding summed_of
  summed_stays n = go (node_verdict n)
    where
      go : (w : Verdict ℕ) → (summed b w).board ≡ b
      go (no f) = refl
      go (yes k) = refl
