-- The board follows the desk: after any calls it stands for the desk that the same calls leave, and answers each call
-- as the desk does.
use mathlib.Core.Path.{◌≡◌, refl, sym, ap, ◌∙◌, subst}
use mathlib.Core.Bool.{Bool, true, false, cond, not}
use mathlib.Core.List.{List, [], ◌∷◌, map}
use Prim.Native.Nat.{ℕ, zero, suc, ◌+◌, ◌≤◌, ◌<◌}
use native.Mathlib.Numerals.{add-one}
use native.Mathlib.Omega.{arith}
use lib.Dec.{eqb, leb, ltb}
use lib.ListN.{length, get_or, set, length-map, length-replicate}
use lib.IntN.{ℤ, pos, nat_abs}
use borrow.Author.Tests.{eqb-true, eqb-false, leb-false, ltb-true, ltb-false}
use Rattle.refusal.specs.declared.Refusal.{Refusal}
use Rattle.refusal.specs.declared.Refusal.TheVariants.{CardInUse, ShortOutput}
use Rattle.refusal.specs.Order.{Verdict, no, yes, refuse_if}
use Rattle.name.specs.Name.{padded, same}
use Rattle.name.proofs.Laws.{padded_long}
use Rattle.volts.specs.Volts.{given_back}
use Rattle.card.specs.declared.WorkedCard.{WorkedCard}
use Rattle.terms.specs.inner.Ready.{ready_of}
use Rattle.terms.proofs.Laws.{ready_card}
use Rattle.terms.specs.Rows.{roles, branches}
use Rattle.places.specs.Gathered.{Card, Transistor}
use Rattle.model.specs.Board.{Board}
use Rattle.model.specs.Model.{cards_of, transistors_of, transistor_at}
use Rattle.model.specs.Counts.{nodes_most, cards_most, transistors_most}
use Rattle.given.specs.Arguments.{Found, none, some, issue_of, off_node, used_up, Ties, ties_of, wide_by}
use Rattle.terms.specs.Looked.{looked_at}
use Rattle.model.specs.Verdict.{place_verdict, move_verdict, lift_verdict, withdraw_verdict, node_verdict, open_verdict}
use Rattle.model.specs.Verdict.{list_verdict}
use Rattle.model.specs.Desk as desk
use Rattle.model.specs.Desk.{Held, Standing, Desk, Call, load, place, move, lift, withdraw, look_up, node, currents}
use Rattle.model.specs.Desk.{who, sum_up}
use Rattle.totals.specs.Flow.{overloads, sum_over}
use Rattle.given.specs.Lists.{any_of, larger}
use Rattle.model.specs.Desk.{first_with, held_as, stands_as, without, highest}
use Rattle.totals.specs.Flow.{flow}
use Rattle.model.specs.Desk.{total, faults_at, step, fresh_desk, after}
use Rattle.model.specs.Model as board
use Rattle.places.specs.Finding.{first, found_at, is_card, is_transistor, card_place, transistor_place}
use Rattle.places.specs.Gathered.{empty_card}
use Rattle.places.specs.Gathered.{no_card, empty_transistor, no_transistor, worked_at}
use Rattle.model.specs.inner.Sums.{place_gives}
use Rattle.model.specs.Model.{fresh_board, volts_of, loaded_of}
use Rattle.places.specs.Finding.{free_card, free_transistor, stands_on, highest_at}
use Rattle.model.specs.Model.{placed_of, moved_of, lifted_of, withdrawn_of, looked_of, showed_of, opened_of, listed_of}
use Rattle.model.specs.Model.{summed_of, answered, board_after}
use Rattle.days.specs.Perm.{empty}
use Rattle.days.specs.Stands.{occupied, held_of, standing_of, held_in, standing_in, held_at, standing_at, map_found}
use Rattle.days.specs.Stands.{stands_under, Stands, Follow}
use Rattle.days.proofs.Perms.{perm_join, perm_length, perm_sum, perm_any, perm_count, perm_first}
use Rattle.days.proofs.Perms.{perm_without, perm_highest}
use Rattle.days.proofs.Places.{sum_occupied, any_occupied, full, join, seen, find, find_none}
use Rattle.days.proofs.Places.{count_occupied, leave, alike}
use Rattle.totals.proofs.Lists.{get_d_map}
use Rattle.flows.proofs.Currents.{ticks_count}
use Rattle.model.proofs.NodeSums.{totals_at}
use Rattle.model.proofs.Verdicts.{loads, places, moves, lifts, withdraws, shown, opens, on_node_lem}
use Rattle.model.proofs.Found.{at_card, AtCard, at_transistor, AtTransistor}
use Rattle.model.proofs.Boards.{cards_holding, transistors_holding, cards_standing, transistors_standing, cards_then}
use Rattle.model.proofs.Boards.{transistors_count, transistor_then, fresh_cards, fresh_transistors}
use Rattle.model.proofs.Footing.{Away, unused_away, free_below, free_away, looked_long}
use Rattle.model.proofs.Invariant.{Invariant, invariant_after, worked_same, aside, still, held_is}
use Rattle.model.proofs.Gains.{touched_stands}
use Rattle.std.specs.Prelude.{Option}
use Rattle.rows.specs.declared.Over.{Over}
use Rattle.rows.specs.Outcome.{is_over}
use Rattle.refusal.specs.Clash.{clash}
use Rattle.model.specs.Faults.{Fault, before, refuse_first, faults_of}
use Rattle.model.specs.Verdict.{refuse_over}
use Rattle.days.specs.Told.{Among, FirstTold}
use Rattle.days.proofs.Amongst.{among_none, perm_in, perm_back, single_same, in_occupied, Place, of_occupied}
use Rattle.days.proofs.Amongst.{in_among, of_among}
use Rattle.days.proofs.FaultOrder.{by_issue, before_of, refuse_told}
use Rattle.days.proofs.Faults.{fault_by, fault_issue, drawn_is, faults_told, faults_own, faults_over}
use Rattle.settle.specs.First.{first_by, first_issue}
use Rattle.settle.specs.laws.Firsts.{first_one, first_least}
use Rattle.totals.specs.Flow.{over_at}
use Rattle.name.specs.Name.{name_length}
use Rattle.given.specs.Pairs.{some_pair_off, Shift, shifts_of}
use Rattle.model.specs.Desk.{moved_to}
use Rattle.model.specs.Model.{shifted, touched, first_over, settled, worked_on}
use Rattle.model.proofs.Shifts.{shifted_back}
use Rattle.days.proofs.Orderly.{Orderly, orderly_after}
use Rattle.days.proofs.Orders.{seen_in, order_load, order_place, order_move, order_lift, order_withdraw}
use Rattle.days.proofs.Orders.{order_look}
use Rattle.days.proofs.Orders.{order_read, order_open}
use Rattle.days.proofs.Ordered.{perm_different, perm_largest}
use Rattle.days.proofs.Rosters.{issues_told, cards_told, sizes_told, issues_same}

-- ---- verdicts on what was found by place, and on the same found by itself

abbrev map_verdict : {A B : Type 0} → (A → B) → Verdict A → Verdict B
map_verdict g (no f) = no f
map_verdict g (yes a) = yes (g a)

map_refuse : {A B : Type 0} (g : A → B) (t : Bool) (f : Refusal) (v : Verdict A) →
    map_verdict g (refuse_if t f v) ≡ refuse_if t f (map_verdict g v)
map_refuse g true f v = refl
map_refuse g false f v = refl

module _ {A B : Type 0} (g : A → B) where
  map_place : (found : Found A) (joins : B → Ties) (over : B → Option Over) (next : ℕ) (nodes : List ℤ)
      (no_room used : Bool) →
      place_verdict (map_found g found) joins over next nodes no_room used ≡ map_verdict g
      (place_verdict found (λ (a : A). joins (g a)) (λ (a : A). over (g a)) next nodes no_room used)
  unfolding place_verdict
  map_place none joins over next nodes no_room used = refl
  map_place (some a) joins over next nodes no_room used = sym (simp map_refuse)

  map_lift : (found : Found A) → lift_verdict (map_found g found) ≡ map_verdict g (lift_verdict found)
  unfolding lift_verdict
  map_lift none = refl
  map_lift (some a) = refl

  map_open : (found : Found A) → open_verdict (map_found g found) ≡ map_verdict g (open_verdict found)
  unfolding open_verdict
  map_open none = refl
  map_open (some a) = refl

-- ---- where board and desk agree

zero_larger : (n : ℕ) → larger 0 n ≡ n
zero_larger n = go (ltb 0 n) refl
  where
    go : (t : Bool) → ltb 0 n ≡ t → cond t n 0 ≡ n
    go true e = refl
    go false e = let h = ltb-false 0 n e in omega arith

highest_held : (name : List ℕ) (cards : List Card) → highest name (held_in cards) ≡ highest_at name cards
unfolding highest highest_at occupied
highest_held name [] = refl
highest_held name (c ∷ cards) = go (eqb c.issue 0) refl (highest_held name cards)
  where
    nothing : (t : Bool) (n : ℕ) → larger (cond t 0 0) n ≡ n
    nothing true n = zero_larger n
    nothing false n = zero_larger n

    go : (t : Bool) → eqb c.issue 0 ≡ t → highest name (held_in cards) ≡ highest_at name cards →
        highest name (desk.keep_if (not t) (held_of c) (held_in cards)) ≡ larger
        (cond (same c.name name) c.issue 0) (highest_at name cards)
    go true e h = rw (eqb-true c.issue 0 e) (h ∙ sym (nothing (same c.name name) (highest_at name cards)))
    go false e h = ap (larger (cond (same c.name name) c.issue 0)) h

module _ (b : Board) (d : Desk) (g : Invariant b) (o : Orderly d) (s : Stands b d) where
  cards_full : leb cards_most (free_card (cards_of b)) ≡ leb cards_most (length d.cards)
  cards_full =
      let e = full (λ (c : Card). c.issue) held_of (cards_of b) in
      rw (← (perm_length s.cards)) (rw g.footing.footed.cards_long at e)

  transistors_full : leb transistors_most (free_transistor (transistors_of b)) ≡ leb transistors_most (length d.standing)
  transistors_full =
      let e = full (λ (t : Transistor). t.issue) (standing_of (cards_of b)) (transistors_of b) in
      rw (← (perm_length s.standing)) (rw g.footing.footed.transistors_long at e)

  card_by : (n : ℕ) →
      held_as n d.cards ≡ map_found (held_at b) (card_place n (cards_of b))
  card_by n =
      sym
      (perm_first (λ (h : Held). eqb h.issue n)
      (subst (λ (k : ℕ). k ≤ 1) (sym (perm_count (λ (h : Held). eqb h.issue n) s.cards)) (o.cards.single n))
      s.cards)
      ∙ go (eqb n 0) refl
    where
      go : (t : Bool) → eqb n 0 ≡ t →
          first_with (λ (h : Held). eqb h.issue n) (held_in (cards_of b)) ≡ map_found (held_at b)
          (cond t none (found_at cards_most (first (is_card n) (cards_of b))))
      go true e =
          rw (eqb-true n 0 e)
          (find_none (λ (c : Card). c.issue) held_of (λ (h : Held). h.issue) (λ c. refl) (cards_of b))
      go false e =
          rw (← g.footing.footed.cards_long)
          (find (λ (c : Card). c.issue) held_of (λ (h : Held). h.issue) (λ c. refl) n (eqb-false n 0 e) no_card
          (cards_of b))

  pub transistor_by : (n : ℕ) → stands_as n d.standing ≡ stands_under n b
  transistor_by n =
      sym
      (perm_first (λ (t : Standing). eqb t.issue n)
      (subst (λ (k : ℕ). k ≤ 1) (sym (perm_count (λ (t : Standing). eqb t.issue n) s.standing))
      (o.standing.single n)) s.standing)
      ∙ go (eqb n 0) refl
    where
      go : (t : Bool) → eqb n 0 ≡ t →
          first_with (λ (u : Standing). eqb u.issue n) (standing_in (cards_of b) (transistors_of b)) ≡ map_found
          (standing_at b) (cond t none (found_at transistors_most (first (is_transistor n) (transistors_of b))))
      go true e =
          rw (eqb-true n 0 e)
          (find_none (λ (t : Transistor). t.issue) (standing_of (cards_of b)) (λ (u : Standing). u.issue) (λ t. refl)
          (transistors_of b))
      go false e =
          rw (← g.footing.footed.transistors_long)
          (find (λ (t : Transistor). t.issue) (standing_of (cards_of b)) (λ (u : Standing). u.issue) (λ t. refl) n
          (eqb-false n 0 e) no_transistor (transistors_of b))

  -- the transistor at a place, as the desk knows it
  at_place : (i : ℕ) → i < transistors_most → ((transistor_at b i).issue ≡ 0 → ⊥) → Among (standing_at b i) d.standing
  at_place i h n =
      perm_in (standing_at b i) s.standing
      (in_occupied (λ (t : Transistor). t.issue) (standing_of (cards_of b)) no_transistor (transistors_of b) i
      (rw g.footing.footed.transistors_long h) n)

  place_of : (t : Standing) → Among t d.standing →
      Place (λ (t : Transistor). t.issue) (standing_of (cards_of b)) no_transistor t (transistors_of b)
  place_of t m =
      of_occupied (λ (t : Transistor). t.issue) (standing_of (cards_of b)) no_transistor t (transistors_of b)
      (perm_back t s.standing m)

  module _ (shifts : List Shift) where
    abbrev will : List ℤ
    will = map given_back (shifted b.volts shifts)

    abbrev faults : Standing → List Fault
    faults t = faults_of t.issue t.worked t.nodes will

    abbrev named : ℕ → Bool
    named i = touched shifts (transistor_at b i)

    abbrev over_on : ℕ → Option Over
    over_on i = over_at (worked_on b i) (transistor_at b i).nodes will

    -- nothing is told: nobody overloads
    none_told : is_over (first_by (first_over b shifts)) ≡ false → faults_at d will ≡ []
    unfolding overloads
    none_told e = among_none (faults_at d will) none
      where
        none : (f : Fault) → Among f (faults_at d will) → ⊥
        none f m =
            let w = of_among faults f d.standing m in
            let p = place_of w.who w.in_list in
            let q = still g shifts e p.at p.stands in
            let h = faults_over _ _ _ will f (rw p.is at w.gives) in clash cc

    -- a transistor that overloads, of a number no higher than that of any moved one that does: its first fault is told
    module _ (i : ℕ) (below : i < transistors_most) (there : (transistor_at b i).issue ≡ 0 → ⊥)
        (over : is_over (over_on i) ≡ true)
        (least : (j : ℕ) → j < transistors_most → named j ≡ true → is_over (over_on j) ≡ true →
        (transistor_at b i).issue ≤ (transistor_at b j).issue) where
      own : FirstTold (fault_by (transistor_at b i).issue (over_on i)) (faults (standing_at b i))
      own = faults_told (transistor_at b i).issue (worked_on b i) (transistor_at b i).nodes will over

      -- no fault of another goes before it
      after_own : (f : Fault) (t : Standing) → Among t d.standing → Among f (faults t) →
          Place (λ (u : Transistor). u.issue) (standing_of (cards_of b)) no_transistor t (transistors_of b) →
          before (fault_by (transistor_at b i).issue (over_on i)) f ≡ true
      unfolding overloads
      after_own f t m gives p =
          go (named p.at) refl (ltb (transistor_at b i).issue (transistor_at b p.at).issue) refl
        where
          here : Among f (faults (standing_at b p.at))
          here = subst (λ (u : Standing). Among f (faults u)) p.is gives

          over_here : is_over (over_on p.at) ≡ true
          over_here =
              faults_over (transistor_at b p.at).issue (worked_on b p.at) (transistor_at b p.at).nodes will f
              here

          number : f.issue ≡ (transistor_at b p.at).issue
          number =
              faults_own (transistor_at b p.at).issue (worked_on b p.at) (transistor_at b p.at).nodes will f
              here

          no_higher : named p.at ≡ true → (transistor_at b i).issue ≤ (transistor_at b p.at).issue
          no_higher e = least p.at (rw g.footing.footed.transistors_long at p.below) e over_here

          same : (transistor_at b p.at).issue ≡ (transistor_at b i).issue → t ≡ standing_at b i
          same e =
              single_same (λ (u : Standing). u.issue) (transistor_at b i).issue d.standing t (standing_at b i)
              (o.standing.single (transistor_at b i).issue) m (at_place i below there)
              (ap (λ (u : Standing). u.issue) p.is ∙ e) refl

          go : (k : Bool) → named p.at ≡ k → (l : Bool) →
              ltb (transistor_at b i).issue (transistor_at b p.at).issue ≡ l →
              before (fault_by (transistor_at b i).issue (over_on i)) f ≡ true
          go true e true q =
              let a = ltb-true (transistor_at b i).issue (transistor_at b p.at).issue q in
              let c = fault_issue (transistor_at b i).issue (over_on i) in
              let k = number in before_of (fault_by (transistor_at b i).issue (over_on i)) f (by_issue (omega arith))
          go true e false q =
              let a = ltb-false (transistor_at b i).issue (transistor_at b p.at).issue q in
              let c = no_higher e in
              own.none_before f (subst (λ (u : Standing). Among f (faults u)) (same (omega arith)) gives)
          go false e l q = let z = aside g shifts p.at p.stands e in let y = over_here in clash cc

      told_here : FirstTold (fault_by (transistor_at b i).issue (over_on i)) (faults_at d will)
      told_here =
          record {
            one = in_among faults _ (standing_at b i) d.standing (at_place i below there) own.one;
            none_before =
                λ f m. let w = of_among faults f d.standing m in
                after_own f w.who w.in_list w.gives (place_of w.who w.in_list);
          }

    -- somebody is told: the fault is one of all, and none goes before it
    one_told : is_over (first_by (first_over b shifts)) ≡ true →
        FirstTold (fault_by (first_issue (first_over b shifts)) (first_by (first_over b shifts))) (faults_at d will)
    one_told e =
        let r = first_one named (λ (i : ℕ). (transistor_at b i).issue) over_on transistors_most e in
        rw (r.3.0, r.3.1)
        (told_here r.0 r.1 (touched_stands shifts (transistor_at b r.0) r.2) (rw r.3.0 at e)
        (λ j h t p. rw r.3.1 at
        (first_least named (λ (i : ℕ). (transistor_at b i).issue) over_on transistors_most j h t p)))

    first_standing : {A : Type 0} (v : Verdict A) →
        refuse_over (first_issue (first_over b shifts)) (first_by (first_over b shifts)) v
        ≡ refuse_first (faults_at d will) v
    first_standing v = go (is_over (first_by (first_over b shifts))) refl
      where
        go : (t : Bool) → is_over (first_by (first_over b shifts)) ≡ t →
            refuse_over (first_issue (first_over b shifts)) (first_by (first_over b shifts)) v
            ≡ refuse_first (faults_at d will) v
        go true e =
            rw e
            (ap no (sym (drawn_is (first_issue (first_over b shifts)) (first_by (first_over b shifts))))
            ∙ sym (refuse_told _ (faults_at d will) v (one_told e)))
        go false e = rw (e, none_told e)

  any_on_lem : (n : ℕ) → any_of (λ (t : Standing). eqb t.card n) d.standing ≡ any_of (stands_on n) (transistors_of b)
  any_on_lem n =
      sym (perm_any (λ (t : Standing). eqb t.card n) s.standing)
      ∙ any_occupied (λ (t : Transistor). t.issue) (standing_of (cards_of b)) (λ (t : Standing). eqb t.card n)
      (transistors_of b)

  pub totals_follow : (n : ℕ) → n < nodes_most → get_or b.totals n (pos 0) ≡ total d n
  unfolding total place_gives
  totals_follow n h =
      ap (λ (l : List ℤ). get_or l n (pos 0)) g.holds.balanced ∙ totals_at (cards_of b) (transistors_of b) (volts_of b)
      n h
      ∙ sym
      (sum_occupied (λ (t : Transistor). t.issue) (standing_of (cards_of b))
      (λ (t : Standing). flow t.worked t.nodes (volts_of b) n) (transistors_of b))
      ∙ perm_sum (λ (t : Standing). flow t.worked t.nodes (volts_of b) n) s.standing
      ∙ ap (λ (v : List ℤ). sum_over (λ (t : Standing). flow t.worked t.nodes v n) d.standing) s.volts

-- ---- one call more

module _ (b : Board) (d : Desk) (g : Invariant b) (o : Orderly d) (s : Stands b d) where
  -- other cards at a place on which nobody stands leave the transistors as they are
  same_standing : (p : ℕ) (c : Card) →
      Away (transistors_of b) p →
      standing_in (set (cards_of b) p c) (transistors_of b) ≡ standing_in (cards_of b) (transistors_of b)
  same_standing p c away =
      seen (λ (t : Transistor). t.issue) (standing_of (set (cards_of b) p c)) (standing_of (cards_of b)) no_transistor
      (transistors_of b)
      (λ i h k. let t = transistor_at b i in
      ap (λ (w : WorkedCard). record { issue = t.issue; card = t.card; worked = w; nodes = t.nodes })
      (worked_same (cards_of b) p c (volts_of b) t.seat (away i k)))

  given : b.next ≡ 0 → ⊥
  given e = let h = o.begun in let k = s.next in omega arith

  follow_load : (name bytes : List ℕ) → Follow (loaded_of b name bytes) (step d (load name bytes))
  unfolding loaded_of step
  follow_load name bytes =
      subst (λ (v : Verdict WorkedCard). Follow (loaded_of b name bytes) (desk.loaded d name v)) agree
      (go (board.may_load b name bytes) refl)
    where
      agree : board.may_load b name bytes ≡ desk.may_load d name bytes
      agree = rw (← (order_load d name bytes), cards_full b d g o s, s.next)

      new : (c : WorkedCard) →
          held_of (record { issue = b.next; name = padded name; ready = ready_of c })
          ≡ record { issue = d.next; name = padded name; worked = c }
      new c = rw (ready_card c, s.next)

      go : (v : Verdict WorkedCard) → board.may_load b name bytes ≡ v →
          Follow (board.loaded b name v) (desk.loaded d name v)
      go (no f) e = record { reply = refl; board = s }
      go (yes c) e =
          let p = free_card (cards_of b) in
          let below = free_below g.footing.footed (loads name e).room in
          let card : Card = record { issue = b.next; name = padded name; ready = ready_of c } in
          record {
            reply = ap desk.issued s.next;
            board =
                rw (
                  cards_holding b g.footing.sized p card (b.next + 1) below (padded_long name),
                  transistors_holding b g.footing.sized p card (b.next + 1),
                )
                (record {
                  cards =
                      perm_join
                      (join (λ (x : Card). x.issue) held_of (cards_of b) card given
                      (rw g.footing.footed.cards_long below))
                      (new c) s.cards;
                  standing =
                      rw (same_standing p card (free_away g.footing.footed (loads name e).room)) s.standing;
                  volts = s.volts;
                  next = add-one b.next ∙ ap suc s.next;
                });
          }

  follow_place : (card : ℤ) (nodes : List ℤ) (sized : length nodes ≡ roles) →
      Follow (placed_of b card nodes) (step d (place card nodes sized))
  unfolding placed_of step
  follow_place card nodes sized =
      subst (λ (v : Verdict Held). Follow (placed_of b card nodes) (desk.placed d nodes v)) agree
      (go (board.may_place b card on) refl)
    where
      on : List ℤ
      on = board.seen_on b card nodes

      same_wide : (found : Found ℕ) →
          wide_by (λ (h : Held). h.worked.wide) (map_found (held_at b) found)
          ≡ wide_by (λ (i : ℕ). (worked_at (cards_of b) i).wide) found
      same_wide none = refl
      same_wide (some i) = refl

      same_seen : seen_in d card nodes ≡ on
      same_seen =
          ap (λ (f : Found Held). looked_at (wide_by (λ (h : Held). h.worked.wide) f) nodes)
          (card_by b d g o s (issue_of card))
          ∙ ap (λ (w : Bool). looked_at w nodes) (same_wide (card_place (issue_of card) (cards_of b)))

      asked : List ℤ → Verdict Held
      asked l =
          place_verdict (held_as (issue_of card) d.cards) (λ (h : Held). ties_of h.worked)
          (λ (h : Held). over_at h.worked (map nat_abs l) d.volts) d.next l
          (leb transistors_most (length d.standing)) (used_up d.next)

      as_asked : (l : List ℤ) → map_verdict (held_at b) (board.may_place b card l) ≡ asked l
      as_asked l =
          rw (card_by b d g o s (issue_of card), map_place (held_at b), transistors_full b d g o s, s.next, s.volts)

      agree : map_verdict (held_at b) (board.may_place b card on) ≡ desk.may_place d card nodes
      agree = as_asked on ∙ ap asked (sym same_seen) ∙ order_place d card nodes

      new : (i : ℕ) → on ≡ desk.looked_by (held_at b i) nodes →
          standing_of (cards_of b)
          (board.newcomer b i on)
          ≡ record {
            issue = d.next;
            card = (held_at b i).issue;
            worked = (held_at b i).worked;
            nodes = map nat_abs (desk.looked_by (held_at b i) nodes);
          }
      new i e =
          λ j. record {
            issue = s.next j;
            card = (held_at b i).issue;
            worked = (held_at b i).worked;
            nodes = map nat_abs (e j);
          }

      go : (v : Verdict ℕ) → board.may_place b card on ≡ v →
          Follow (board.placed b on v) (desk.placed d nodes (map_verdict (held_at b) v))
      go (no f) e = record { reply = refl; board = s }
      go (yes i) e =
          let p = places (card_place (issue_of card) (cards_of b)) b.next e in
          let own : on ≡ desk.looked_by (held_at b i) nodes =
          ap (λ (f : Found ℕ). looked_at (wide_by (λ (k : ℕ). (worked_at (cards_of b) k).wide) f) nodes) p.there in
          let free = free_transistor (transistors_of b) in
          let below = leb-false transistors_most free p.room in
          let t = board.newcomer b i on in
          record {
            reply = ap desk.issued s.next;
            board =
                rw (
                  cards_standing b g.footing.sized free t _ _ (b.next + 1),
                  transistors_standing b g.footing.sized free t _ _ (b.next + 1) below
                      (length-map on nat_abs ∙ looked_long _ nodes sized) (ticks_count _ _ _),
                )
                (record {
                  cards = s.cards;
                  standing =
                      perm_join
                      (join (λ (u : Transistor). u.issue) (standing_of (cards_of b)) (transistors_of b) t given
                      (rw g.footing.footed.transistors_long below))
                      (new i own) s.standing;
                  volts = s.volts;
                  next = add-one b.next ∙ ap suc s.next;
                });
          }

  moved_volts : (pairs : List ℤ) → some_pair_off pairs ≡ false →
      map given_back (shifted b.volts (shifts_of pairs)) ≡ moved_to d.volts (shifts_of pairs)
  moved_volts pairs e = shifted_back pairs b.volts e ∙ ap (λ (l : List ℤ). moved_to l (shifts_of pairs)) s.volts

  -- out of range both refuse before they look at what stands
  agree_move : (pairs : List ℤ) (t : Bool) → some_pair_off pairs ≡ t → board.may_move b pairs ≡ desk.may_move d pairs
  unfolding move_verdict
  agree_move pairs true e = rw e
  agree_move pairs false e =
      order_move d pairs (first_over b (shifts_of pairs))
      (rw (← (moved_volts pairs e)) (first_standing b d g o s (shifts_of pairs) (yes (shifts_of pairs))))

  -- who stands, and on what, is not moved: a move renews what is held
  standing_then : (shifts : List Shift) →
      standing_in (cards_of b) (transistors_of (board.leveled b (settled b shifts) (board.held_then b shifts)))
      ≡ standing_in (cards_of b) (transistors_of b)
  standing_then shifts =
      alike (λ (t : Transistor). t.issue) (standing_of (cards_of b)) no_transistor _ (transistors_of b)
      (transistors_count g.footing.sized shifts ∙ sym g.footing.footed.transistors_long)
      (λ i h. let e =
      transistor_then g.footing.sized shifts i
      (subst (λ (k : ℕ). i < k) (transistors_count g.footing.sized shifts) h) in
      (ap (λ (t : Transistor). t.issue) e, ap (standing_of (cards_of b)) e))

  follow_move : (pairs : List ℤ) → Follow (moved_of b pairs) (step d (move pairs))
  unfolding moved_of step
  follow_move pairs =
      subst (λ (w : Verdict (List Shift)). Follow (moved_of b pairs) (desk.moved d w))
      (agree_move pairs (some_pair_off pairs) refl) (go (board.may_move b pairs) refl)
    where
      go : (w : Verdict (List Shift)) → board.may_move b pairs ≡ w → Follow (board.moved b w) (desk.moved d w)
      go (no f) e = record { reply = refl; board = s }
      go (yes shifts) e =
          record {
            reply = refl;
            board =
                rw (cards_then g.footing.sized shifts)
                (record {
                  cards = s.cards;
                  standing = rw (standing_then shifts) s.standing;
                  volts = let m = moves e in rw m.by (moved_volts pairs m.on);
                  next = s.next;
                });
          }

  -- without the one that was found its place is empty
  without_transistor : (n i : ℕ) → AtTransistor n (transistors_of b) i →
      without (λ (t : Standing). t.issue) (standing_at b i).issue (standing_in (cards_of b) (transistors_of b))
      ≡ standing_in (cards_of b) (set (transistors_of b) i empty_transistor)
  without_transistor n i a =
      let c =
      count_occupied (λ (t : Transistor). t.issue) (standing_of (cards_of b)) (λ (t : Standing). t.issue)
      (λ t. refl) n a.given (transistors_of b) in
      let p = perm_count (λ (t : Standing). eqb t.issue n) s.standing in
      let q = o.standing.single n in
      ap (λ (k : ℕ). without (λ (t : Standing). t.issue) k (standing_in (cards_of b) (transistors_of b))) a.issue_is
      ∙ sym
      (leave (λ (t : Transistor). t.issue) (standing_of (cards_of b)) (λ (t : Standing). t.issue) (λ t. refl) n
      a.given empty_transistor refl (transistors_of b) (omega arith))
      ∙ ap (λ (k : ℕ). standing_in (cards_of b) (set (transistors_of b) k empty_transistor)) (sym a.is)

  without_card : (n i : ℕ) → AtCard n (cards_of b) i →
      without (λ (h : Held). h.issue) (held_at b i).issue (held_in (cards_of b)) ≡ held_in (set (cards_of b) i empty_card)
  without_card n i a =
      let c =
      count_occupied (λ (t : Card). t.issue) held_of (λ (t : Held). t.issue) (λ t. refl) n a.given (cards_of b)
      in
      let p = perm_count (λ (t : Held). eqb t.issue n) s.cards in
      let q = o.cards.single n in
      ap (λ (k : ℕ). without (λ (t : Held). t.issue) k (held_in (cards_of b))) a.issue_is
      ∙ sym
      (leave (λ (t : Card). t.issue) held_of (λ (t : Held). t.issue) (λ t. refl) n a.given empty_card refl
      (cards_of b) (omega arith))
      ∙ ap (λ (k : ℕ). held_in (set (cards_of b) k empty_card)) (sym a.is)

  follow_lift : (n : ℤ) → Follow (lifted_of b n) (step d (lift n))
  unfolding lifted_of step
  follow_lift n =
      subst (λ (v : Verdict Standing). Follow (lifted_of b n) (desk.lifted d v)) agree (go (board.may_lift b n) refl)
    where
      agree : map_verdict (standing_at b) (board.may_lift b n) ≡ desk.may_lift d n
      agree = rw (← (order_lift d n), transistor_by b d g o s (issue_of n), map_lift (standing_at b))

      go : (v : Verdict ℕ) → board.may_lift b n ≡ v →
          Follow (board.lifted b v) (desk.lifted d (map_verdict (standing_at b) v))
      go (no f) e = record { reply = refl; board = s }
      go (yes i) e =
          let a =
          at_transistor (issue_of n) (transistors_of b) i g.footing.footed.transistors_long
          (lifts (transistor_place (issue_of n) (transistors_of b)) e) in
          let below = subst (λ (k : ℕ). i < k) g.footing.footed.transistors_long a.below in
          record {
            reply = refl;
            board =
                rw (
                  cards_standing b g.footing.sized i empty_transistor _ _ b.next,
                  transistors_standing b g.footing.sized i empty_transistor _ _ b.next below
                      (length-replicate roles zero)
                      (length-replicate branches (pos 0)),
                )
                (record {
                  cards = s.cards;
                  standing =
                      rw (← (without_transistor (issue_of n) i a))
                      (perm_without (λ (t : Standing). t.issue) (standing_at b i).issue s.standing);
                  volts = s.volts;
                  next = s.next;
                });
          }

  agree_withdraw : (n : ℤ) (found : Found ℕ) → card_place (issue_of n) (cards_of b) ≡ found →
      map_verdict (held_at b) (board.may_withdraw b n) ≡ desk.may_withdraw d n
  unfolding withdraw_verdict
  agree_withdraw n none e = rw (← (order_withdraw d n), card_by b d g o s (issue_of n), e)
  agree_withdraw n (some i) e =
      let a = at_card (issue_of n) (cards_of b) i g.footing.footed.cards_long e in
      let used : any_of (stands_on (issue_of n)) (transistors_of b) ≡ any_of (λ (t : Standing). eqb t.card
      (held_at b i).issue) d.standing =
      sym (any_on_lem b d g o s (issue_of n))
      ∙ ap (λ (k : ℕ). any_of (λ (t : Standing). eqb t.card k) d.standing) (sym a.issue_is) in
      rw (← (order_withdraw d n), card_by b d g o s (issue_of n), e)
      (map_refuse (held_at b) (any_of (stands_on (issue_of n)) (transistors_of b)) _ _
      ∙ ap (λ (t : Bool). refuse_if t CardInUse (yes (held_at b i))) used)

  follow_withdraw : (n : ℤ) → Follow (withdrawn_of b n) (step d (withdraw n))
  unfolding withdrawn_of step
  follow_withdraw n =
      subst (λ (v : Verdict Held). Follow (withdrawn_of b n) (desk.withdrawn d v))
      (agree_withdraw n (card_place (issue_of n) (cards_of b)) refl) (go (board.may_withdraw b n) refl)
    where
      go : (v : Verdict ℕ) → board.may_withdraw b n ≡ v →
          Follow (board.withdrawn b v) (desk.withdrawn d (map_verdict (held_at b) v))
      go (no f) e = record { reply = refl; board = s }
      go (yes i) e =
          let w = withdraws (card_place (issue_of n) (cards_of b)) e in
          let a = at_card (issue_of n) (cards_of b) i g.footing.footed.cards_long w.there in
          let below = subst (λ (k : ℕ). i < k) g.footing.footed.cards_long a.below in
          record {
            reply = refl;
            board =
                rw (
                  cards_holding b g.footing.sized i empty_card b.next below (length-replicate name_length zero),
                  transistors_holding b g.footing.sized i empty_card b.next,
                )
                (record {
                  cards =
                      rw (← (without_card (issue_of n) i a))
                      (perm_without (λ (t : Held). t.issue) (held_at b i).issue s.cards);
                  standing =
                      rw (same_standing i empty_card (unused_away g.footing.footed (issue_of n) i a w.unused))
                      s.standing;
                  volts = s.volts;
                  next = s.next;
                });
          }

  follow_look : (name : List ℕ) → Follow (looked_of b name) (step d (look_up name))
  unfolding looked_of step
  follow_look name =
      subst (λ (v : Verdict ℕ). Follow (looked_of b name) (desk.looked d v)) agree (go (board.may_look_up b name))
    where
      agree : board.may_look_up b name ≡ desk.may_look_up d name
      agree =
          rw (← (order_look d name), ← (highest_held (padded name) (cards_of b)), perm_highest (padded name) s.cards)

      go : (v : Verdict ℕ) → Follow (board.looked b v) (desk.looked d v)
      go (no f) = record { reply = refl; board = s }
      go (yes n) = record { reply = refl; board = s }

  follow_node : (n : ℤ) → Follow (showed_of b n) (step d (node n))
  unfolding showed_of step
  follow_node n =
      subst (λ (v : Verdict ℕ). Follow (showed_of b n) (desk.showed d v)) (order_read n) (go (node_verdict n) refl)
    where
      go : (v : Verdict ℕ) → node_verdict n ≡ v → Follow (board.showed b v) (desk.showed d v)
      go (no f) e = record { reply = refl; board = s }
      go (yes k) e =
          let h = shown n e in
          let v : given_back (get_or b.volts k 0) ≡ get_or d.volts k (pos 0) =
          sym (get_d_map given_back b.volts k 0 (pos 0) (rw g.kept.long h)) ∙ ap
          (λ (l : List ℤ). get_or l k (pos 0)) s.volts in
          let t = totals_follow b d g o s k h in record { reply = rw (v, t); board = s }

  follow_open : (n : ℤ) → Follow (opened_of b n) (step d (currents n))
  unfolding opened_of step
  follow_open n =
      subst (λ (v : Verdict Standing). Follow (opened_of b n) (desk.opened d v)) agree (go (board.may_open b n) refl)
    where
      agree : map_verdict (standing_at b) (board.may_open b n) ≡ desk.may_open d n
      agree = rw (← (order_open d n), transistor_by b d g o s (issue_of n), map_open (standing_at b))

      go : (v : Verdict ℕ) → board.may_open b n ≡ v →
          Follow (board.opened b v) (desk.opened d (map_verdict (standing_at b) v))
      go (no f) e = record { reply = refl; board = s }
      go (yes i) e =
          let a =
          at_transistor (issue_of n) (transistors_of b) i g.footing.footed.transistors_long
          (opens (transistor_place (issue_of n) (transistors_of b)) e) in
          let held = held_is g i (λ z. a.given (sym a.issue_is ∙ z)) in
          record { reply = rw (held, s.volts); board = s }

  follow_who : (n : ℤ) (room : ℕ) → Follow (listed_of b n room) (step d (who n room))
  unfolding listed_of list_verdict step
  follow_who n room = go (off_node n) refl
    where
      short : (l m : List ℕ) → l ≡ m → (t : Bool) → ltb room (length m) ≡ t →
          refuse_if (ltb room (length l)) ShortOutput (yes (nat_abs n)) ≡ refuse_if t ShortOutput (yes (nat_abs n))
      short l m e t q = ap (λ (x : List ℕ). refuse_if (ltb room (length x)) ShortOutput (yes (nat_abs n))) e ∙ rw q

      told : nat_abs n < nodes_most → (t : Bool) → ltb room (length (desk.issues_on d (nat_abs n))) ≡ t →
          Follow
          (board.listed b (refuse_if (ltb room (length (board.issues_on b (nat_abs n)))) ShortOutput (yes (nat_abs n))))
          (desk.listed d (refuse_if (ltb room (length (desk.issues_on d (nat_abs n)))) ShortOutput (yes (nat_abs n))))
      told h true q =
          rw (short _ _ (issues_same b d g s (nat_abs n) h) true q, q) (record { reply = refl; board = s })
      told h false q =
          rw (short _ _ (issues_same b d g s (nat_abs n) h) false q, q)
          (record { reply = ap desk.lists (issues_same b d g s (nat_abs n) h); board = s })

      go : (t : Bool) → off_node n ≡ t → Follow (listed_of b n room) (step d (who n room))
      go true e = rw e (record { reply = refl; board = s })
      go false e = rw e (told (on_node_lem n e) (ltb room (length (desk.issues_on d (nat_abs n)))) refl)

  follow_sum : (n : ℤ) → Follow (summed_of b n) (step d (sum_up n))
  unfolding summed_of step node_verdict
  follow_sum n = go (desk.may_sum n) refl
    where
      go : (v : Verdict ℕ) → node_verdict n ≡ v → Follow (board.summed b v) (desk.summed d v)
      go (no f) e = record { reply = refl; board = s }
      go (yes k) e =
          let h = shown n e in
          let count =
          perm_length (issues_told b d g s k h) ∙ length-map (desk.standing_on d k) (λ (t : Standing). t.issue) in
          let cards = perm_different (cards_told b d g s k h) in
          let most = perm_largest (sizes_told b d g s k h) in
          record { reply = λ j. desk.sums (count j) (cards j) (most j); board = s }

-- ---- any calls

pub stands_fresh : Stands fresh_board fresh_desk
unfolding fresh_board fresh_desk occupied
stands_fresh =
    rw (fresh_cards, fresh_transistors) (record { cards = empty; standing = empty; volts = refl; next = refl })

pub follow : (b : Board) (d : Desk) → Invariant b → Orderly d → Stands b d → (c : Call) →
    Follow (answered b c) (step d c)
unfolding answered
follow b d g o s (load name bytes) = follow_load b d g o s name bytes
follow b d g o s (place card nodes sized) = follow_place b d g o s card nodes sized
follow b d g o s (move pairs) = follow_move b d g o s pairs
follow b d g o s (lift n) = follow_lift b d g o s n
follow b d g o s (withdraw n) = follow_withdraw b d g o s n
follow b d g o s (look_up name) = follow_look b d g o s name
follow b d g o s (node n) = follow_node b d g o s n
follow b d g o s (currents n) = follow_open b d g o s n
follow b d g o s (who n room) = follow_who b d g o s n room
follow b d g o s (sum_up n) = follow_sum b d g o s n

pub stands_after : (calls : List Call) → Stands (board_after calls) (after calls)
unfolding board_after after
stands_after [] = stands_fresh
stands_after (c ∷ cs) =
    (follow (board_after cs) (after cs) (invariant_after cs) (orderly_after cs) (stands_after cs) c).board

-- whatever calls were made, the next one is answered, and changes the board, as the desk has it
pub follows : (calls : List Call) (c : Call) → Follow (answered (board_after calls) c) (step (after calls) c)
follows calls c =
    follow (board_after calls) (after calls) (invariant_after calls) (orderly_after calls) (stands_after calls) c
