-- Where the tests of a move lead, with what settling the places of its set gives.
use mathlib.Core.Path.{◌≡◌, refl, sym, ap, ◌∙◌, subst}
use mathlib.Core.Bool.{Bool, true, false, not}
use mathlib.Core.List.{List, map}
use Prim.Native.Nat.{ℕ, ◌<◌}
use native.Mathlib.Omega.{arith}
use lib.ListN.{length, get_or}
use lib.IntN.{ℤ}
use Rattle.std.specs.Prelude.{Option, Some, None, Result, Ok, Err, is_ok}
use Rattle.std.proofs.Common.{◌⊎◌, inl, inr, ⊎_elim}
use Rattle.refusal.specs.declared.Refusal.{Refusal}
use Rattle.refusal.specs.declared.Refusal.TheVariants.{Malformed, OutOfReach, OutOfRange}
use Rattle.refusal.specs.Clash.{clash}
use Rattle.refusal.specs.Order.{yes}
use Rattle.volts.specs.Volts.{given_back, kept_as}
use Rattle.rows.specs.Outcome.{is_over, drawn_by}
use Rattle.totals.specs.Flow.{over_at, with_more}
use Rattle.given.specs.Pairs.{are_pairs, some_pair_off, Shift, shifts_of}
use Rattle.slices.specs.Slices.{off_slices, some_outside}
use Rattle.places.specs.Gathered.{Transistor}
use Rattle.places.specs.Finding.{stands_at}
use Rattle.places.specs.Sets.{member}
use Rattle.places.specs.laws.Members.{member_set}
use Rattle.flows.specs.inner.Workable.{deck_of}
use Rattle.settle.specs.declared.First.{First}
use Rattle.settle.specs.inner.Working.{card_at, nodes_at, held_at, Round, round_of}
use Rattle.settle.specs.inner.Working.{gained, over_of, new_at, first_so, held_from}
use Rattle.settle.specs.inner.Working.{standing, Settling, Settled}
use Rattle.settle.specs.First.{first_by, first_issue, judged}
use Rattle.settle.specs.laws.Firsts.{first_same}
use Rattle.settle.specs.laws.Changes.{changes_same}
use Rattle.settle.specs.laws.Renewals.{renewed_same}
use Rattle.lending.specs.OfModel.Board.{Board, Answered}
use Rattle.lending.specs.OfModel.Answer.{Answer}
use Rattle.lending.specs.OfModel.Answer.TheVariants.{Done, Refused}
use Rattle.lending.specs.OfModel.Counts.{transistors_most}
use Rattle.lending.specs.OfModel.Verdict.{move_verdict}
use Rattle.lending.specs.OfModel.Model.{transistor_at, worked_on, shifted, touched, first_over, gains, current_then, held_then}
use Rattle.lending.specs.OfModel.Model.{moved, moved_of}
use Rattle.lending.specs.OfModel.Model as old
use Rattle.lending.proofs.OfModel.Shifts.{shifted_long, shifted_near}
use Rattle.lending.proofs.OfModel.Gains.{same_more, touched_stands}
use Rattle.lending.proofs.OfModel.Footing.{Ground}
use Rattle.lending.proofs.OfModel.Lent.{deck_in, stands_there, nodes_there, held_there, held_small, worked_there, able_at}
use Rattle.lending.specs.Rest.{Rest, State, board_in}
use Rattle.lending.specs.Lending.{Lent, lent_as, refuse, moved_lent}
use Rattle.lending.specs.Reached.{Reached}
use Rattle.lending.specs.inner.Lent.{state_with, Lends, LeavesLevels}
use Rattle.lending.proofs.Footing.{ground_in}
use Rattle.lending.proofs.Cases.{off_slices_lem, refused_by, leaves_64, taken_so}
use Rattle.pairs.specs.inner.Pairs.{NamesAny}
use Rattle.pairs.proofs.Pairs.{any_same}

-- ---- by what is told

left_by : (first : Option First) (leaves : Bool) {f : Refusal} → judged first (not leaves) ≡ Err f →
    ((is_over (first_by first) ≡ true) × (f ≡ drawn_by (first_issue first) (first_by first)))
    ⊎ ((is_over (first_by first) ≡ false) × ((leaves ≡ true) × (f ≡ OutOfReach)))
left_by (Some x) leaves e = inl (refl, cc)
left_by None true e = inr (refl, (refl, cc))
left_by None false e = clash cc

taken_by : (first : Option First) (leaves : Bool) {u : Unit {0}} → judged first (not leaves) ≡ Ok u →
    (is_over (first_by first) ≡ false) × (leaves ≡ false)
taken_by (Some x) leaves e = clash cc
taken_by None true e = clash cc
taken_by None false e = (refl, refl)

-- ---- refusals before anything is worked

levels_stay : {s : State} {f : Refusal} (a : Lent) → a ≡ refuse s f →
    LeavesLevels a (Refused f) s.volts s.totals s.rest.currents
levels_stay a e = rw e (record { answer_is = refl; volts_are = refl; totals_are = refl; currents_are = refl })

-- the same numbers by another name
pub levels_as : {a : Lent} {x y : Answer} {volts volts' totals totals' currents : List ℤ} → x ≡ y → volts ≡ volts' →
    totals ≡ totals' → LeavesLevels a y volts' totals' currents → LeavesLevels a x volts totals currents
levels_as p q r l =
    record {
      answer_is = p ∙ l.answer_is;
      volts_are = q ∙ l.volts_are;
      totals_are = r ∙ l.totals_are;
      currents_are = l.currents_are;
    }

move_malformed : (b : Board) (pairs : List ℤ) → are_pairs pairs ≡ false → moved_of b pairs ≡ old.refuse b Malformed
unfolding moved_of move_verdict
move_malformed b pairs e = rw e

move_off : (b : Board) (pairs : List ℤ) → are_pairs pairs ≡ true → some_pair_off pairs ≡ true →
    moved_of b pairs ≡ old.refuse b OutOfRange
unfolding moved_of move_verdict
move_off b pairs e f = rw (e, f)

-- ---- pairs in range

module _ (b : Board) (g : Ground b) (pairs : List ℤ) (good : are_pairs pairs ≡ true) (on : some_pair_off pairs ≡ false)
    (will : List ℕ) (will-is : will ≡ shifted b.volts (shifts_of pairs)) (places : ℕ)
    (pe : NamesAny pairs b.naming places) where
  abbrev shifts : List Shift
  shifts = shifts_of pairs

  -- the places of the set are those that must be worked
  worked_is : (i : ℕ) → i < transistors_most → member places i ≡ touched shifts (transistor_at b i)
  worked_is i h =
      pe.is i h
      ∙ any_same (λ (s : Shift). member (get_or b.naming s.node 0) i)
      (λ (s : Shift). stands_at s.node (transistor_at b i)) pairs on
      (λ s q. ap (λ (x : ℕ). member x i) (g.footing.named.at s.node q)
      ∙ member_set (λ (j : ℕ). stands_at s.node (transistor_at b j)) transistors_most i h)

  stands : (i : ℕ) → touched shifts (transistor_at b i) ≡ true → (transistor_at b i).issue ≡ 0 → ⊥
  stands i t = touched_stands shifts (transistor_at b i) t

  -- what a move goes through
  abbrev round : Round
  round = round_of (deck_in b) b.issues b.seats b.nodes places will

  -- what is gained, and how the totals would stand, is what the model says
  gained_is : (m : ℕ) → gained round b.currents transistors_most m ≡ gains b shifts m
  gained_is m =
      rw will-is
      (changes_same (member places) (λ (i : ℕ). touched shifts (transistor_at b i)) (card_at (deck_in b) b.seats)
      (worked_on b) (nodes_at b.nodes) (λ (i : ℕ). (transistor_at b i).nodes) (held_at b.currents)
      (λ (i : ℕ). (transistor_at b i).currents) (map given_back (shifted b.volts shifts)) m transistors_most
      worked_is (λ i q t. worked_there b g.footing i q (stands i t))
      (λ i q t. nodes_there b i q) (λ i q t. held_there b i q))

  standing_is : standing round b.currents b.totals ≡ with_more b.totals (gains b shifts)
  standing_is = same_more b.totals (gained round b.currents transistors_most) (gains b shifts) (λ m h. gained_is m)

  settling_move : Settling round b.currents b.totals
  settling_move =
      record {
        will_are =
            record {
              long = ap length will-is ∙ shifted_long shifts b.volts ∙ g.kept.long;
              near = rw will-is (shifted_near pairs on g.kept.near);
            };
        able =
            λ i h m. let t = sym (worked_is i h) ∙ m in
            rw (nodes_there b i h, ← (ap (λ (u : Transistor). u.seat) (stands_there b i h)))
            (able_at b g.footing i h (stands i t));
        small = λ i h m. rw (held_there b i h) (held_small b g.footing i h (stands i (sym (worked_is i h) ∙ m)));
        long = g.totals_long;
      }

  first_is : first_so round transistors_most ≡ first_over b shifts
  first_is =
      rw will-is
      (first_same (member places) (λ (i : ℕ). touched shifts (transistor_at b i)) (λ (i : ℕ). get_or b.issues i 0)
      (λ (i : ℕ). (transistor_at b i).issue)
      (over_of (round_of (deck_in b) b.issues b.seats b.nodes places (shifted b.volts shifts)))
      (λ (i : ℕ). over_at (worked_on b i) (transistor_at b i).nodes (map given_back (shifted b.volts shifts)))
      transistors_most worked_is (λ i h t. sym (ap (λ (u : Transistor). u.issue) (stands_there b i h)))
      (λ i h t. rw (worked_there b g.footing i h (stands i t), nodes_there b i h)))

  -- what is held anew is what the model says
  held_is_then : held_from round b.currents 0 ≡ held_then b shifts
  held_is_then =
      rw will-is
      (renewed_same (member places) (λ (i : ℕ). touched shifts (transistor_at b i))
      (new_at (round_of (deck_in b) b.issues b.seats b.nodes places (shifted b.volts shifts)))
      (current_then b shifts) b.currents transistors_most 0 (λ j h. worked_is j (omega arith))
      (λ j h t. rw (worked_there b g.footing j (omega arith) (stands j t), nodes_there b j (omega arith))))

  abbrev first : Option First
  first = first_over b shifts

  abbrev leaves : Bool
  leaves = some_outside (with_more b.totals (gains b shifts))

  move_over : is_over (first_by first) ≡ true →
      moved_of b pairs ≡ old.refuse b (drawn_by (first_issue first) (first_by first))
  unfolding moved_of move_verdict
  move_over o = rw (good, on, o)

  moves_it : is_over (first_by first) ≡ false → moved_of b pairs ≡ moved b (yes shifts)
  unfolding moved_of move_verdict
  moves_it o = rw (good, on, o)

  module _ {told : Result (Unit {0}) Refusal} {next held : List ℤ}
      (s : Settled round b.currents b.totals 0 told next held) where
    told_is : told ≡ judged first (not leaves)
    told_is = s.told_is ∙ rw (first_is, standing_is)

    totals_stand : is_ok told ≡ true → next ≡ with_more b.totals (gains b shifts)
    totals_stand t = s.totals_are ∙ rw (t, standing_is)

    totals_stay : is_ok told ≡ false → next ≡ b.totals
    totals_stay e = s.totals_are ∙ rw e

    held_on : is_ok told ≡ false → held ≡ b.currents
    held_on e = s.held ∙ rw e

    held_anew : is_ok told ≡ true → held ≡ held_then b shifts
    held_anew t = s.held ∙ rw (t, held_is_then)

-- ---- the same of arrays that are a board's, beside two slices

module _ {r : Rest} {numbers powers ticks : List ℕ} {switches : List Bool} {issues seats nodes naming : List ℕ}
    {currents : List ℤ} (l : Lends r numbers powers ticks switches issues seats nodes naming currents)
    (volts totals pairs : List ℤ) where
  abbrev state : State
  state = state_with r volts totals

  abbrev call : Board → Answered
  call b = moved_of b pairs

  pub lent_turned : off_slices volts totals ≡ true →
      LeavesLevels (moved_lent state pairs) (Refused OutOfRange) volts totals currents
  unfolding moved_lent
  lent_turned e = rw l.currents_are (levels_stay (moved_lent state pairs) (off_slices_lem call state e))

  module _ (taken : off_slices volts totals ≡ false) where
    lent_refused : {f : Refusal} → moved_of (board_in state) pairs ≡ old.refuse (board_in state) f →
        LeavesLevels (moved_lent state pairs) (Refused f) volts totals currents
    unfolding moved_lent
    lent_refused e = rw l.currents_are (levels_stay (moved_lent state pairs) (refused_by call state taken e))

    pub lent_malformed : are_pairs pairs ≡ false →
        LeavesLevels (moved_lent state pairs) (Refused Malformed) volts totals currents
    lent_malformed e = lent_refused (move_malformed (board_in state) pairs e)

    pub lent_off : are_pairs pairs ≡ true → some_pair_off pairs ≡ true →
        LeavesLevels (moved_lent state pairs) (Refused OutOfRange) volts totals currents
    lent_off e f = lent_refused (move_off (board_in state) pairs e f)

    module _ (k : Reached r) (good : are_pairs pairs ≡ true) (on : some_pair_off pairs ≡ false) (will : List ℕ)
        (will-is : will ≡ shifted (map kept_as volts) (shifts_of pairs)) (places : ℕ)
        (pe : NamesAny pairs naming places) where
      ground : Ground (board_in state)
      ground = ground_in state k taken

      own_places : NamesAny pairs r.naming places
      own_places = rw (← l.naming_are) pe

      pub lent_settling :
          Settling (round_of (deck_of numbers powers ticks switches) issues seats nodes places will) currents totals
      lent_settling =
          rw (
            l.numbers_are,
            l.powers_are,
            l.ticks_are,
            l.switches_are,
            l.issues_are,
            l.seats_are,
            l.nodes_are,
            l.currents_are,
          )
          (settling_move (board_in state) ground pairs good on will will-is places own_places)

      module _ {told : Result (Unit {0}) Refusal} {next held : List ℤ}
          (s : Settled (round_of (deck_of numbers powers ticks switches) issues seats nodes places will) currents totals 0
          told next held) where
        own_settled : Settled (round_of (deck_in (board_in state)) r.issues r.seats r.nodes places will)
            r.currents totals 0 told next held
        own_settled =
            rw (
              ← l.numbers_are,
              ← l.powers_are,
              ← l.ticks_are,
              ← l.switches_are,
              ← l.issues_are,
              ← l.seats_are,
              ← l.nodes_are,
              ← l.currents_are,
            ) s

        -- a refusal after the places were worked
        stays : {f : Refusal} → moved_lent state pairs ≡ refuse state f → is_ok told ≡ false →
            LeavesLevels (moved_lent state pairs) (Refused f) volts next held
        stays e t =
            rw (
              held_on (board_in state) ground pairs good on will will-is places own_places own_settled t,
              totals_stay (board_in state) ground pairs good on will will-is places own_places own_settled t,
            )
            (levels_stay (moved_lent state pairs) e)

        -- by what is told
        pub lent_left : {f : Refusal} → told ≡ Err f →
            LeavesLevels (moved_lent state pairs) (Refused f) volts next held
        unfolding moved_lent
        lent_left {f} t =
            stays
            (⊎_elim
            (λ o. rw o.1
            (refused_by call state taken
            (move_over (board_in state) ground pairs good on will will-is places own_places o.0)))
            (λ o. rw o.1.1
            (leaves_64 call state taken
            (rw (moves_it (board_in state) ground pairs good on will will-is places own_places o.0) refl)
            (rw (moves_it (board_in state) ground pairs good on will will-is places own_places o.0) o.1.0)))
            (left_by _ _ (sym (told_is (board_in state) ground pairs good on will will-is places own_places own_settled)
            ∙ t)))
            (rw t)

        pub lent_taken : {u : Unit {0}} → told ≡ Ok u →
            LeavesLevels (moved_lent state pairs) Done (map given_back will) next held
        unfolding moved_lent
        lent_taken t =
            subst (λ (a : Lent). LeavesLevels a Done (map given_back will) next held)
            (sym (taken_so call state taken (rw moves refl) (rw moves o.1) ∙ ap lent_as moves))
            (record {
              answer_is = refl;
              volts_are = ap (map given_back) will-is;
              totals_are =
                  totals_stand (board_in state) ground pairs good on will will-is places own_places own_settled (rw t);
              currents_are =
                  held_anew (board_in state) ground pairs good on will will-is places own_places own_settled (rw t);
            })
          where
            o : (is_over (first_by (first_over (board_in state) (shifts_of pairs))) ≡ false)
                × (some_outside (with_more totals (gains (board_in state) (shifts_of pairs))) ≡ false)
            o =
                taken_by _ _
                (sym (told_is (board_in state) ground pairs good on will will-is places own_places own_settled) ∙ t)

            moves : moved_of (board_in state) pairs ≡ moved (board_in state) (yes (shifts_of pairs))
            moves = moves_it (board_in state) ground pairs good on will will-is places own_places o.0
