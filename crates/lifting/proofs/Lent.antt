-- Lifting on arrays that are a board's, beside two slices: each end of a call, with what it leaves in them.
use mathlib.Core.Path.{◌≡◌, sym, subst}
use mathlib.Core.Bool.{true, false}
use mathlib.Core.List.{List}
use Prim.Native.Nat.{ℕ, ◌*◌}
use lib.ListN.{length, set, replicate}
use lib.IntN.{ℤ, pos}
use Rattle.std.specs.Prelude.{Result, Ok, Err}
use Rattle.refusal.specs.declared.Refusal.{Refusal}
use Rattle.refusal.specs.declared.Refusal.TheVariants.{OutOfRange, Unknown}
use Rattle.terms.specs.Rows.{roles, branches}
use Rattle.totals.specs.Flow.{ticks_give}
use Rattle.totals.specs.inner.Sums.{More, Givable}
use Rattle.given.specs.Arguments.{some, issue_of, none as nowhere}
use Rattle.deck.specs.Stretch.{written}
use Rattle.slices.specs.Slices.{off_slices, changed, StandsIn}
use Rattle.small.specs.inner.Small.{Near}
use Rattle.places.specs.Naming.{parted}
use Rattle.places.specs.inner.Flat.{number_place}
use Rattle.places.specs.inner.Parts.{Entering}
use Rattle.settle.specs.inner.Working.{nodes_at, held_at}
use Rattle.settle.proofs.Alone.{none_small, one_small}
use Rattle.model.specs.Board.{Board}
use Rattle.model.specs.declared.Answer.{Answer}
use Rattle.model.specs.declared.Answer.TheVariants.{Done, Refused}
use Rattle.model.specs.Counts.{nodes_most, transistors_most}
use Rattle.model.specs.Model.{lifted_of}
use Rattle.model.proofs.Footing.{Ground}
use Rattle.lending.specs.Rest.{Rest, State, board_in}
use Rattle.lending.specs.Lending.{refuse, lifted_lent}
use Rattle.lending.specs.Reached.{Reached}
use Rattle.lending.specs.inner.Lent.{state_with, LendsStanding, LeavesPlaces}
use Rattle.lending.proofs.Footing.{ground_in}
use Rattle.lending.proofs.Tests.{stood_bad, stood_good}
use Rattle.lending.proofs.Cases.{Taken, off_slices_lem, refused_by, leaves_64, taken_so}
use Rattle.lending.proofs.Sums.{none}
use Rattle.lending.proofs.Leaves.{stays}
use Rattle.lifting.proofs.Lifting.{lift_unknown, lift_goes, lift_gives, lift_leaves, lift_stands, lifts_it}

module _ {r : Rest} {issues cards seats nodes naming : List ℕ} {currents : List ℤ}
    (l : LendsStanding r issues cards seats nodes naming currents) (k : Reached r) (volts totals : List ℤ) (z : ℤ) where
  abbrev standing : Rest
  standing =
      record {
        numbers = r.numbers;
        powers = r.powers;
        ticks = r.ticks;
        switches = r.switches;
        names = r.names;
        held = r.held;
        next = r.next;
        issues = issues;
        cards = cards;
        seats = seats;
        nodes = nodes;
        naming = naming;
        currents = currents;
      }

  standing_is : standing ≡ r
  standing_is =
      λ j. record {
        numbers = r.numbers;
        powers = r.powers;
        ticks = r.ticks;
        switches = r.switches;
        names = r.names;
        held = r.held;
        next = r.next;
        issues = l.issues_are j;
        cards = l.cards_are j;
        seats = l.seats_are j;
        nodes = l.nodes_are j;
        naming = l.naming_are j;
        currents = l.currents_are j;
      }

  abbrev was : State
  was = state_with standing volts totals

  abbrev Lifts : Rest → Answer → List ℕ → List ℕ → List ℕ → List ℕ → List ℕ → List ℤ → List ℤ → Type 0
  Lifts q answer is cs ss ns ms ts us =
      LeavesPlaces (lifted_lent (state_with q volts totals) z) answer is cs ss ns ms ts us r.next

  turned : {f : Refusal} → lifted_lent was z ≡ refuse was f →
      Lifts r (Refused f) issues cards seats nodes naming totals currents
  turned {f} e =
      subst (λ (q : Rest). Lifts q (Refused f) issues cards seats nodes naming totals currents) standing_is
      (stays was e)

  pub lift_off : off_slices volts totals ≡ true →
      Lifts r (Refused OutOfRange) issues cards seats nodes naming totals currents
  unfolding lifted_lent
  lift_off e = turned (off_slices_lem (λ (b : Board). lifted_of b z) was e)

  module _ (good : off_slices volts totals ≡ false) where
    ground : Ground (board_in was)
    ground = ground_in was (subst Reached (sym standing_is) k) good

    pub lift_none : number_place transistors_most (issue_of z) issues ≡ nowhere →
        Lifts r (Refused Unknown) issues cards seats nodes naming totals currents
    unfolding lifted_lent
    lift_none h =
        turned
        (refused_by (λ (b : Board). lifted_of b z) was good
        (lift_unknown (board_in was) ground.footing z h))

    module _ (i : ℕ) (e : number_place transistors_most (issue_of z) issues ≡ some i) {on : List ℕ}
        (o : on ≡ nodes_at nodes i) {held : List ℤ} (p : held ≡ held_at currents i) where
      pub lift_puts : Givable none on held × (length held ≡ branches)
      lift_puts = lift_gives (board_in was) ground.footing z i e o p

      pub lift_parts : Entering naming i on
      lift_parts = lift_leaves (board_in was) ground.footing z i e o p

      module _ {going : List ℤ} (more : More nodes_most none going (ticks_give on held)) where
        pub lift_near : Near none going
        lift_near = record { coming_small = none_small; going_small = one_small on more lift_puts.0.within }

        lift_changed : changed totals none going ≡ (lifted_of (board_in was) z).board.totals
        lift_changed = lift_stands (board_in was) ground.footing z i e o p more

        lift_taken : Taken (lifted_of (board_in was) z).answer
        lift_taken = rw (lift_goes (board_in was) ground.footing z i e)

        module _ {told : Result (Unit {0}) Refusal} {next : List ℤ} (stands : StandsIn totals none going told next) where
          pub lift_leaves_64 : {f : Refusal} → told ≡ Err f →
              Lifts r (Refused f) issues cards seats nodes naming next currents
          unfolding lifted_lent
          lift_leaves_64 bad =
              let y = stood_bad stands bad in
              rw (y.0, y.1.1)
              (turned (leaves_64 (λ (b : Board). lifted_of b z) was good lift_taken (rw (← lift_changed) y.1.0)))

          pub lift_done : {u : Unit {0}} → told ≡ Ok u →
              Lifts r Done (set issues i 0) (set cards i 0) (set seats i 0)
              (written 0 nodes (roles * i) (replicate roles 0) roles) (parted naming i on) next
              (written (pos 0) currents (branches * i) (replicate branches (pos 0)) branches)
          unfolding lifted_lent
          lift_done so =
              let y = stood_good stands so in
              subst
              (λ (m : Rest). Lifts m Done (set issues i 0) (set cards i 0) (set seats i 0)
              (written 0 nodes (roles * i) (replicate roles 0) roles) (parted naming i on) next
              (written (pos 0) currents (branches * i) (replicate branches (pos 0)) branches)) standing_is
              (rw (
                y.1,
                lift_changed,
                taken_so (λ (b : Board). lifted_of b z) was good lift_taken (rw (← lift_changed) y.0),
              )
              (lifts_it (board_in was) ground.footing z i e o p))
