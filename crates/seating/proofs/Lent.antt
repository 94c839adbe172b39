-- Placing on arrays that are a board's, beside two slices: each end of a call, with what it leaves in them.
use mathlib.Core.Path.{◌≡◌, sym, subst}
use mathlib.Core.Bool.{Bool, true, false}
use mathlib.Core.List.{List, map}
use Prim.Native.Nat.{ℕ, ◌+◌, ◌*◌, ◌≤◌, ◌<◌}
use lib.Dec.{leb}
use lib.ListN.{length, get_or, set}
use lib.IntN.{ℤ, pos}
use Rattle.std.specs.Prelude.{Result, Ok, Err}
use Rattle.refusal.specs.declared.Refusal.{Refusal}
use Rattle.refusal.specs.declared.Refusal.TheVariants.{OutOfRange}
use Rattle.volts.specs.Volts.{given_back, kept_as}
use Rattle.octave.specs.Table.{entries}
use Rattle.rows.specs.Outcome.{Outcome, told_over, told_ticks, is_over, drawn_by}
use Rattle.terms.specs.Rows.{roles, branches}
use Rattle.terms.specs.Looked.{looked_at}
use Rattle.totals.specs.Flow.{ticks_give}
use Rattle.totals.specs.inner.Sums.{More, Givable}
use Rattle.given.specs.Arguments.{issue_of, issues_most, used_up, wide_by}
use Rattle.given.specs.inner.Nodes.{node_of}
use Rattle.deck.specs.Stretch.{written}
use Rattle.slices.specs.Slices.{off_slices, changed, StandsIn}
use Rattle.small.specs.inner.Small.{Near}
use Rattle.placing.specs.declared.Spot.{Spot}
use Rattle.placing.specs.inner.Placing.{spot}
use Rattle.std.specs.Prelude.{Result, Ok, Err}
use Rattle.placing.specs.inner.Placing.{placing, way_of}
use Rattle.places.specs.Naming.{joined}
use Rattle.places.specs.inner.Flat.{free_place, number_place, ties_at, wide_at}
use Rattle.places.specs.inner.Parts.{Entering}
use Rattle.flows.specs.inner.Workable.{deck_of, Workable, Works, card_of}
use Rattle.settle.proofs.Alone.{none_small, one_small}
use Rattle.lending.specs.OfModel.Board.{Board}
use Rattle.lending.specs.OfModel.Answer.{Answer}
use Rattle.lending.specs.OfModel.Answer.TheVariants.{Issue, Refused}
use Rattle.lending.specs.OfModel.Counts.{nodes_most, cards_most, transistors_most}
use Rattle.lending.specs.OfModel.Model.{placed_of}
use Rattle.lending.proofs.OfModel.Footing.{Ground}
use Rattle.lending.specs.Rest.{Rest, State, board_in}
use Rattle.lending.specs.Lending.{refuse, placed_lent}
use Rattle.lending.specs.Reached.{Reached}
use Rattle.lending.specs.inner.Lent.{state_with, LendsPlaces, LeavesPlaces}
use Rattle.lending.proofs.Footing.{ground_in}
use Rattle.lending.proofs.Tests.{stood_bad, stood_good}
use Rattle.lending.proofs.Cases.{Taken, off_slices_lem, refused_by, leaves_64, taken_so}
use Rattle.lending.proofs.Sums.{none}
use Rattle.lending.proofs.Leaves.{stays}
use Rattle.seating.proofs.Placing.{place_stops, free_there, number_there, place_there, place_enters, place_works}
use Rattle.seating.proofs.Placing.{place_gives_lem, place_over, place_goes, place_stands, places_it}

module _ {r : Rest} {numbers powers ticks : List ℕ} {switches : List Bool}
    {held issues cards seats nodes naming : List ℕ} {currents : List ℤ} {next : ℕ}
    (l : LendsPlaces r numbers powers ticks switches held issues cards seats nodes naming currents next) (k : Reached r)
    (volts totals : List ℤ) (card : ℤ) (given : List ℤ) where
  -- the board with the lent arrays in it is the board that lends them
  abbrev own : Rest
  own =
      record {
        numbers = numbers;
        powers = powers;
        ticks = ticks;
        switches = switches;
        names = r.names;
        held = held;
        next = next;
        issues = issues;
        cards = cards;
        seats = seats;
        nodes = nodes;
        naming = naming;
        currents = currents;
      }

  own_is : own ≡ r
  own_is =
      λ j. record {
        numbers = l.lends.numbers_are j;
        powers = l.lends.powers_are j;
        ticks = l.lends.ticks_are j;
        switches = l.lends.switches_are j;
        names = r.names;
        held = l.held_are j;
        next = l.next_is j;
        issues = l.lends.issues_are j;
        cards = l.cards_are j;
        seats = l.lends.seats_are j;
        nodes = l.lends.nodes_are j;
        naming = l.lends.naming_are j;
        currents = l.lends.currents_are j;
      }

  abbrev found : State
  found = state_with own volts totals

  abbrev Leaves : Rest → Answer → List ℕ → List ℕ → List ℕ → List ℕ → List ℕ → List ℤ → List ℤ → ℕ → Type 0
  Leaves q answer = LeavesPlaces (placed_lent (state_with q volts totals) card given) answer

  refused : {f : Refusal} → placed_lent found card given ≡ refuse found f →
      Leaves r (Refused f) issues cards seats nodes naming totals currents next
  refused {f} e =
      subst (λ (q : Rest). Leaves q (Refused f) issues cards seats nodes naming totals currents next) own_is
      (stays found e)

  pub lent_off : off_slices volts totals ≡ true →
      Leaves r (Refused OutOfRange) issues cards seats nodes naming totals currents next
  unfolding placed_lent
  lent_off e = refused (off_slices_lem (λ (b : Board). placed_of b card given) found e)

  module _ (good : off_slices volts totals ≡ false) {seen : List ℤ}
      (seen_is : seen ≡ looked_at (wide_by (wide_at switches) (number_place cards_most (issue_of card) held)) given)
      (long : length seen ≡ roles) {on : List ℕ} (on-are : on ≡ map node_of seen) {w : Result Spot Refusal}
      (way-is : w ≡ way_of (free_place issues)
      (placing (number_place cards_most (issue_of card) held) (ties_at switches) on (leb transistors_most (free_place issues))
      (used_up next))) where
    g : Ground (board_in found)
    g = ground_in found (subst Reached (sym own_is) k) good

    pub lent_stops : (f : Refusal) → w ≡ Err f →
        Leaves r (Refused f) issues cards seats nodes naming totals currents next
    unfolding placed_lent
    lent_stops f e =
        refused
        (refused_by (λ (b : Board). placed_of b card given) found good
        (place_stops (board_in found) g card given seen_is long on-are way-is f e))

    module _ {i free : ℕ} (e : w ≡ Ok (spot i free)) where
      pub lent_free : free < transistors_most
      lent_free = free_there (board_in found) g card given seen_is long on-are way-is e

      pub lent_number : next ≤ issues_most
      lent_number = number_there (board_in found) g card given seen_is long on-are way-is e

      pub lent_card : i < cards_most
      lent_card = place_there (board_in found) g card given seen_is long on-are way-is e

      pub lent_enters : Entering naming free on
      lent_enters = place_enters (board_in found) g card given seen_is long on-are way-is e

      module _ {kept : List ℕ} (kept-are : kept ≡ map kept_as volts) where
        pub lent_works : (table : List ℕ) → table ≡ entries →
            Workable table (deck_of numbers powers ticks switches) i on kept
        lent_works table h =
            rw kept-are (place_works (board_in found) g card given seen_is long on-are way-is e table h)

        module _ {o : Outcome}
            (works : Works (card_of (deck_of numbers powers ticks switches) i) on (map given_back kept) o) where
          own_works : Works (card_of (deck_of numbers powers ticks switches) i) on (map given_back (map kept_as volts)) o
          own_works = rw (← kept-are) works

          pub lent_gives : Givable none on (told_ticks o) × (length (told_ticks o) ≡ branches)
          lent_gives = place_gives_lem (board_in found) g card given seen_is long on-are way-is e own_works

          pub lent_over : is_over (told_over o) ≡ true →
              Leaves r (Refused (drawn_by next (told_over o))) issues cards seats nodes naming totals currents next
          unfolding placed_lent
          lent_over h =
              refused
              (refused_by (λ (b : Board). placed_of b card given) found good
              (place_over (board_in found) g card given seen_is long on-are way-is e own_works h))

          module _ (h : is_over (told_over o) ≡ false) {coming : List ℤ}
              (more : More nodes_most none coming (ticks_give on (told_ticks o))) where
            pub lent_near : Near coming none
            lent_near = record { coming_small = one_small on more lent_gives.0.within; going_small = none_small }

            stands : changed totals coming none ≡ (placed_of (board_in found) card given).board.totals
            stands = place_stands (board_in found) g card given seen_is long on-are way-is e own_works h more

            taken : Taken (placed_of (board_in found) card given).answer
            taken = rw (place_goes (board_in found) g card given seen_is long on-are way-is e own_works h)

            module _ {told : Result (Unit {0}) Refusal} {after : List ℤ} (judged : StandsIn totals coming none told after) where
              pub lent_leaves_64 : {f : Refusal} → told ≡ Err f →
                  Leaves r (Refused f) issues cards seats nodes naming after currents next
              unfolding placed_lent
              lent_leaves_64 bad =
                  let y = stood_bad judged bad in
                  rw (y.0, y.1.1)
                  (refused
                  (leaves_64 (λ (b : Board). placed_of b card given) found good taken (rw (← stands) y.1.0)))

              -- whatever was left in the arrays that others write
              pub lent_places : {u : Unit {0}} → told ≡ Ok u → {n s : List ℕ} {c : List ℤ} →
                  n ≡ written 0 nodes (roles * free) on roles → s ≡ joined naming free on →
                  c ≡ written (pos 0) currents (branches * free) (told_ticks o) branches →
                  Leaves r (Issue next) (set issues free next) (set cards free (get_or held i 0)) (set seats free i) n s
                  after c (next + 1)
              unfolding placed_lent
              lent_places so {n} {s} {c} q u v =
                  let y = stood_good judged so in
                  subst
                  (λ (m : Rest). Leaves m (Issue next) (set issues free next) (set cards free (get_or held i 0))
                  (set seats free i) n s after c (next + 1)) own_is
                  (rw (
                    q,
                    u,
                    v,
                    y.1,
                    stands,
                    taken_so (λ (b : Board). placed_of b card given) found good taken (rw (← stands) y.0),
                  )
                  (places_it (board_in found) g card given seen_is long on-are way-is e own_works h))
