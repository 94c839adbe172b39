-- Where the tests of placing lead, on a board on which transistors can be worked: what is refused, and who stands then.
use mathlib.Core.Path.{◌≡◌, refl, sym, ap, ap₂, ◌∙◌, subst}
use mathlib.Core.Bool.{Bool, true, false}
use mathlib.Core.List.{List, map}
use Prim.Native.Nat.{ℕ, ◌+◌, ◌*◌, ◌≤◌, ◌<◌}
use lib.Dec.{leb}
use lib.ListN.{length, get_or, set, length-map}
use lib.IntN.{ℤ, pos, nat_abs}
use borrow.Author.Tests.{leb-false, ltb-false}
use Rattle.refusal.specs.declared.Refusal.{Refusal}
use Rattle.refusal.specs.Order.{Verdict, no, yes}
use Rattle.octave.specs.Table.{entries}
use Rattle.std.specs.Prelude.{None}
use Rattle.terms.specs.declared.Ready.{Ready}
use Rattle.rows.specs.Outcome.{Outcome, told_over, told_ticks, is_over, drawn_by}
use Rattle.terms.specs.Rows.{roles, branches}
use Rattle.terms.specs.Looked.{looked_at}
use Rattle.totals.specs.Flow.{over_at, ticks_at, ticks_give, flow}
use Rattle.totals.specs.inner.Sums.{More, Givable}
use Rattle.given.specs.Arguments.{Found, issue_of, issues_most, used_up, Ties, ties_of, wide_by}
use Rattle.given.specs.inner.Nodes.{node_of}
use Rattle.deck.specs.Stretch.{written}
use Rattle.slices.specs.Slices.{changed}
use Rattle.placing.specs.declared.Spot.{Spot}
use Rattle.std.specs.Prelude.{Result, Ok, Err}
use Rattle.places.specs.Gathered.{worked_at}
use Rattle.places.specs.Finding.{card_place, free_transistor}
use Rattle.places.specs.Naming.{joined}
use Rattle.places.specs.inner.Flat.{free_place, number_place, ties_at, wide_at}
use Rattle.places.specs.inner.Parts.{Entering}
use Rattle.placing.specs.inner.Placing.{placing, spot, way_of}
use Rattle.places.specs.laws.Gather.{card_place_lem, ties_flat, wide_flat, first_transistor}
use Rattle.placing.specs.laws.Ways.{stopped, went}
use Rattle.flows.specs.inner.Workable.{Workable, Works, card_of}
use Rattle.flows.proofs.Currents.{ticks_within, ticks_count}
use Rattle.lending.specs.OfModel.Board.{Board}
use Rattle.lending.specs.OfModel.Answer.TheVariants.{Issue}
use Rattle.lending.specs.OfModel.Counts.{nodes_most, cards_most, transistors_most}
use Rattle.lending.specs.OfModel.Model.{cards_of, transistors_of, volts_of, refuse, placed, seen_on, placed_of, may_place}
use Rattle.lending.proofs.OfModel.Verdicts.{Places, places}
use Rattle.lending.proofs.OfModel.Found.{AtCard, at_card, on_nodes}
use Rattle.lending.proofs.OfModel.Footing.{Ground}
use Rattle.lending.proofs.OfModel.Lent.{deck_in, ready_there, issue_there, card_able}
use Rattle.lending.specs.Lending.{lent_as}
use Rattle.lending.specs.inner.Lent.{LeavesPlaces}
use Rattle.seating.proofs.PlacingTests.{lastly, on_same, then_lastly}
use Rattle.lending.proofs.Sums.{none, none_room, only_comes}

-- what the card looks at of the nodes, and the way, by the board's arrays
abbrev pub seen_by : Board → ℤ → List ℤ → List ℤ
seen_by b card given = looked_at (wide_by (wide_at b.switches) (number_place cards_most (issue_of card) b.held)) given

abbrev pub way_on : Board → ℤ → List ℕ → Result Spot Refusal
way_on b card on =
    way_of (free_place b.issues)
    (placing (number_place cards_most (issue_of card) b.held) (ties_at b.switches) on
    (leb transistors_most (free_place b.issues)) (used_up b.next))

module _ (b : Board) (g : Ground b) (card : ℤ) (given : List ℤ) {nodes : List ℤ} (seen_is : nodes ≡ seen_by b card given)
    (long : length nodes ≡ roles) {on : List ℕ} (on-are : on ≡ map node_of nodes) {w : Result Spot Refusal}
    (way-is : w ≡ way_on b card on) where
  abbrev place : Found ℕ
  place = card_place (issue_of card) (cards_of b)

  abbrev joins : ℕ → Ties
  joins i = ties_of (worked_at (cards_of b) i)

  abbrev no_room : Bool
  no_room = leb transistors_most (free_transistor (transistors_of b))

  abbrev verdict : Verdict ℕ
  verdict = placing place joins (map node_of nodes) no_room (used_up b.next)

  same_place : place ≡ number_place cards_most (issue_of card) b.held
  unfolding cards_of
  same_place =
      card_place_lem b.held b.names b.numbers b.powers b.ticks b.switches (issue_of card)

  same_joins : joins ≡ ties_at b.switches
  unfolding cards_of
  same_joins =
      λ j i. ties_flat b.held b.names b.numbers b.powers b.ticks b.switches i
      g.footing.sized.switches j

  same_free : free_transistor (transistors_of b) ≡ free_place b.issues
  unfolding transistors_of
  same_free = first_transistor b.issues b.cards b.seats b.nodes b.currents 0

  same_seen : seen_on b card given ≡ nodes
  unfolding cards_of
  same_seen =
      ap₂ (λ (w : ℕ → Bool) (f : Found ℕ). looked_at (wide_by w f) given)
      (λ j i. wide_flat b.held b.names b.numbers b.powers b.ticks b.switches i
      g.footing.sized.switches j)
      same_place
      ∙ sym seen_is

  verdict_is : w ≡ way_of (free_transistor (transistors_of b)) verdict
  verdict_is = way-is ∙ rw (same_place, same_joins, same_free, on-are)

  may_is : may_place b card nodes ≡
      lastly verdict (λ (i : ℕ). over_at (worked_at (cards_of b) i) (map nat_abs nodes) (volts_of b)) b.next
  may_is = then_lastly place joins _ b.next nodes _ _

  placed_by : (v : Verdict ℕ) → may_place b card nodes ≡ v → placed_of b card given ≡ placed b nodes v
  unfolding placed_of
  placed_by v e = rw (same_seen, e)

  pub place_stops : (f : Refusal) → w ≡ Err f → placed_of b card given ≡ refuse b f
  place_stops f e =
      placed_by (no f) (rw (may_is, stopped (free_transistor (transistors_of b)) verdict (sym verdict_is ∙ e)))

  module _ {i free : ℕ} (e : w ≡ Ok (spot i free)) where
    found : (verdict ≡ yes i) × (free ≡ free_transistor (transistors_of b))
    found = went (free_transistor (transistors_of b)) verdict (sym verdict_is ∙ e)

    passed : Places place joins (λ (j : ℕ). None) nodes no_room (used_up b.next) i
    passed =
        places place b.next
        (then_lastly place joins (λ (j : ℕ). None) b.next nodes _ _
        ∙ ap (λ (v : Verdict ℕ). lastly v (λ (j : ℕ). None) b.next) found.0)

    pub free_there : free < transistors_most
    free_there = rw found.1 (leb-false transistors_most (free_transistor (transistors_of b)) passed.room)

    pub number_there : b.next ≤ issues_most
    number_there = ltb-false issues_most b.next passed.number

    at_place : AtCard (issue_of card) (cards_of b) i
    at_place = at_card (issue_of card) (cards_of b) i g.footing.footed.cards_long passed.there

    pub place_there : i < cards_most
    place_there = subst (λ (j : ℕ). i < j) g.footing.footed.cards_long at_place.below

    on_is : on ≡ map nat_abs nodes
    on_is = on-are ∙ on_same nodes passed.on

    on_long : length on ≡ roles
    on_long = ap length on-are ∙ length-map nodes node_of ∙ long

    on_wired : (j : ℕ) → get_or on j 0 < nodes_most
    on_wired j = rw on_is (on_nodes nodes passed.on j)

    pub place_enters : Entering b.naming free on
    place_enters =
        record {
          sets_long = g.footing.sized.naming;
          place = free_there;
          on_long = on_long;
          nodes = record { wired = on_wired };
        }

    pub place_works : (table : List ℕ) → table ≡ entries → Workable table (deck_in b) i on b.volts
    place_works table h =
        record {
          table_is = h;
          able =
              card_able b g.footing i on place_there (λ z. at_place.given (sym at_place.issue_is ∙ z)) on_wired
              on_long;
          volts_are = g.kept;
        }

    same_card : card_of (deck_in b) i ≡ worked_at (cards_of b) i
    same_card = sym (ap (λ (r : Ready). r.card) (ready_there b i place_there))

    module _ {o : Outcome} (works : Works (card_of (deck_in b) i) on (volts_of b) o) where
      over_is : told_over o ≡ over_at (worked_at (cards_of b) i) (map nat_abs nodes) (volts_of b)
      over_is = works.over ∙ rw (same_card, on_is)

      ticks_are : told_ticks o ≡ ticks_at (worked_at (cards_of b) i) (map nat_abs nodes) (volts_of b)
      ticks_are = works.ticks ∙ rw (same_card, on_is)

      pub place_gives_lem : Givable none on (told_ticks o) × (length (told_ticks o) ≡ branches)
      place_gives_lem = (
        record {
          wired = record { wired = on_wired };
          room = none_room;
          within = rw ticks_are (ticks_within _ _ _);
        },
        rw ticks_are (ticks_count _ _ _),
      )

      pub place_over : is_over (told_over o) ≡ true → placed_of b card given ≡ refuse b (drawn_by b.next (told_over o))
      place_over h = placed_by (no (drawn_by b.next (told_over o))) (rw (may_is, found.0, ← over_is, h))

      module _ (h : is_over (told_over o) ≡ false) where
        pub place_goes : placed_of b card given ≡ placed b nodes (yes i)
        place_goes = placed_by (yes i) (rw (may_is, found.0, ← over_is, h))

        -- the totals as they would stand
        pub place_stands : {coming : List ℤ} → More nodes_most none coming (ticks_give on (told_ticks o)) →
            changed b.totals coming none ≡ (placed_of b card given).board.totals
        unfolding flow
        place_stands more =
            only_comes b.totals (ticks_give on (told_ticks o))
            (flow (worked_at (cards_of b) i) (map nat_abs nodes) (volts_of b)) more
            (λ n q.
            ap (λ (ticks : List ℤ). ticks_give on ticks n) ticks_are
            ∙ ap
            (λ (m : List ℕ). ticks_give m (ticks_at (worked_at (cards_of b) i) (map nat_abs nodes) (volts_of b)) n)
            on_is)
            ∙ rw place_goes

        pub places_it :
            LeavesPlaces (lent_as (placed_of b card given)) (Issue b.next) (set b.issues free b.next)
            (set b.cards free (get_or b.held i 0)) (set b.seats free i)
            (written 0 b.nodes (roles * free) on roles) (joined b.naming free on)
            (placed_of b card given).board.totals
            (written (pos 0) b.currents (branches * free) (told_ticks o) branches) (b.next + 1)
        places_it =
            rw place_goes
            (record {
              answer_is = refl;
              issues_are = ap (λ (j : ℕ). set b.issues j b.next) found.1;
              cards_are =
                  ap (λ (j : ℕ). set b.cards j (get_or b.held i 0)) found.1
                  ∙ ap (λ (n : ℕ). set b.cards (free_transistor (transistors_of b)) n)
                  (sym (issue_there b i place_there));
              seats_are = ap (λ (j : ℕ). set b.seats j i) found.1;
              nodes_are =
                  ap (λ (j : ℕ). written 0 b.nodes (roles * j) on roles) found.1
                  ∙ ap (λ (m : List ℕ). written 0 b.nodes (roles * free_transistor (transistors_of b)) m roles) on_is;
              naming_are =
                  ap (λ (j : ℕ). joined b.naming j on) found.1
                  ∙ ap (joined b.naming (free_transistor (transistors_of b))) on_is;
              totals_are = refl;
              currents_are =
                  ap (λ (j : ℕ). written (pos 0) b.currents (branches * j) (told_ticks o) branches) found.1
                  ∙ ap
                  (λ (x : List ℤ). written (pos 0) b.currents (branches * free_transistor (transistors_of b)) x
                  branches)
                  ticks_are;
              next_is = refl;
            })
