-- Where the test of lifting leads: what is refused, and who stands then.
use mathlib.Core.Path.{◌≡◌, refl, sym, ap, ◌∙◌, subst}
use mathlib.Core.List.{List}
use Prim.Native.Nat.{ℕ, ◌*◌, ◌<◌}
use lib.ListN.{length, set, replicate}
use lib.IntN.{ℤ, pos}
use Rattle.refusal.specs.declared.Refusal.TheVariants.{Unknown}
use Rattle.refusal.specs.Order.{yes}
use Rattle.terms.specs.Rows.{roles, branches}
use Rattle.totals.specs.Flow.{ticks_give}
use Rattle.totals.specs.inner.Sums.{More, Givable}
use Rattle.given.specs.Arguments.{none, some, issue_of}
use Rattle.deck.specs.Stretch.{written}
use Rattle.deck.specs.laws.Stretches.{length_stretch}
use Rattle.slices.specs.Slices.{changed}
use Rattle.places.specs.Finding.{transistor_place}
use Rattle.places.specs.Naming.{parted}
use Rattle.places.specs.inner.Flat.{number_place}
use Rattle.places.specs.inner.Parts.{Entering}
use Rattle.places.specs.laws.Gather.{transistor_place_lem}
use Rattle.settle.specs.inner.Working.{nodes_at, held_at}
use Rattle.model.specs.Board.{Board}
use Rattle.model.specs.declared.Answer.TheVariants.{Done}
use Rattle.model.specs.Counts.{nodes_most, transistors_most}
use Rattle.model.specs.Verdict.{lift_verdict}
use Rattle.model.specs.Model.{transistors_of, transistor_at, refuse, lifted, lifted_of}
use Rattle.model.proofs.Found.{AtTransistor, at_transistor}
use Rattle.model.proofs.Footing.{Footing}
use Rattle.model.proofs.Lent.{nodes_there, held_there, held_small}
use Rattle.lending.specs.Lending.{lent_as}
use Rattle.lending.specs.inner.Lent.{LeavesPlaces}
use Rattle.lending.proofs.Sums as sums
use Rattle.lending.proofs.Sums.{none_room, only_goes}

module _ (b : Board) (g : Footing b) (z : ℤ) where
  same_transistor :
      transistor_place (issue_of z) (transistors_of b) ≡ number_place transistors_most (issue_of z) b.issues
  unfolding transistors_of
  same_transistor =
      transistor_place_lem b.issues b.cards b.seats b.nodes b.currents (issue_of z)

  pub lift_unknown : number_place transistors_most (issue_of z) b.issues ≡ none → lifted_of b z ≡ refuse b Unknown
  unfolding lifted_of lift_verdict
  lift_unknown e = rw (same_transistor, e)

  module _ (i : ℕ) (e : number_place transistors_most (issue_of z) b.issues ≡ some i) where
    at_there : AtTransistor (issue_of z) (transistors_of b) i
    at_there = at_transistor (issue_of z) (transistors_of b) i g.footed.transistors_long (same_transistor ∙ e)

    pub lift_there : i < transistors_most
    lift_there = subst (λ (j : ℕ). i < j) g.footed.transistors_long at_there.below

    leaver_stands : (transistor_at b i).issue ≡ 0 → ⊥
    leaver_stands q = at_there.given (sym at_there.issue_is ∙ q)

    pub lift_goes : lifted_of b z ≡ lifted b (yes i)
    unfolding lifted_of lift_verdict
    lift_goes = rw (same_transistor, e)

    module _ {on : List ℕ} (o : on ≡ nodes_at b.nodes i) {own : List ℤ} (p : own ≡ held_at b.currents i) where
      nodes_are : on ≡ (transistor_at b i).nodes
      nodes_are = o ∙ nodes_there b i lift_there

      own_is : own ≡ (transistor_at b i).currents
      own_is = p ∙ held_there b i lift_there

      pub lift_gives : Givable sums.none on own × (length own ≡ branches)
      lift_gives = (
        record {
          wired = record { wired = rw nodes_are (g.footed.transistor i leaver_stands).wired };
          room = none_room;
          within = rw own_is (held_small b g i lift_there leaver_stands);
        },
        rw p (length_stretch (pos 0) b.currents (branches * i) branches),
      )

      pub lift_leaves : Entering b.naming i on
      lift_leaves =
          record {
            sets_long = g.sized.naming;
            place = lift_there;
            on_long = rw o (length_stretch 0 b.nodes (roles * i) roles);
            nodes = record { wired = rw nodes_are (g.footed.transistor i leaver_stands).wired };
          }

      -- the totals as they would stand
      pub lift_stands : {going : List ℤ} → More nodes_most sums.none going (ticks_give on own) →
          changed b.totals sums.none going ≡ (lifted_of b z).board.totals
      lift_stands more = only_goes b.totals on own more ∙ rw (lift_goes, nodes_are, own_is)

      pub lifts_it :
          LeavesPlaces (lent_as (lifted_of b z)) Done (set b.issues i 0) (set b.cards i 0) (set b.seats i 0)
          (written 0 b.nodes (roles * i) (replicate roles 0) roles) (parted b.naming i on)
          (lifted_of b z).board.totals
          (written (pos 0) b.currents (branches * i) (replicate branches (pos 0)) branches) b.next
      lifts_it =
          rw lift_goes
          (record {
            answer_is = refl;
            issues_are = refl;
            cards_are = refl;
            seats_are = refl;
            nodes_are = refl;
            naming_are = ap (parted b.naming i) nodes_are;
            totals_are = refl;
            currents_are = refl;
            next_is = refl;
          })
