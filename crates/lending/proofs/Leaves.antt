-- A refused call leaves every array that is lent to it.
use mathlib.Core.Path.{◌≡◌, refl}
use Rattle.refusal.specs.declared.Refusal.{Refusal}
use Rattle.model.specs.declared.Answer.TheVariants.{Refused}
use Rattle.lending.specs.Rest.{State}
use Rattle.lending.specs.Lending.{Lent, refuse}
use Rattle.lending.specs.inner.Lent.{LeavesPlaces}

pub stays : (s : State) {f : Refusal} {a : Lent} → a ≡ refuse s f →
    LeavesPlaces a (Refused f) s.rest.issues s.rest.cards s.rest.seats s.rest.nodes s.rest.naming
    s.totals s.rest.currents s.rest.next
stays s e =
    rw e
    (record {
      answer_is = refl;
      issues_are = refl;
      cards_are = refl;
      seats_are = refl;
      nodes_are = refl;
      naming_are = refl;
      totals_are = refl;
      currents_are = refl;
      next_is = refl;
    })
