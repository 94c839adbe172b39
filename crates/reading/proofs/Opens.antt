-- Where the test of reading a transistor's currents leads.
use mathlib.Core.Path.{◌≡◌, refl, ◌∙◌}
use mathlib.Core.List.{List}
use Prim.Native.Nat.{ℕ, ◌*◌, ◌<◌}
use lib.IntN.{ℤ, pos}
use Rattle.refusal.specs.declared.Refusal.TheVariants.{Unknown}
use Rattle.terms.specs.Rows.{branches}
use Rattle.deck.specs.Stretch.{stretch}
use Rattle.given.specs.Arguments.{none, some, issue_of}
use Rattle.places.specs.Finding.{transistor_place}
use Rattle.places.specs.inner.Flat.{number_place}
use Rattle.places.specs.laws.Gather.{transistor_place_lem}
use Rattle.lending.specs.OfModel.Board.{Board}
use Rattle.lending.specs.OfModel.Answer.TheVariants.{Currents, Refused}
use Rattle.lending.specs.OfModel.Counts.{transistors_most}
use Rattle.lending.specs.OfModel.Verdict.{open_verdict}
use Rattle.lending.specs.OfModel.Model.{transistors_of, no_ticks, opened_of}
use Rattle.lending.proofs.OfModel.Lent.{held_there}

module _ (b : Board) (z : ℤ) {issues : List ℕ} (l : issues ≡ b.issues) where
  found : transistor_place (issue_of z) (transistors_of b) ≡ number_place transistors_most (issue_of z) issues
  unfolding transistors_of
  found = rw l (transistor_place_lem b.issues b.cards b.seats b.nodes b.currents (issue_of z))

  pub opens_none : number_place transistors_most (issue_of z) issues ≡ none →
      (Refused Unknown ≡ (opened_of b z).answer) × (no_ticks ≡ (opened_of b z).ticks)
  unfolding opened_of open_verdict
  opens_none e = rw (found, e) (refl, refl)

  pub opens_it : (i : ℕ) → number_place transistors_most (issue_of z) issues ≡ some i → i < transistors_most →
      {currents : List ℤ} → currents ≡ b.currents → {own : List ℤ} →
      own ≡ stretch (pos 0) currents (branches * i) branches →
      (Currents ≡ (opened_of b z).answer) × (own ≡ (opened_of b z).ticks)
  unfolding opened_of open_verdict
  opens_it i e h c o = rw (found, e) (refl, o ∙ rw c (held_there b i h))
