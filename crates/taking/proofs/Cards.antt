-- Where loading's way leads: what is left in the arrays of a board's cards.
use mathlib.Core.Path.{◌≡◌}
use mathlib.Core.Bool.{Bool}
use mathlib.Core.List.{List}
use Prim.Native.Nat.{ℕ, ◌+◌}
use Rattle.refusal.specs.declared.Refusal.{Refusal}
use Rattle.name.specs.Name.{padded}
use Rattle.card.specs.declared.WorkedCard.{WorkedCard}
use Rattle.terms.specs.declared.Ready.{Ready}
use Rattle.terms.specs.inner.Ready.{ready_of}
use Rattle.places.specs.Finding.{free_card}
use Rattle.places.specs.inner.Flat.{first_at}
use Rattle.places.specs.laws.Gather.{first_card}
use Rattle.model.specs.Board.{Board}
use Rattle.model.specs.declared.Answer.TheVariants.{Issue, Refused}
use Rattle.model.specs.Counts.{cards_most}
use Rattle.model.specs.Model.{cards_of, loaded_of, may_load}
use Rattle.holding.specs.inner.Lent.{CardArrays, LeavesCards, Holds, card_of}
use Rattle.holding.proofs.Cards.{cards_stay, cards_hold}
use Rattle.taking.specs.declared.Loading.{Loading}
use Rattle.std.specs.Prelude.{Result, Ok, Err}
use Rattle.taking.specs.inner.Loading.{loading}
use Rattle.taking.proofs.Ways.{verdict, way_stops, way_goes}

-- what the flat arrays answer
free_of : (b : Board) → free_card (cards_of b) ≡ first_at cards_most 0 b.held
unfolding cards_of
free_of b = first_card _ _ _ _ _ _ 0

module _ {b : Board} {numbers powers ticks : List ℕ} {switches : List Bool} {names held : List ℕ}
    (l : CardArrays b numbers powers ticks switches names held) where
  module _ {next : ℕ} (p : next ≡ b.next) (name bytes : List ℕ) {w : Result Loading Refusal}
      (way-is : w ≡ loading held next name bytes) where
    free_is : free_card (cards_of b) ≡ first_at cards_most 0 held
    free_is = rw l.held_are (free_of b)

    may_is : may_load b name bytes ≡ verdict held next name bytes
    may_is = rw (free_is, p)

    pub lent_stops : {f : Refusal} → w ≡ Err f →
        LeavesCards (loaded_of b name bytes) (Refused f) numbers powers ticks switches names held next
    unfolding loaded_of
    lent_stops e = cards_stay l (loaded_of b name bytes) p (rw (may_is, way_stops held next name bytes way-is e))

    pub lent_loads : {i : ℕ} {c : WorkedCard} → w ≡ Ok (record { place = i; worked = c }) → {own : List ℕ} → own ≡ padded name → {ready : Ready} →
        ready ≡ ready_of c → {numbers' powers' ticks' : List ℕ} {switches' : List Bool} {names' held' : List ℕ} →
        Holds i (card_of next own ready) numbers powers ticks switches names held numbers' powers' ticks' switches'
        names' held' →
        LeavesCards (loaded_of b name bytes) (Issue next) numbers' powers' ticks' switches' names' held' (next + 1)
    unfolding loaded_of
    lent_loads e o r h =
        let g = way_goes held next name bytes way-is e in
        cards_hold l h (next + 1) (Issue next) (loaded_of b name bytes)
        (rw (may_is, g.0, free_is, ← g.1, o, r, p))
