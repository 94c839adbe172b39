-- Where loading's tests lead on lent arrays: the verdict on a record, with the free place beside it.
use Rattle.std.specs.Prelude.{Result, Ok, Err, List, ℕ, leb}
use Rattle.refusal.specs.declared.Refusal.{Refusal}
use Rattle.refusal.specs.Order.{Verdict, no, yes}
use Rattle.card.specs.declared.WorkedCard.{WorkedCard}
use Rattle.given.specs.Arguments.{used_up}
use Rattle.places.specs.inner.Flat.{first_at}
use Rattle.model.specs.Counts.{cards_most}
use Rattle.model.specs.Verdict.{load_verdict}
use Rattle.taking.specs.declared.Loading.{Loading}

abbrev pub way_of : ℕ → Verdict WorkedCard → Result Loading Refusal
way_of free (no f) = Err f
way_of free (yes c) = Ok (record { place = free; worked = c })

-- the issue numbers of the cards held, and the next one
unfoldable pub loading : List ℕ → ℕ → List ℕ → List ℕ → Result Loading Refusal
loading held next name bytes =
    way_of (first_at cards_most 0 held) (load_verdict name bytes (leb cards_most (first_at cards_most 0 held)) (used_up next))
