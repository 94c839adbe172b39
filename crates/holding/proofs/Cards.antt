-- What loading and withdrawing leave in the arrays of a board's cards, and where the tests of withdrawing lead.
use mathlib.Core.Path.{◌≡◌, refl, ◌∙◌}
use mathlib.Core.Bool.{Bool, true, false}
use mathlib.Core.List.{List}
use Prim.Native.Nat.{ℕ}
use lib.ListN.{replicate}
use lib.IntN.{ℤ}
use Rattle.refusal.specs.declared.Refusal.{Refusal}
use Rattle.refusal.specs.declared.Refusal.TheVariants.{Unknown, CardInUse}
use Rattle.name.specs.Name.{name_length}
use Rattle.terms.specs.declared.Ready.{Ready}
use Rattle.terms.specs.inner.Ready.{no_ready}
use Rattle.given.specs.Lists.{any_of}
use Rattle.given.specs.Arguments.{none, some, issue_of}
use Rattle.places.specs.Gathered.{Card}
use Rattle.places.specs.Finding.{card_place, stands_on}
use Rattle.places.specs.inner.Flat.{number_place, any_on}
use Rattle.places.specs.laws.Gather.{card_place_lem, any_on_flat}
use Rattle.model.specs.Board.{Board, Answered}
use Rattle.model.specs.declared.Answer.{Answer}
use Rattle.model.specs.declared.Answer.TheVariants.{Done, Refused}
use Rattle.model.specs.Counts.{cards_most}
use Rattle.model.specs.Verdict.{withdraw_verdict}
use Rattle.model.specs.Model.{cards_of, transistors_of, holding, plain, refuse, withdrawn_of}
use Rattle.holding.specs.inner.Lent.{CardArrays, LeavesCards, Holds, card_of}

-- ---- what the flat arrays answer

module _ (b : Board) where
  place_of : (n : ℕ) → card_place n (cards_of b) ≡ number_place cards_most n b.held
  unfolding cards_of
  place_of n = card_place_lem _ _ _ _ _ _ n

  on_of : (n : ℕ) → any_of (stands_on n) (transistors_of b) ≡ any_on n b.issues b.cards
  unfolding transistors_of
  on_of n = any_on_flat _ _ _ _ _ n

module _ {b : Board} {numbers powers ticks : List ℕ} {switches : List Bool} {names held : List ℕ}
    (l : CardArrays b numbers powers ticks switches names held) where
  -- ---- the arrays as they were, and with one card written

  pub cards_stay : {next : ℕ} {f : Refusal} (a : Answered) → next ≡ b.next → refuse b f ≡ a →
      LeavesCards a (Refused f) numbers powers ticks switches names held next
  cards_stay a p e = rw (← e) (record { answer_is = refl; cards_are = l; next_is = p })

  pub cards_hold : {i : ℕ} {c : Card} {numbers' powers' ticks' : List ℕ} {switches' : List Bool}
      {names' held' : List ℕ} →
      Holds i c numbers powers ticks switches names held numbers' powers' ticks' switches' names' held' →
      (next : ℕ) (answer : Answer) (a : Answered) →
      plain (holding b i c next) answer ≡ a →
      LeavesCards a answer numbers' powers' ticks' switches' names' held' next
  cards_hold w next answer a e =
      rw (← e)
      (record {
        answer_is = refl;
        cards_are =
            record {
              numbers_are = rw (← l.numbers_are) w.laid.numbers_laid;
              powers_are = rw (← l.powers_are) w.laid.powers_laid;
              ticks_are = rw (← l.ticks_are) w.laid.ticks_laid;
              switches_are = rw (← l.switches_are) w.laid.switches_laid;
              names_are = rw (← l.names_are) w.named;
              held_are = rw (← l.held_are) w.given;
            };
        next_is = refl;
      })

  -- ---- withdrawing

  -- the issue number asked for, and its card's place or none
  module _ {issues cards : List ℕ} (q : issues ≡ b.issues) (r : cards ≡ b.cards) (z : ℤ) {n : ℕ} (e : n ≡ issue_of z) where
    place_is : card_place n (cards_of b) ≡ number_place cards_most n held
    place_is = rw l.held_are (place_of b n)

    on_is : any_of (stands_on n) (transistors_of b) ≡ any_on n issues cards
    on_is = rw (q, r) (on_of b n)

    pub lent_unknown : number_place cards_most n held ≡ none →
        LeavesCards (withdrawn_of b z) (Refused Unknown) numbers powers ticks switches names held b.next
    unfolding withdrawn_of withdraw_verdict
    lent_unknown h = cards_stay (withdrawn_of b z) refl (rw (← e, place_is, h))

    module _ {i : ℕ} (h : number_place cards_most n held ≡ some i) where
      there : card_place n (cards_of b) ≡ some i
      there = place_is ∙ h

      pub lent_in_use : any_on n issues cards ≡ true →
          LeavesCards (withdrawn_of b z) (Refused CardInUse) numbers powers ticks switches names held b.next
      unfolding withdrawn_of withdraw_verdict
      lent_in_use u = cards_stay (withdrawn_of b z) refl (rw (← e, there, on_is, u))

      pub lent_withdraws : any_on n issues cards ≡ false → {none : Ready} → none ≡ no_ready →
          {numbers' powers' ticks' : List ℕ} {switches' : List Bool} {names' held' : List ℕ} →
          Holds i (card_of 0 (replicate name_length 0) none) numbers powers ticks switches names held numbers' powers'
          ticks' switches' names' held' →
          LeavesCards (withdrawn_of b z) Done numbers' powers' ticks' switches' names' held' b.next
      unfolding withdrawn_of withdraw_verdict
      lent_withdraws u o w =
          cards_hold w b.next Done (withdrawn_of b z) (rw (← e, there, on_is, u, o))
