-- A card of a library, by how locating it ended.
use mathlib.Core.Path.{◌≡◌, sym, ap, ◌∙◌}
use mathlib.Core.List.{List}
use Prim.Native.Nat.{ℕ, ◌+◌}
use native.Mathlib.Nat.{add-sub_cancel_left}
use native.Mathlib.Omega.{arith}
use lib.ListN.{take, drop}
use Rattle.refusal.specs.declared.Refusal.{Refusal}
use Rattle.refusal.specs.Order.{tells, tells_one}
use Rattle.words.specs.Words.{part_of}
use Rattle.words.proofs.Parts.{part_there}
use Rattle.std.proofs.Common.{Result, Ok, Err}
use Rattle.finding.specs.declared.Place.{Place}
use Rattle.finding.specs.Answers.{verdict_located, told_located, locating}
use Rattle.finding.proofs.Locating.{located_within}
use Rattle.answers.specs.declared.Answer.TheVariants as said
use Rattle.answers.specs.Answers.{answer_line}
use Rattle.shelving.specs.Shelf.{record_line, card_place}

module _ (s x : List ℕ) {r : Result Place Refusal} (t : told_located r ≡ tells (locating s x)) where
  verdict_is : {q : Result Place Refusal} → r ≡ q → locating s x ≡ verdict_located q
  verdict_is e = sym (tells_one (verdict_located r) (locating s x) t) ∙ ap verdict_located e

  module _ {p : Place} (e : r ≡ Ok p) where
    abbrev at : ℕ
    at = p.at

    abbrev size : ℕ
    size = p.size

    pub place_there : answer_line (said.Offset at) ≡ card_place x s
    unfolding card_place
    place_there = rw (verdict_is e)

    -- its record lies within the library
    record_part : {rec : List ℕ} → rec ≡ part_of s at (at + size) → rec ≡ take size (drop at s)
    record_part q =
        let i = (located_within s x (verdict_is e)).inside in
        q ∙ sym (part_there s at (at + size) (omega arith) i)
        ∙ ap (λ (n : ℕ). take n (drop at s)) (add-sub_cancel_left at size)

    pub record_said : (line : List ℕ → List ℕ) {rec : List ℕ} → rec ≡ part_of s at (at + size)
        → line rec ≡ record_line (locating s x) line s
    record_said line q = rw (verdict_is e) (ap line (record_part q))

  module _ {f : Refusal} (e : r ≡ Err f) where
    pub place_none : answer_line (said.Refused f) ≡ card_place x s
    unfolding card_place
    place_none = rw (verdict_is e)

    pub record_none : (line : List ℕ → List ℕ) → answer_line (said.Refused f) ≡ record_line (locating s x) line s
    record_none line = rw (verdict_is e)
