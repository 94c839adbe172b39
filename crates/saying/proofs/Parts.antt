-- A part of some bytes, as the library's `get` finds it.
use Rattle.std.proofs.Common.{◌≡◌, ℕ, ◌+◌, ◌-◌, inl, inr, List, [], length, take, drop, Bor, Option, Some, None, zero, suc, refl, sym, ap, ◌∙◌, length-drop, arith}
use lib.Seq.{take_all}
use Rattle.std.proofs.lemmas.Bool.{cases_lt}
use Rattle.std.specs.List.{PartBy}
use Rattle.std.specs.Option.{UnwrapsOrElse}
use Rattle.words.specs.Words.{part_of}
use Rattle.words.proofs.Parts.{part_there, part_back, part_beyond}

pub gets : (s : List ℕ) (a e : ℕ) (r : Option (Bor (List ℕ))) (Empty : Bor (List ℕ) → Type 0) {x : Bor (List ℕ)} →
    PartBy (λ (x : Bor (List ℕ)). x.now) s a e r → UnwrapsOrElse r Empty x → (Empty x → x.now ≡ []) →
    x.now ≡ part_of s a e
gets s a e (Some y) Empty p u empty =
    ap (λ (x : Bor (List ℕ)). x.now) u ∙ p.0.2 ∙ part_there s a e p.0.0 p.0.1
gets s a e None Empty p u empty = empty u ∙ elim p.0 [
  | inl back ↦ part_back s a e back
  | inr beyond ↦ elim (cases_lt e a) [
    | inl back ↦ part_back s a e back
    | inr within ↦ part_beyond s a e within beyond
  ]
]

part_of_none : (n : ℕ) → part_of [] 0 n ≡ []
unfolding part_of
part_of_none zero = refl
part_of_none (suc n) = sym (part_beyond [] 0 (suc n) (omega arith) (omega arith))

-- a part of the rest from a place on
pub next_part : (s : List ℕ) (at n : ℕ) {rest part : List ℕ} → rest ≡ part_of s at (length s)
    → part ≡ part_of rest 0 n → part ≡ part_of s at (at + n)
next_part s at n {rest} e f = elim (cases_lt (length s) at) [
  | inl over ↦
      let none : rest ≡ [] = e ∙ sym (part_back s at (length s) over) in
      f ∙ ap (λ (l : List ℕ). part_of l 0 n) none ∙ part_of_none n ∙ part_beyond s at (at + n) (omega arith) (omega arith)
  | inr there ↦
      let left : length (drop at s) ≡ length s - at = length-drop at s in
      let rest_is : rest ≡ drop at s =
      e ∙ sym (part_there s at (length s) there (omega arith)) ∙ take_all (length s - at) (drop at s) (omega arith) in
      let of_rest = f ∙ ap (λ (l : List ℕ). part_of l 0 n) rest_is in
      elim (cases_lt (length s) (at + n)) [
        | inl beyond ↦
            of_rest ∙ sym (part_beyond (drop at s) 0 n (omega arith) (omega arith))
            ∙ part_beyond s at (at + n) (omega arith) beyond
        | inr within ↦
            of_rest ∙ sym (part_there (drop at s) 0 n (omega arith) (omega arith))
            ∙ ap (λ (k : ℕ). take k (drop at s)) (omega arith) ∙ part_there s at (at + n) (omega arith) within
      ]
]
