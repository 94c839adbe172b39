-- One line and place have one next word.
use Rattle.std.specs.Prelude.{◌≡◌, refl, Option, Some, None, List, [], ◌∷◌, ℕ}
use Rattle.std.proofs.Common.{sym, ap, ◌∙◌}
use Rattle.refusal.specs.Clash.{clash}
use Rattle.words.specs.declared.Span.{Span}
use Rattle.words.specs.inner.Passing.{outside, NextWord}

pub unique_next_word : (line : List ℕ) (at : ℕ) (r s : Option Span) → NextWord line at r → NextWord line at s → r ≡ s
unique_next_word line at None None v w = refl
unique_next_word line at None (Some s) v w =
    let same : [] ≡ s ∷ outside line s.end = sym v ∙ w.parted in clash (cc)
unique_next_word line at (Some r) None v w =
    let same : r ∷ outside line r.end ≡ [] = sym v.parted ∙ w in clash (cc)
unique_next_word line at (Some r) (Some s) v w =
    let same : r ∷ outside line r.end ≡ s ∷ outside line s.end = sym v.parted ∙ w.parted in
    let one : r ≡ s = cc in ap Some one
