-- Whether an answer is a refusal, and the line that explains it.
use Rattle.std.proofs.Common.{◌≡◌, ℕ, List, Bool, sym, ap, ◌∙◌}
use lib.Dec.{eqb}
use lib.Pointwise.{pointwise}
use Rattle.name.specs.Name.{same}
use Rattle.name.proofs.Equal.{same_bytes}
use Rattle.words.specs.declared.Words.{Words}
use Rattle.words.specs.Words.{words_of, word_at}
use Rattle.explaining.specs.Explanation.{refused_word, explained_if, explanation}

-- by whether the first word is that of a refusal
pub by_words : (line : List ℕ) {w : Words} {first : List ℕ} {is : Bool} (t : Bool) → w ≡ words_of line
    → first ≡ word_at line w 0 → is ≡ pointwise eqb first refused_word → is ≡ t → explained_if t line w ≡ explanation line
unfolding explanation
by_words line {w} {first} t e f p h =
    let as_same : t ≡ same (word_at line w 0) refused_word =
    sym h ∙ p ∙ same_bytes first refused_word ∙ ap (λ (l : List ℕ). same l refused_word) f in
    ap (λ (t : Bool). explained_if t line w) as_same
    ∙ ap (λ (v : Words). explained_if (same (word_at line v 0) refused_word) line v) e
