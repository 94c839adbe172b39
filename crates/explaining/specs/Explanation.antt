-- The line that explains an answer: none to an answer that is no refusal, else the sentence of its number, with the
-- transistor and the branch where it tells them.
use Rattle.std.specs.Prelude.{Bool, true, false, List, [], ◌∷◌, ◌++◌, Option, Some, None, ℕ, ℤ, eqb, pos, negsuc}
use Rattle.name.specs.Name.{same}
use Rattle.spelling.specs.Bytes.{bytes, newline}
use Rattle.spelling.specs.Number.{parsed_of}
use Rattle.words.specs.declared.Words.{Words}
use Rattle.words.specs.Words.{words_of, word_at}
use Rattle.explaining.specs.Sentences.{sentence_of, ends_of}

-- the number that a word spells; 0 where it spells none, or one below 0
abbrev pub natural_of : Option ℤ → ℕ
natural_of (Some (pos n)) = n
natural_of (Some (negsuc n)) = 0
natural_of None = 0

-- the first word of a refusal, and how many words one has that tells a transistor and a branch
abbrev pub refused_word : List ℕ
refused_word = bytes "refused"

abbrev pub where_words : ℕ
where_words = 4

-- the transistor and the branch as they are told, and the branch by its roles
abbrev pub where_of : List ℕ → List ℕ → List ℕ
where_of who branch =
    bytes ": transistor " ++ (who ++ (bytes ", branch " ++ (branch ++ ends_of (natural_of (parsed_of branch)))))

abbrev pub where_if : Bool → List ℕ → Words → List ℕ
where_if true line w = where_of (word_at line w 2) (word_at line w 3)
where_if false line w = []

unfoldable pub where_told : List ℕ → Words → List ℕ
where_told line w = where_if (eqb w.count where_words) line w

abbrev pub explained_if : Bool → List ℕ → Words → List ℕ
explained_if true line w =
    bytes "# " ++ (sentence_of (natural_of (parsed_of (word_at line w 1))) ++ (where_told line w ++ newline ∷ []))
explained_if false line w = []

-- of an answer without the newline that ends it
unfoldable pub explanation : List ℕ → List ℕ
explanation line = explained_if (same (word_at line (words_of line) 0) refused_word) line (words_of line)
