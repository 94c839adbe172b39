-- The words of a line as numbers: whether they are, and which.
use Rattle.std.specs.Prelude.{Bool, true, false, ◌&&◌, List, Option, Some, None, ℕ, zero, suc, ℤ, pos, set, replicate}
use Rattle.spelling.specs.Number.{parsed_of}
use Rattle.words.specs.declared.Words.{Words}
use Rattle.words.specs.Words.{word_at}

-- the most numbers that a command takes
abbrev pub most_numbers : ℕ
most_numbers = 12

abbrev pub is_number : Option ℤ → Bool
is_number (Some z) = true
is_number None = false

abbrev pub value_of : Option ℤ → ℤ
value_of (Some z) = z
value_of None = pos 0

-- each of the m words from word k on is a number
unfoldable pub are_numbers : List ℕ → Words → ℕ → ℕ → Bool
are_numbers line w k zero = true
are_numbers line w k (suc m) = is_number (parsed_of (word_at line w k)) && are_numbers line w (suc k) m

-- the numbers that the n words after the first are; 0 stands for a word that is none, and for one that is not there
unfoldable pub numbers_to : List ℕ → Words → ℕ → List ℤ
numbers_to line w zero = replicate most_numbers (pos 0)
numbers_to line w (suc n) = set (numbers_to line w n) n (value_of (parsed_of (word_at line w (suc n))))
