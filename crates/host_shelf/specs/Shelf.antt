-- What a host's calls about a library leave: the result, the lent places and the lent buffers.
use Rattle.std.specs.Prelude.{◌≡◌, List, ℕ, length}
use Rattle.refusal.specs.Order.{Verdict, no, yes, number_told}
use Rattle.directory.specs.Format.{directory, records, words_in}
use Rattle.finding.specs.Answers.{locating}
use Rattle.library.specs.Answers.{left, read}

-- the first of two numbers that a verdict gives, and the second; a refusal leaves what was there
abbrev pub first_over : Verdict (ℕ × ℕ) → ℕ → ℕ
first_over (no f) was = was
first_over (yes p) was = p.0

abbrev pub second_over : Verdict (ℕ × ℕ) → ℕ → ℕ
second_over (no f) was = was
second_over (yes p) was = p.1

-- a library s read out: its names and words in two buffers, how many cards it has and of which version
pub record ReadOut (s ns ns' ws ws' : List ℕ) (c c' v v' r : ℕ) : Type 0 where
  pub result : r ≡ number_told (read s (length ns) (length ws))
  pub names : ns' ≡ left (read s (length ns) (length ws)) (directory s) ns
  pub words : ws' ≡ left (read s (length ns) (length ws)) (words_in (records s)) ws
  pub cards : c' ≡ first_over (read s (length ns) (length ws)) c
  pub version : v' ≡ second_over (read s (length ns) (length ws)) v

-- where the record of the card x stands in the library s, and how many bytes it has
pub record Found (s x : List ℕ) (a a' z z' r : ℕ) : Type 0 where
  pub result : r ≡ number_told (locating s x)
  pub at : a' ≡ first_over (locating s x) a
  pub size : z' ≡ second_over (locating s x) z
