-- What is said to a line that asks nothing of the board, and the shelf after it.
use Rattle.std.specs.Prelude.{List, [], ℕ}
use Rattle.words.specs.declared.Words.{Words}
use Rattle.words.specs.Words.{word_at}
use Rattle.asks.specs.declared.Apart.{Apart}
use Rattle.asks.specs.declared.Apart.TheVariants.{Nothing, TooLong, Error, Find, Clip, Mend, Model}
use Rattle.quoting.specs.Quotes.{error_line}
use Rattle.answers.specs.declared.Answer.TheVariants as said
use Rattle.answers.specs.Answers.{answer_line}
use Rattle.shelving.specs.Shelf.{held_of, mending_held, mended_line, mended_shelf, card_place, card_clipped, card_model}

-- what is said, by the words of the line and the shelf
unfoldable pub apart_said : Apart → Words → List ℕ → List ℕ → List ℕ
apart_said Nothing w line shelf = []
apart_said TooLong w line shelf = answer_line said.TooLong
apart_said Error w line shelf = error_line (word_at line w 0)
apart_said Find w line shelf = card_place (word_at line w 1) (held_of shelf)
apart_said Mend w line shelf = mended_line (mending_held shelf)
apart_said Model w line shelf = card_model (word_at line w 1) (held_of shelf)
apart_said Clip w line shelf = card_clipped (word_at line w 1) (held_of shelf)

-- only mending changes the shelf
unfoldable pub apart_shelf : Apart → List ℕ → List ℕ
apart_shelf Nothing shelf = shelf
apart_shelf TooLong shelf = shelf
apart_shelf Error shelf = shelf
apart_shelf Find shelf = shelf
apart_shelf Mend shelf = mended_shelf shelf
apart_shelf Model shelf = shelf
apart_shelf Clip shelf = shelf
