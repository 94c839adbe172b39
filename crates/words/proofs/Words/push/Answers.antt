-- The word is kept where there is room for it.
use borrow.Author.Tests.{lt-ltb, le-ltb}
use Rattle.words.specs.Words.{with_word}
use Rattle.words.proofs.Words.push.Goals as goal

pub returns-then-self-lt-MOST_WORDS : goal.returns-then-self-lt-MOST_WORDS
unfolding with_word
returns-then-self-lt-MOST_WORDS c = simp (lt-ltb _ _ c.if-self-lt-MOST_WORDS.true)

pub returns-else-self-lt-MOST_WORDS : goal.returns-else-self-lt-MOST_WORDS
unfolding with_word
returns-else-self-lt-MOST_WORDS c = simp (le-ltb _ _ c.if-self-lt-MOST_WORDS.false)
