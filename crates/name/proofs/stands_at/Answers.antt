-- Where there is room for a name, two are equal where both their words are.
use Rattle.std.proofs.Common.{sym, ◌∙◌, ◌+◌, ◌≤◌, ℕ, List, ◌++◌, length, take, drop, length-drop, drop-drop, arith, rules}
use borrow.Author.Tests.{ne_eqb}
use Rattle.bytes_le.specs.Le.{bytes_of, word_bytes, Word}
use Rattle.name.specs.Name.{name_length}
use Rattle.name.proofs.Laws.{Words, words_of, words_made, short_apart, low_apart, high_decides}
use Rattle.name.proofs.stands_at.Goals as goal
use Rattle.name.proofs.stands_at.Goals.{After-u64_at-y}

pub returns-then-s-lt-LENGTH : goal.returns-then-s-lt-LENGTH
returns-then-s-lt-LENGTH c = let a = c.args in sym (short_apart a.low a.high a.s.now a.at (omega arith))

pub returns-then-s-at : goal.returns-then-s-at
returns-then-s-at c = let a = c.args in sym (short_apart a.low a.high a.s.now a.at (omega arith))

-- the words that are read at a place are those of the name there
words_at : (s : List ℕ) (at : ℕ) {x y : ℕ} → at + name_length ≤ length s → Word (drop at s) x →
    Word (drop (at + word_bytes) s) y → Words (take name_length (drop at s)) x y
words_at s at h p q = words_of (drop at s) (rw length-drop (omega arith)) p (rw (← drop-drop word_bytes at s) at q)

here : (c : After-u64_at-y) →
    Words (take name_length (drop c.args.at c.args.s.now)) c.u64_at-x.result c.u64_at-y.result
here c =
    let room : c.args.at + name_length ≤ length c.args.s.now = omega arith in
    words_at _ _ room c.u64_at-x.ensures c.u64_at-y.ensures

there : (c : After-u64_at-y) →
    Words (bytes_of word_bytes c.args.low ++ bytes_of word_bytes c.args.high) c.args.low c.args.high
there c = words_made (search rules) (search rules)

pub returns-then-low-x : goal.returns-then-low-x
returns-then-low-x c =
    let a = (goal.at.returns-then-low-x c).After-u64_at-y in
    high_decides (there a) (here a) c.if-low-x.true

pub returns-else-low-x : goal.returns-else-low-x
returns-else-low-x c =
    let a = (goal.at.returns-else-low-x c).After-u64_at-y in
    ne_eqb _ _ c.if-low-x.false ∙ sym (low_apart (there a) (here a) c.if-low-x.false)
