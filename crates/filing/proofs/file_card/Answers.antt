-- A name that stands already, one card too many, and for both.
use mathlib.Core.Path.{◌≡◌}
use mathlib.Core.List.{◌++◌}
use Rattle.bytes_le.specs.Le.{word_bytes, bytes_of}
use Rattle.name.proofs.Laws.{words_in}
use Rattle.filing.proofs.Cards.{card_twice, card_many, card_filed}
use borrow.Author.Rules.{rules}
use Rattle.filing.proofs.file_card.Goals as goal
use Rattle.filing.proofs.file_card.Goals.{After-holds-twice}

-- the name by its two words
spelled : (c : After-holds-twice) →
    c.args.name.now ≡ bytes_of word_bytes c.u64_at-low.result ++ bytes_of word_bytes c.u64_at-high.result
spelled c = (words_in c.args.name.now (search rules) c.u64_at-low.ensures c.u64_at-high.ensures).bytes

pub returns-then-twice : goal.returns-then-twice
returns-then-twice c =
    let a = c.args in
    card_twice a.rec.now a.names.now a.records.now a.n (spelled (goal.at.returns-then-twice c).After-holds-twice)
    c.filed.ensures c.holds-twice.ensures c.if-twice.true

pub returns-then-n-ge-MOST_CARDS : goal.returns-then-n-ge-MOST_CARDS
returns-then-n-ge-MOST_CARDS c =
    let a = c.args in
    card_many a.rec.now a.names.now a.records.now a.n
    (spelled (goal.at.returns-then-n-ge-MOST_CARDS c).After-holds-twice) c.filed.ensures c.holds-twice.ensures
    (search rules) c.if-n-ge-MOST_CARDS.true

-- after both copies
pub returns : goal.returns
returns c =
    let a = c.args in
    card_filed a.rec.now a.names.now a.records.now a.n (spelled (goal.at.returns c).After-holds-twice) c.filed.ensures
    c.holds-twice.ensures c.if-twice.false c.if-n-ge-MOST_CARDS.false c.copy.ensures c.copy-2.ensures
