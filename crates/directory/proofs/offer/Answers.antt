-- `directory::offer` meets its contract: the tests of 1 in their order, then the names.
use Rattle.std.proofs.Common.{arith}
use Rattle.directory.proofs.Headers.{few}
use Rattle.directory.proofs.Offers.{offer_version, offer_names, offer_count, offer_words, offer_judged_lem}
use Rattle.directory.proofs.offer.Goals as goal

pub returns-then-k-eq0 : goal.returns-then-k-eq0
returns-then-k-eq0 c =
    offer_version _ c.args.names.now c.args.words.now c.width-k.ensures.0 c.if-k-eq0.true

pub returns-then-names-n : goal.returns-then-names-n
returns-then-names-n c =
    offer_names _ c.args.names.now c.args.words.now c.width-k.ensures.0 c.if-k-eq0.false c.if-names-n.true

pub returns-then-n-gt-MOST_CARDS : goal.returns-then-n-gt-MOST_CARDS
returns-then-n-gt-MOST_CARDS c =
    offer_count _ c.args.names.now c.args.words.now c.width-k.ensures.0 c.if-k-eq0.false c.if-names-n.false
    c.if-n-gt-MOST_CARDS.true

pub overflow_mul-k : goal.overflow_mul-k
overflow_mul-k c = omega (arith, few c.width-k.ensures.1 c.if-n-gt-MOST_CARDS.false)

pub returns-then-words-k : goal.returns-then-words-k
returns-then-words-k c =
    offer_words _ c.args.names.now c.args.words.now c.width-k.ensures.0 c.if-k-eq0.false c.if-names-n.false
    c.if-n-gt-MOST_CARDS.false c.if-words-k.true

pub returns : goal.returns
returns c =
    offer_judged_lem _ c.args.names.now c.args.words.now c.width-k.ensures.0 c.if-k-eq0.false c.if-names-n.false
    c.if-n-gt-MOST_CARDS.false c.if-words-k.false c.judge.ensures
