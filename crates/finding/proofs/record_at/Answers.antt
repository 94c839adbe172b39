-- The part between the place and the end of the card's record, or none.
use Rattle.std.proofs.Common.{◌≡◌, refl, ◌∙◌, ap, ◌*◌, ◌≤◌, ◌^◌, arith, rules}
use Rattle.directory.specs.Format.{most_words, version, words_of}
use Rattle.finding.proofs.HandingOut.{words_before, hands_none, hands_short, hands_record}
use Rattle.finding.proofs.record_at.Goals as goal
use Rattle.finding.proofs.record_at.Goals.{After-width-words, Else-cards-k}

wide : (c : After-width-words) → c.width-words.result ≡ words_of (version c.args.library.now)
wide c = c.width-words.ensures.0 ∙ ap words_of c.u16_at.ensures

before_k : (c : Else-cards-k) → c.width-words.result * c.args.k ≤ most_words * 2 ^ 16
before_k c = words_before c.width-words.ensures.1 (search rules)

pub overflow_mul-at-2 : goal.overflow_mul-at-2
overflow_mul-at-2 c = omega (arith, before_k (goal.at.overflow_mul-at-2 c).Else-cards-k)

pub overflow_mul-at-3 : goal.overflow_mul-at-3
overflow_mul-at-3 c = omega (arith, before_k (goal.at.overflow_mul-at-3 c).Else-cards-k)

pub overflow_add-at-2 : goal.overflow_add-at-2
overflow_add-at-2 c = omega (arith, before_k (goal.at.overflow_add-at-2 c).Else-cards-k)

pub overflow_add-end : goal.overflow_add-end
overflow_add-end c = omega (arith, before_k (goal.at.overflow_add-end c).Else-cards-k)

pub returns-then-cards-k : goal.returns-then-cards-k
returns-then-cards-k c =
    hands_none c.args.library c.args.k c.u16_at-cards.ensures
    (wide (goal.at.returns-then-cards-k c).After-width-words) c.if-cards-k.true refl refl

pub returns-then-library-end : goal.returns-then-library-end
returns-then-library-end c =
    hands_short c.args.library c.args.k c.u16_at-cards.ensures
    (wide (goal.at.returns-then-library-end c).After-width-words) c.if-cards-k.false refl refl
    c.if-library-end.true refl refl

pub returns : goal.returns
returns c =
    hands_record c.args.library c.args.k c.u16_at-cards.ensures (wide (goal.at.returns c).After-width-words)
    c.if-cards-k.false refl refl c.if-library-end.false refl refl
