-- `apart::term_8` meets its contract: nothing where its value is 0, else its T's over its sum.
use lib.Dec.{lit<, lit≤}
use borrow.Author.Rules.{rules}
use Rattle.terms.proofs.Eighth.{idle, over_sum_lem}
use Rattle.terms.proofs.Readied.{splits, plain_octave, doubled_octave_lem, own_reverse, own_knee}
use Rattle.terms.proofs.Readied.{plain_junction, doubled_junction, scalable, ticks_at_lem, sum_at}
use Rattle.apart.proofs.term_8.Goals as goal

pub returns-then-s-eq0 : goal.returns-then-s-eq0
returns-then-s-eq0 c = idle _ _ c.if-s-eq0.true

pub exponential-plain-requires : goal.exponential-plain-requires
exponential-plain-requires c = plain_junction c.requires (lit< tt) (lit< tt)

pub exponential-doubled-requires : goal.exponential-doubled-requires
exponential-doubled-requires c = doubled_junction c.requires (lit< tt) (lit< tt)

pub faint-plus-requires : goal.faint-plus-requires
faint-plus-requires c =
    scalable (splits c.requires.ready.worked).reverse c.exponential-plain.ensures 0 (lit≤ tt)

pub sum_of-sum-requires : goal.sum_of-sum-requires
sum_of-sum-requires c =
    (c.exponential-doubled.ensures.sized, (own_knee c.requires.ready).sized)

pub returns : goal.returns
returns c =
    let h = c.requires.ready in
    over_sum_lem _ _ c.if-s-eq0.false
    (ticks_at_lem (splits h.worked).reverse c.exponential-plain.ensures (plain_octave h) c.faint-plus.ensures)
    (own_reverse h) (sum_at c.exponential-doubled.ensures (doubled_octave_lem h) (own_knee h) c.sum_of-sum.ensures)
    c.over_sum.ensures
