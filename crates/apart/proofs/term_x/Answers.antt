-- `apart::term_x` meets its contract, for either EXSUB.
use lib.Dec.{lit<, lit≤}
use Rattle.terms.proofs.Readied.{splits, plain_octave, own_sub, plain_junction, scalable, ticks_at_lem}
use Rattle.apart.proofs.term_x.Goals as goal

pub exponential-requires : goal.exponential-requires
exponential-requires c = plain_junction c.requires (lit< tt) (lit< tt)

pub scaled-requires : goal.scaled-requires
scaled-requires c =
    scalable (splits c.requires.ready.worked).sub c.exponential.ensures 0 (lit≤ tt)

pub returns-then-c : goal.returns-then-c
returns-then-c c =
    let h = c.requires.ready in
    rw c.if-c.true
    (ticks_at_lem (splits h.worked).sub c.exponential.ensures (plain_octave h) c.scaled.ensures)

pub returns-else-c : goal.returns-else-c
returns-else-c c = rw c.if-c.false (own_sub c.requires.ready)
