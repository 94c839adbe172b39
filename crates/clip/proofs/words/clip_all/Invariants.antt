-- The loop keeps what the words before the turn's own give.
use Rattle.clip.proofs.Turn.{Passed}
use Rattle.clip.proofs.words.clip_all.Given as goal

abbrev pub invariant-loop-i : goal.invariant-loop-i
invariant-loop-i l = Passed l.words l.bytes l.numbers l.mask l.i
