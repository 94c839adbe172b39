use Rattle.std.proofs.Common.{length}
use Rattle.directory.specs.Format.{words_in}
use Rattle.name.proofs.Laws.{Filled}
use Rattle.copying.proofs.load.Given as goal

-- the buffer starts with the words of the pieces passed
abbrev pub invariant-loop-i : goal.invariant-loop-i
invariant-loop-i l = Filled (words_in l.src) l.initial.dst l.dst (length l.yielded)
