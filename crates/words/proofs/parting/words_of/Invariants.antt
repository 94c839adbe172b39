use Rattle.std.proofs.Common.{length, ◌-◌}
use Rattle.words.proofs.Parts.{Parted}
use Rattle.words.proofs.parting.words_of.Given as goal

-- what is left of the line has the words that are not kept yet
abbrev pub invariant-loop-span : goal.invariant-loop-span
invariant-loop-span l = Parted l.line l.words l.at

abbrev pub decreases-loop-span : goal.decreases-loop-span
decreases-loop-span l = length l.line - l.at
