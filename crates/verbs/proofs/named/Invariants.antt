use Rattle.verbs.proofs.Found.{Ahead}
use Rattle.verbs.proofs.named.Given as goal

-- the entries that are left tell
abbrev pub invariant-loop-text : goal.invariant-loop-text
invariant-loop-text l = Ahead l.word l.text-items l.text-index
