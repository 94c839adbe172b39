-- The words of the two versions that are known, and 0 for every other.
use Rattle.std.proofs.Common.{sym, ap, arith, rules}
use Rattle.directory.specs.Format.{words_of}
use Rattle.directory.proofs.Headers.{other_version}
use Rattle.directory.proofs.width.Goals as goal

pub returns-in-1 : goal.returns-in-1
unfolding words_of
returns-in-1 c = (sym (ap words_of c.in-1.is), omega arith)

pub returns-in-2 : goal.returns-in-2
unfolding words_of
returns-in-2 c = (sym (ap words_of c.in-2.is), omega arith)

pub returns-in_default : goal.returns-in_default
returns-in_default c = (sym (other_version _ (search rules) (search rules)), search rules)
