-- A return at the end, nothing, and any other line.
use Rattle.std.proofs.Common.{rules, arith}
use Rattle.joining.proofs.Kept.{bare_none, bare_return, bare_other}
use Rattle.joining.proofs.bare.Goals as goal

pub returns-in-13 : goal.returns-in-13
returns-in-13 c = bare_return _ (search rules)

pub returns-in_default : goal.returns-in_default
returns-in_default c = bare_none _ (omega arith)

pub returns-in_default-2 : goal.returns-in_default-2
returns-in_default-2 c = bare_other _ (search rules)
