-- Blank, or by the first byte.
use Rattle.std.proofs.Common.{rules, arith}
use Rattle.joining.proofs.Kept.{kind_blank, kind_none, kind_comment, kind_more, kind_model}
use Rattle.joining.proofs.kind_of.Goals as goal

pub returns-then-is_empty : goal.returns-then-is_empty
returns-then-is_empty c = search (rules, kind_blank)

pub returns-in-empty : goal.returns-in-empty
returns-in-empty c = kind_none _ (omega arith)

pub returns-in-empty-2 : goal.returns-in-empty-2
returns-in-empty-2 c = search (rules, kind_comment)

pub returns-in-43 : goal.returns-in-43
returns-in-43 c = search (rules, kind_more)

pub returns-in_default : goal.returns-in_default
returns-in_default c = search (rules, kind_model)
