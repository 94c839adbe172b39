-- Nothing, as many bytes as a name has or fewer, and more.
use Rattle.std.proofs.Common.{◌∙◌, rules}
use borrow.Author.Tests.{lt-leb}
use Rattle.name.proofs.Laws.{asked_none, asked_long, asked_run}
use Rattle.name.proofs.is_asked.Goals as goal

pub returns-then-is_empty : goal.returns-then-is_empty
returns-then-is_empty c = asked_none c.args.x.now (search rules)

pub returns-then-x-le-LENGTH : goal.returns-then-x-le-LENGTH
returns-then-x-le-LENGTH c =
    asked_run c.args.x.now (search rules) c.if-x-le-LENGTH.true c.leading.ensures

pub returns-else-x-le-LENGTH : goal.returns-else-x-le-LENGTH
returns-else-x-le-LENGTH c =
    lt-leb _ _ c.if-x-le-LENGTH.false ∙ asked_long c.args.x.now (search rules) c.if-x-le-LENGTH.false
