-- A line that is too long, one that the reader refuses, and a card.
use Rattle.std.proofs.Common.{rules}
use Rattle.std.proofs.lemmas.Result.{err_from_is_err_and}
use Rattle.filing.proofs.Cards.{line_long, line_refused, line_filed}
use Rattle.filing.proofs.file_line.Goals as goal

pub returns-then-line-gt-LONGEST_LINE : goal.returns-then-line-gt-LONGEST_LINE
returns-then-line-gt-LONGEST_LINE c =
    let a = c.args in
    line_long a.line.now a.n a.names.now a.records.now c.if-line-gt-LONGEST_LINE.true

pub returns-in_err-read_line : goal.returns-in_err-read_line
returns-in_err-read_line c =
    let a = c.args in
    let p = err_from_is_err_and c.from_residual.result c.from_residual.ensures.1 in
    let e =
    line_refused a.line.now a.n a.names.now a.records.now c.if-line-gt-LONGEST_LINE.false c.trimmed.ensures
    (search rules) (search rules) c.read_line.ensures c.in_err-read_line.was in
    rw (p.1, p.2) e

pub returns : goal.returns
returns c =
    let a = c.args in
    line_filed a.line.now a.n a.names.now a.records.now c.if-line-gt-LONGEST_LINE.false c.trimmed.ensures
    (search rules) (search rules) c.read_line.ensures c.in_ok-read_line.was c.file_card.ensures
