-- A head that is refused, keys that are, and what comes after both.
use Rattle.std.proofs.lemmas.Result.{err_from_is_err_and}
use Rattle.line.proofs.Ends.{refused_leaves, same_verdict, head_refused, from_keys_lem}
use Rattle.line_read.proofs.read_line.Goals as goal

pub returns-in_err-head : goal.returns-in_err-head
returns-in_err-head c =
    let a = c.args in
    let p = err_from_is_err_and c.from_residual.result c.from_residual.ensures.1 in
    let e = head_refused a.line.now a.name.now a.rec.now c.in_err-head.ensures.0 in
    rw (p.1, p.2) (refused_leaves a.name.now a.rec.now e)

pub returns-in_err-take_keys : goal.returns-in_err-take_keys
returns-in_err-take_keys c =
    let a = c.args in
    let r = c.from_residual-in_err-take_keys in
    let p = err_from_is_err_and r.result r.ensures.1 in
    let e =
    from_keys_lem a.line.now a.name.now a.rec.now c.in_ok-head.ensures.0 c.defaults-words.ensures
    c.in_err-take_keys.ensures in
    rw (p.1, p.2) (refused_leaves a.name.now a.rec.now e)

pub returns : goal.returns
returns c =
    let a = c.args in
    let e =
    from_keys_lem a.line.now a.name.now a.rec.now c.in_ok-head.ensures.0 c.defaults-words.ensures
    c.in_ok-take_keys.ensures in
    same_verdict e c.finish.ensures
