-- The whole line, once every number has a form.
use Rattle.keyed.specs.inner.Parts.{KeysPut}
use Rattle.keys.specs.Keys.{key_count}
use Rattle.line_write.proofs.Lines.{same_verdict, good_text_lem, whole_line}
use Rattle.line_write.proofs.write_good.Goals as goal

pub returns : goal.returns
returns c =
    let a = c.args in
    let v : KeysPut _ _ _ _ key_count _ = rw c.in-Some.is at c.put_keys.ensures in
    let whole = whole_line a.name.now a.rec.now c.word-pnp.ensures c.put_head-at.ensures.1 v in
    same_verdict (good_text_lem a.name.now a.rec.now a.line.now whole v.forms) c.leave.ensures
