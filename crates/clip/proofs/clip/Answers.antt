-- `clip::clip` meets its contract: bytes of neither length are refused.
use Rattle.std.proofs.Common.{sym, ◌∙◌}
use Rattle.clip.proofs.Taken.{no_record, clips_refused}
use Rattle.clip.proofs.clip.Goals as goal

pub returns-else-is_narrow : goal.returns-else-is_narrow
returns-else-is_narrow c =
    clips_refused
    (no_record c.args.bytes.now (sym c.is_wide.ensures ∙ c.if-is_wide.false)
    (sym c.is_narrow.ensures ∙ c.if-is_narrow.false))
