-- A word that is too long, one that has a number, and any other.
use Rattle.std.proofs.Common.{sym, ◌∙◌}
use Rattle.packing.proofs.Packs.{packed_long, packed_asked, packed_other}
use Rattle.packing.proofs.packed.Goals as goal

pub returns-then-word-gt-WORD_BYTES : goal.returns-then-word-gt-WORD_BYTES
returns-then-word-gt-WORD_BYTES c = packed_long _ c.if-word-gt-WORD_BYTES.true

pub returns-then-is_asked : goal.returns-then-is_asked
returns-then-is_asked c =
    packed_asked _ c.if-word-gt-WORD_BYTES.false (sym c.is_asked.ensures ∙ c.if-is_asked.true) c.u64_at.ensures

pub returns-else-is_asked : goal.returns-else-is_asked
returns-else-is_asked c = packed_other _ (sym c.is_asked.ensures ∙ c.if-is_asked.false)
