-- No word, a word that is no name, and a name.
use Rattle.std.proofs.Common.{sym, ◌∙◌}
use Rattle.line.proofs.Heads.{next_words, next_none, name_none, name_good, name_bad}
use Rattle.line_head.proofs.name_word.Goals as goal

pub returns-in_default : goal.returns-in_default
returns-in_default c = (name_none (next_none _ _ c.in_default.ensures), tt)

pub returns-then-not-is_asked : goal.returns-then-not-is_asked
returns-then-not-is_asked c =
    (name_bad (next_words c.in-Some.ensures) (sym c.if-not-is_asked.true ∙ c.is_asked.ensures), tt)

pub returns : goal.returns
returns c = (
  name_good (next_words c.in-Some.ensures) (sym c.if-not-is_asked.false ∙ c.is_asked.ensures)
      c.type_word.ensures.0,
  c.type_word.ensures.1,
)
