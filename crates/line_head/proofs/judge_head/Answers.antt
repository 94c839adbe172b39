-- A space first, no word, a word that is not `.model`, and `.model`.
use Rattle.std.proofs.Common.{◌≡◌, false, sym, ◌∙◌}
use Rattle.line.specs.Line.{starts_in_space}
use Rattle.line.proofs.Heads.{next_words, next_none, space_first, no_word, other_word, model_word}
use Rattle.line_head.proofs.judge_head.Goals as goal

pub returns-then-starts_in_space : goal.returns-then-starts_in_space
returns-then-starts_in_space c = (space_first _ (sym c.starts_in_space.ensures ∙ c.if-starts_in_space.true), tt)

pub returns-in_default : goal.returns-in_default
returns-in_default c =
    let plain : starts_in_space c.args.line.now ≡ false = cc in
    (no_word _ plain (next_none _ _ c.in_default.ensures), tt)

pub returns-then-not-is_model : goal.returns-then-not-is_model
returns-then-not-is_model c =
    let plain : starts_in_space c.args.line.now ≡ false = cc in (
      other_word _ plain (next_words c.in-Some.ensures)
          (sym c.if-not-is_model.true ∙ c.is_model.ensures),
      tt,
    )

pub returns : goal.returns
returns c =
    let plain : starts_in_space c.args.line.now ≡ false = cc in (
      model_word _ plain (next_words c.in-Some.ensures)
          (sym c.if-not-is_model.false ∙ c.is_model.ensures) c.name_word.ensures.0,
      c.name_word.ensures.1,
    )
