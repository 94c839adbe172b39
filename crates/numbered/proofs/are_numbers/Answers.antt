-- Each word is a number.
use Rattle.std.proofs.Common.{◌∙◌, ◌-◌, ℕ, refl, rules}
use Rattle.std.specs.Option.{is_some}
use Rattle.std.proofs.lemmas.Iterator.{YieldsList-from_range}
use Rattle.std.proofs.lemmas.Iterator.Search.{all_from_yields_List}
use Rattle.spelling.specs.Number.{parsed_of}
use Rattle.words.specs.Words.{word_at}
use Rattle.numbered.proofs.Numbered.{all_told}
use Rattle.numbered.proofs.are_numbers.Goals as goal

pub returns : goal.returns
returns c =
    all_from_yields_List (λ (i : ℕ). is_some (parsed_of (word_at c.args.line.now c.args.words i))) _ _ _
    c.all.ensures.ran (YieldsList-from_range 1 c.args.n (c.args.n - 1) refl refl) (λ x b q k. search rules)
    ∙ all_told c.args.line.now c.args.words 1 (c.args.n - 1)
