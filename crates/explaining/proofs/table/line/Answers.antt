-- The part of that number, and no bytes where there are not so many.
use Rattle.std.proofs.Common.{◌≡◌, ℕ, List, [], Bor, Option, Some, None, sym, ap, ◌∙◌, rules, tests}
use lib.Dec.{eqb}
use Rattle.std.specs.Option.{UnwrapsOrElse, option_map}
use Rattle.std.proofs.lemmas.Iterator.Splits.{YieldsList-from_slice_split}
use Rattle.std.proofs.lemmas.Iterator.Consumers.{nth_from_yields_List}
use Rattle.spelling.specs.Bytes.{newline}
use Rattle.explaining.proofs.Texts.{held, line_is_part}
use Rattle.explaining.proofs.table.line.Goals as goal

found : (r : Option (Bor (List ℕ))) (Empty : Bor (List ℕ) → Type 0) {x : Bor (List ℕ)} → UnwrapsOrElse r Empty x
    → (Empty x → x.now ≡ []) → x.now ≡ held (option_map (λ (x : Bor (List ℕ)). x.now) r)
found (Some y) Empty u empty = ap (λ (x : Bor (List ℕ)). x.now) u
found None Empty u empty = empty u

pub returns : goal.returns
returns c =
    found c.nth.result _ c.unwrap_or_default.ensures (λ e. e)
    ∙ ap held (nth_from_yields_List c.nth.result _ c.args.k c.nth.ensures.ran
    (YieldsList-from_slice_split _ (λ b. eqb b newline) c.args.text.now c.split.ensures.rest c.split.ensures.done
    c.split.ensures.closure (λ x b q k. search (rules, tests))))
    ∙ sym (line_is_part c.args.k c.args.text.now)
