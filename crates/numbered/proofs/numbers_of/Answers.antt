-- The numbers of the words passed.
use Rattle.std.proofs.Common.{◌≡◌, refl, ap, ◌∙◌, arith, rules}
use mir.Syntax.{w64}
use mir.ValLaws.{to_z-of_z}
use Rattle.numbered.specs.Numbers.{most_numbers, numbers_to}
use Rattle.numbered.proofs.Numbered.{value_told, value_more}
use Rattle.numbered.proofs.numbers_of.Goals as goal

pub loop-k-init : goal.loop-k-init
unfolding numbers_to
loop-k-init c = refl

pub loop-k-preserved : goal.loop-k-preserved
loop-k-preserved c =
    value_more _ _ _ _ _ c.loop-k.invariant
    (to_z-of_z w64 c.unwrap_or.result (search rules)
    ∙ value_told c.number.ensures c.word.ensures _ c.unwrap_or.ensures)

pub returns : goal.returns
returns c =
    let e : c.loop-k.k ≡ most_numbers = omega arith in c.loop-k.invariant ∙ ap (numbers_to _ _) e
