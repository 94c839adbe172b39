use Rattle.std.proofs.Common.{◌∙◌, rules, tests}
use Rattle.std.proofs.lemmas.Iterator.{YieldsList-from_slice}
use Rattle.std.proofs.lemmas.Iterator.Search.{all_from_yields_List}
use Rattle.spelling.specs.Number.{is_digit}
use Rattle.spelling.proofs.ByteLoops.{digits_all}
use Rattle.spelling.proofs.numeral.all_digits.Goals as goal

pub returns : goal.returns
returns c =
    all_from_yields_List is_digit _ _ _ c.all.ensures.ran (YieldsList-from_slice c.args.s.now c.iter.ensures.rest)
    (λ y b q k. search (rules, tests))
    ∙ digits_all c.args.s.now
