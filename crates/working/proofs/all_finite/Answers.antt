-- `working::all_finite` meets its contract: the iterator yields the fifteen values in their row.
use Rattle.std.proofs.Common.{ap, ◌∙◌, rules, tests}
use Rattle.std.specs.List.{list_all}
use Rattle.std.specs.Float.Ieee.Scale.{finite}
use Rattle.std.proofs.lemmas.Iterator.{YieldsList-from_slice}
use Rattle.std.proofs.lemmas.Iterator.Search.{all_from_yields_List}
use Rattle.working.proofs.all_finite.Goals as goal

pub returns : goal.returns
returns c =
    all_from_yields_List finite _ _ c.all.result c.all.ensures.ran (YieldsList-from_slice c.values.result cc)
    (λ x b q k. search (rules, tests))
    ∙ ap (list_all finite) c.values.ensures
