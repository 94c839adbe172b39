-- What loading gives of the record that was found, or the refusal that finding it told.
use mathlib.Core.Path.{ap, ◌∙◌}
use Rattle.lending.specs.Rest.{bare}
use Rattle.board.specs.Promise.{model_of, given_as}
use Rattle.fetching.proofs.Laws.{found_loads, lost_loads}
use Rattle.fetching.proofs.load_named.Goals as goal

pub returns-in-Ok-clause-value : goal.returns-in-Ok-clause-value
returns-in-Ok-clause-value c =
    let a = c.args in
    c.load.ensures.value
    ∙ ap given_as
    (found_loads (bare (model_of a.board)) a.name.now a.library.now c.locate.ensures c.in-Ok.is c.part.ensures)

pub returns-in-Err-clause-value : goal.returns-in-Err-clause-value
returns-in-Err-clause-value c =
    let a = c.args in
    c.refused.ensures.value
    ∙ ap given_as (lost_loads (bare (model_of a.board)) a.name.now a.library.now c.locate.ensures c.in-Err.is)
