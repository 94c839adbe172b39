-- What loading gives of what the line left in the buffers, or the refusal that reading it told.
use mathlib.Core.Path.{ap, ◌∙◌}
use Rattle.lending.specs.Rest.{bare}
use Rattle.board.specs.Promise.{model_of, given_as}
use Rattle.fetching.proofs.Laws.{taken_loads, refused_loads}
use Rattle.fetching.proofs.load_line.Goals as goal

pub returns-clause-value : goal.returns-clause-value
returns-clause-value c =
    let a = c.args in
    c.load.ensures.value
    ∙ ap given_as
    (taken_loads (bare (model_of a.board)) a.line.now c.read_line.ensures c.in_default.is c.bare_name.ensures)

pub returns-in-Err-clause-value : goal.returns-in-Err-clause-value
returns-in-Err-clause-value c =
    let a = c.args in
    c.refused.ensures.value
    ∙ ap given_as (refused_loads (bare (model_of a.board)) a.line.now c.read_line.ensures c.in-Err.is)
