-- `finding::find` meets its contract: the part between the place and the end of the record that is located.
use Rattle.std.proofs.Common.{◌≡◌, sym, ap, ◌∙◌, arith}
use Rattle.refusal.specs.Order.{tells_one, yes}
use Rattle.finding.specs.Answers.{locating, verdict_located}
use Rattle.finding.proofs.Locating.{located_within}
use Rattle.finding.proofs.find.Goals as goal
use Rattle.finding.proofs.find.Goals.{In-Ok}

located : (c : In-Ok) → locating c.args.library.now c.args.name.now ≡ yes (c.in-Ok.p.at, c.in-Ok.p.size)
located c = sym (tells_one _ _ c.locate.ensures) ∙ ap verdict_located c.in-Ok.is

pub overflow_add-result : goal.overflow_add-result
overflow_add-result c = let w = (located_within _ _ (located (goal.at.overflow_add-result c).In-Ok)).inside in omega arith

pub slice_bounds-result-end : goal.slice_bounds-result-end
slice_bounds-result-end c =
    let w = (located_within _ _ (located (goal.at.slice_bounds-result-end c).In-Ok)).inside in omega arith
