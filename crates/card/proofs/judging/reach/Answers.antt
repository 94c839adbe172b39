-- `card::judging::reach` meets its contract: an octave or a V_Lr too large, or a value that is not finite, draws 10.
use Rattle.std.proofs.Common.{◌≡◌, sym, ap, ◌∙◌, Some, rules}
use Rattle.drawn.specs.OfWorking.Work.{worked_of}
use Rattle.drawn.specs.OfLoading.Numbers.{product}
use Rattle.settings.specs.OfOctaves.inner.Second.{second_of}
use Rattle.drawn.proofs.OfLoading.Product.{product_above, mlf_positive}
use Rattle.card.proofs.Chain.{not_all, taken}
use Rattle.card.proofs.judging.reach.Goals as goal
use Rattle.card.proofs.judging.reach.Goals.{After-all_finite}

pub second_of-requires : goal.second_of-requires
second_of-requires c =
    let g = c.requires.good_mlf in product_above _ _ (mlf_positive c.args.x.now g) g.least c.requires.x_value

second : (c : After-all_finite) → second_of (product c.args.x.now) ≡ Some c.in_ok-second.second
second c = search rules

pub returns-then-not-all_finite : goal.returns-then-not-all_finite
returns-then-not-all_finite c =
    not_all c.args.x.now _ (second c.before) (sym c.is_knee.ensures ∙ c.if-not-is_knee.false) _
    (c.work-w.ensures ∙ ap worked_of c.parameters.ensures) (sym c.all_finite.ensures ∙ c.if-not-all_finite.true)

pub returns : goal.returns
returns c =
    taken c.args.x.now _ (second (goal.at.returns c).After-all_finite)
    (sym c.is_knee.ensures ∙ c.if-not-is_knee.false) _ (c.work-w.ensures ∙ ap worked_of c.parameters.ensures) _ _ _ _
    c.nanovolts-octave.ensures c.microvolts-raised.ensures c.has_leads.ensures c.card.ensures
    (sym c.all_finite.ensures ∙ c.if-not-all_finite.false)
