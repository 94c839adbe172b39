use Rattle.std.proofs.Common.{arith, rules, refl, ap, ◌∙◌, ◌≡◌, ℕ, eqb, get_or}
use Rattle.given.specs.Lists.{any_of}
use Rattle.summary.specs.inner.Told.{cards_below}
use Rattle.summary.proofs.Walked.{walked_none, walked_more, next_upto}
use Rattle.summary.proofs.is_again.Goals as goal
use Rattle.summary.proofs.is_again.Goals.{then-card-cards, else-card-cards}

pub loop-j-init : goal.loop-j-init
unfolding any_of
loop-j-init c =
    (next_upto c.next_in-j.ensures (omega arith) c.requires.1, walked_none _ _ _ c.next_in-j.ensures refl)

pub loop-j-preserved : goal.loop-j-preserved
unfolding any_of
loop-j-preserved c = (
  next_upto c.next_in-j-in-loop-j.ensures (omega arith) c.requires.1,
  walked_more _ _ _ c.loop-j.invariant.1 (let s = c.requires.0 in omega arith) c.next_in-j-in-loop-j.ensures
      (λ e. elim c.if-card-cards.branch [
        | then-card-cards w ↦ search rules
        | else-card-cards w ↦ search rules
      ]),
)

pub returns : goal.returns
returns c =
    let a = c.args in
    let e : c.loop-j.j ≡ a.i = omega arith in
    c.loop-j.invariant.1.is
    ∙ ap (λ (k : ℕ). any_of (eqb (get_or a.cards.now a.i 0)) (cards_below a.cards.now a.set k)) e
