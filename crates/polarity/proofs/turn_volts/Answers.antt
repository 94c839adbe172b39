-- `turn_volts` turns over the voltage of every role, or none.
use mathlib.Core.Path.{refl, sym, ap, ◌∙◌}
use mathlib.Core.Bool.{Bool, true}
use mathlib.Core.List.{map}
use native.Mathlib.Omega.{arith}
use borrow.Author.Rules.{rules}
use Rattle.outcome.specs.OfRows.laws.Filled.{filled_none, filled_more, filled_map}
use Rattle.polarity.specs.inner.Turning.{kept_turned}
use Rattle.polarity.proofs.Turned.{map_same}
use Rattle.polarity.proofs.turn_volts.Goals as goal

pub returns-then-not-pnp : goal.returns-then-not-pnp
returns-then-not-pnp c = map_same _ ∙ ap (λ (b : Bool). map (kept_turned b) c.args.v) (sym c.if-not-pnp.true)

pub loop-k-init : goal.loop-k-init
loop-k-init c = filled_none (search rules)

pub overflow_sub-over : goal.overflow_sub-over
overflow_sub-over c = c.requires.each c.loop-k.k

pub loop-k-preserved : goal.loop-k-preserved
loop-k-preserved c = filled_more _ (omega arith) refl c.loop-k.invariant

pub returns : goal.returns
returns c =
    filled_map (kept_turned true) 0 c.args.v (search rules) (omega arith) c.loop-k.invariant
    ∙ ap (λ (b : Bool). map (kept_turned b) c.args.v) (sym c.if-not-pnp.false)
