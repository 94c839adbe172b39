-- `turn_ticks` turns over the ticks of every branch, or none.
use mathlib.Core.Path.{sym, ap, ◌∙◌}
use mathlib.Core.Bool.{Bool, true}
use mathlib.Core.List.{map}
use native.Mathlib.Omega.{arith}
use lib.IntN.{pos}
use borrow.Author.Rules.{rules}
use Rattle.outcome.specs.OfRows.laws.Filled.{filled_none, filled_more, filled_map}
use Rattle.polarity.specs.Polarity.{turned}
use Rattle.polarity.proofs.Turned.{map_same, turned_fits, turned_is}
use Rattle.polarity.proofs.turn_ticks.Goals as goal

pub returns-then-not-pnp : goal.returns-then-not-pnp
returns-then-not-pnp c = map_same _ ∙ ap (λ (b : Bool). map (turned b) c.args.ticks) (sym c.if-not-pnp.true)

pub loop-k-init : goal.loop-k-init
loop-k-init c = filled_none (search rules)

pub overflow_sub-over : goal.overflow_sub-over
overflow_sub-over c = turned_fits c.requires c.loop-k.k

pub loop-k-preserved : goal.loop-k-preserved
loop-k-preserved c = filled_more _ (omega arith) (turned_is c.requires c.loop-k.k) c.loop-k.invariant

pub returns : goal.returns
returns c =
    filled_map (turned true) (pos 0) c.args.ticks (search rules) (omega arith) c.loop-k.invariant
    ∙ ap (λ (b : Bool). map (turned b) c.args.ticks) (sym c.if-not-pnp.false)
