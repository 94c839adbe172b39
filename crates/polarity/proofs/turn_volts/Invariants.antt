-- The voltages of the roles before the turn's own are turned over.
use Prim.Native.Nat.{ℕ}
use lib.ListN.{get_or}
use mathlib.Core.Bool.{true}
use Rattle.outcome.specs.OfTerms.Rows.{roles}
use Rattle.outcome.specs.OfRows.laws.Filled.{Filled}
use Rattle.polarity.specs.inner.Turning.{kept_turned}
use Rattle.polarity.proofs.turn_volts.Given as goal

abbrev pub invariant-loop-k : goal.invariant-loop-k
invariant-loop-k l = Filled 0 roles (λ (i : ℕ). kept_turned true (get_or l.fn.v i 0)) l.k l.over
