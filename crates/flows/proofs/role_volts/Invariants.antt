-- The voltages of the roles before the turn's own are read.
use Prim.Native.Nat.{ℕ}
use lib.ListN.{get_or}
use Rattle.totals.specs.OfTerms.Rows.{roles}
use Rattle.dealing.specs.OfRows.laws.Filled.{Filled}
use Rattle.flows.proofs.role_volts.Given as goal

abbrev pub invariant-loop-k : goal.invariant-loop-k
invariant-loop-k l = Filled 0 roles (λ (i : ℕ). get_or l.volts (get_or l.on i 0) 0) l.k l.v
