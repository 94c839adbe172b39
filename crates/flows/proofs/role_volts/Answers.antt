-- `role_volts` reads the voltage of every role.
use Prim.Native.Nat.{ℕ}
use native.Mathlib.Omega.{arith}
use lib.ListN.{get_or}
use borrow.Author.Rules.{rules}
use Rattle.dealing.specs.OfRows.laws.Filled.{filled_none, filled_more, filled_map}
use Rattle.flows.proofs.role_volts.Goals as goal

pub loop-k-init : goal.loop-k-init
loop-k-init c = filled_none (search rules)

pub volt-requires : goal.volt-requires
volt-requires c = c.requires.0.wired c.loop-k.k

pub loop-k-preserved : goal.loop-k-preserved
loop-k-preserved c = let h = c.requires.1 in filled_more _ (omega arith) c.volt.ensures c.loop-k.invariant

pub returns : goal.returns
returns c =
    filled_map (λ (n : ℕ). get_or c.args.volts.now n 0) 0 c.args.on.now c.requires.1 (omega arith) c.loop-k.invariant
