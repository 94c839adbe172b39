-- What is held is what is had: after any calls, for whoever stands.
use mathlib.Core.Path.{◌≡◌}
use Prim.Native.Nat.{ℕ}
use mathlib.Core.List.{List}
use Rattle.totals.specs.Flow.{ticks_at}
use Rattle.model.specs.Desk.{Call}
use Rattle.model.specs.Model.{transistor_at, worked_on, volts_of, board_after}
use Rattle.model.proofs.Invariant.{invariant_after, held_is}

-- the currents that a transistor holds are those of its very card on its nodes at the present voltages
pub held_are_currents : (calls : List Call) (i : ℕ) → ((transistor_at (board_after calls) i).issue ≡ 0 → ⊥) →
    (transistor_at (board_after calls) i).currents
    ≡ ticks_at (worked_on (board_after calls) i) (transistor_at (board_after calls) i).nodes (volts_of (board_after calls))
held_are_currents calls i stands = held_is (invariant_after calls) i stands
