-- A power too low, one in range, and one too high.
use Rattle.std.proofs.Common.{arith, rules}
use Rattle.decimal_read.proofs.Parts.{placed_low, placed_in, placed_out, none_in}
use Rattle.decimal_read.proofs.placed.Goals as goal

pub returns-in_err-q : goal.returns-in_err-q
returns-in_err-q c = let h = c.in_err-q.ensures in none_in c.from_residual.ensures (placed_low _ _ _ _ (omega arith))

pub returns-then-q-lt-POWERS_END : goal.returns-then-q-lt-POWERS_END
returns-then-q-lt-POWERS_END c =
    let h = c.in_ok-q.ensures in (placed_in _ _ _ _ _ h.0 h.1 (search rules), search rules)

pub returns-else-q-lt-POWERS_END : goal.returns-else-q-lt-POWERS_END
returns-else-q-lt-POWERS_END c = let h = c.in_ok-q.ensures in (placed_out _ _ _ _ c.in_ok-q.q h.0 h.1 (search rules), tt)
