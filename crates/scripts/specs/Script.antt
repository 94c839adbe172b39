-- A script obeyed from a fresh board: the state after its lines.
use Rattle.std.specs.Prelude.{false, List, [], ◌∷◌, ℕ, ℤ}
use Rattle.script.specs.declared.Command.{Command}
use Rattle.lending.specs.Rest.{State}
use Rattle.lending.specs.Lending.{fresh_lent}
use Rattle.obeying.specs.Obeyed.{obeyed_of}

-- a line with the command that it was read as, the bytes that were spelled, and what the shelf held: all of them any
pub record Line : Type 0 where
  pub command : Command
  pub bytes : List ℕ
  pub spelled : List ℕ
  pub shelf : List ℕ

-- the state after a fresh call over these slices and the lines of a script that may not poke, the last line first
unfoldable pub script_after : List ℤ → List ℤ → List Line → State
unfolding obeyed_of fresh_lent
script_after volts totals [] = (fresh_lent volts totals).state
script_after volts totals (l ∷ ls) =
    (obeyed_of (script_after volts totals ls) l.shelf false l.command l.bytes l.spelled).state
