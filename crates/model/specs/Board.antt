-- The board as flat lists of numbers: the cards by their places, voltages and totals by node, the transistors by their
-- places, a set of places for each node, and the currents that the transistors hold. And a board with the answer to a
-- call.
use Rattle.std.specs.Prelude.{Bool, List, ℕ, ℤ}
use Rattle.model.specs.declared.Answer.{Answer}

pub record Board : Type 0 where
  pub numbers : List ℕ
  pub powers : List ℕ
  pub ticks : List ℕ
  pub switches : List Bool
  pub names : List ℕ
  pub held : List ℕ
  pub next : ℕ
  pub volts : List ℕ
  pub totals : List ℤ
  pub issues : List ℕ
  pub cards : List ℕ
  pub seats : List ℕ
  pub nodes : List ℕ
  pub naming : List ℕ
  pub currents : List ℤ

-- the numbers of an answer stand beside it: ticks, which are 0 where it has none, and a list for a lent buffer, which
-- is empty where it has none
pub record Answered : Type 0 where
  pub board : Board
  pub answer : Answer
  pub ticks : List ℤ
  pub list : List ℕ
