-- What totals are compared by: the sum of all of them, and the transistors of a board without their numbers.
use Rattle.std.specs.Prelude.{List, map, ℕ, ℤ}
use Rattle.card.specs.declared.WorkedCard.{WorkedCard}
use Rattle.model.specs.Board.{Board}
use Rattle.model.specs.Model.{cards_of, transistors_of}
use Rattle.model.specs.Desk.{Standing}
use Rattle.totals.specs.Flow.{sum_over}
use Rattle.days.specs.Stands.{standing_in}

unfoldable pub sum_all : List ℤ → ℤ
unfolding sum_over
sum_all l = sum_over (λ (x : ℤ). x) l

-- what a transistor counts by: its card and its nodes, and no number
pub record Fitted : Type 0 where
  pub worked : WorkedCard
  pub nodes : List ℕ

abbrev pub fitted_of : Standing → Fitted
fitted_of t = record { worked = t.worked; nodes = t.nodes }

abbrev pub fitted_in : Board → List Fitted
fitted_in b = map fitted_of (standing_in (cards_of b) (transistors_of b))
