-- The numbers that calls give, and lists of numbers that fall.
use Rattle.std.specs.Prelude.{Bool, false, List, [], ◌∷◌, ℕ, ◌≤◌, ◌<◌, eqb}
use Rattle.model.specs.declared.Answer.{Answer}
use Rattle.model.specs.declared.Answer.TheVariants.{Issue, Done, Node, Currents, Listed, Summed, Refused}
use Rattle.given.specs.Arguments.{issues_most}
use Rattle.given.specs.Arguments.{issue_of}
use Rattle.model.specs.Desk.{Call, load, place, move, lift, withdraw, look_up, node, currents, who, sum_up}
use Rattle.model.specs.Model.{answered, board_after}

-- the number that a call gives: only loading and placing give one
abbrev pub with_number : Answer → List ℕ → List ℕ
with_number (Issue n) earlier = n ∷ earlier
with_number Done earlier = earlier
with_number (Node v t) earlier = earlier
with_number Currents earlier = earlier
with_number (Listed n) earlier = earlier
with_number (Summed t c s) earlier = earlier
with_number (Refused f) earlier = earlier

abbrev pub gives : Call → Answer → List ℕ → List ℕ
gives (load name bytes) a earlier = with_number a earlier
gives (place card nodes sized) a earlier = with_number a earlier
gives (move pairs) a earlier = earlier
gives (lift n) a earlier = earlier
gives (withdraw n) a earlier = earlier
gives (look_up name) a earlier = earlier
gives (node n) a earlier = earlier
gives (currents n) a earlier = earlier
gives (who n room) a earlier = earlier
gives (sum_up n) a earlier = earlier

-- the numbers given by calls from a fresh board, the last first
unfoldable pub given_by : List Call → List ℕ
given_by [] = []
given_by (c ∷ cs) = gives c (answered (board_after cs) c).answer (given_by cs)

-- each number is below the one before it in the list, the first below top, and all are from 1 to 65,535
pub data Falls : ℕ → List ℕ → Type 0 where
  end : {top : ℕ} → Falls top []
  next : {top n : ℕ} {rest : List ℕ} → n < top → 1 ≤ n → n ≤ issues_most → Falls n rest → Falls top (n ∷ rest)

-- a call that asks to lift the transistor k
abbrev pub asks_to_lift : ℕ → Call → Bool
asks_to_lift k (load name bytes) = false
asks_to_lift k (place card nodes sized) = false
asks_to_lift k (move pairs) = false
asks_to_lift k (lift n) = eqb (issue_of n) k
asks_to_lift k (withdraw n) = false
asks_to_lift k (look_up name) = false
asks_to_lift k (node n) = false
asks_to_lift k (currents n) = false
asks_to_lift k (who n room) = false
asks_to_lift k (sum_up n) = false
