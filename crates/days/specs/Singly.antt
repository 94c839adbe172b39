-- A list of pairs moved one after the other, each by a call of its own.
use Rattle.std.specs.Prelude.{◌≡◌, List, [], ◌∷◌, ℤ}
use Rattle.model.specs.Desk.{Desk, done, move_one, step}

-- the desk that the single moves leave
unfoldable pub singly : Desk → List ℤ → Desk
singly d [] = d
singly d (n ∷ []) = d
singly d (n ∷ v ∷ rest) = singly (step d (move_one n v)).desk rest

-- every single move is carried out: none on the way is refused
unfoldable pub AllDone : Desk → List ℤ → Type 0
AllDone d [] = Unit {0}
AllDone d (n ∷ []) = Unit {0}
AllDone d (n ∷ v ∷ rest) = ((step d (move_one n v)).reply ≡ done) × AllDone (step d (move_one n v)).desk rest
