-- A caller's list of numbers read two by two: a node, and the microvolts that it is moved to.
use Rattle.std.specs.Prelude.{Bool, false, ◌&&◌, ◌||◌, List, [], ◌∷◌, ℕ, ◌*◌, ◌%◌, eqb, leb, length, set, ℤ, nat_abs}
use Rattle.volts.specs.Volts.{off_volts}
use Rattle.totals.specs.Gives.{nodes_most}
use Rattle.given.specs.Arguments.{off_node}

-- the most pairs of a list
abbrev pub pairs_most : ℕ
pairs_most = nodes_most

-- the list is 1 to 32 pairs
abbrev pub are_pairs : List ℤ → Bool
are_pairs l = eqb (length l % 2) 0 && (leb 2 (length l) && leb (length l) (2 * pairs_most))

-- some pair has a node that is not on the board, or a voltage out of range
unfoldable pub some_pair_off : List ℤ → Bool
some_pair_off [] = false
some_pair_off (n ∷ []) = false
some_pair_off (n ∷ v ∷ rest) = (off_node n || off_volts v) || some_pair_off rest

-- a node and its voltage to come
pub record Shift : Type 0 where
  pub node : ℕ
  pub volts : ℤ

unfoldable pub shifts_of : List ℤ → List Shift
shifts_of [] = []
shifts_of (n ∷ []) = []
shifts_of (n ∷ v ∷ rest) = record { node = nat_abs n; volts = v } ∷ shifts_of rest

-- the voltages of all nodes after shifts, each kept in its form: the last one of a node holds
unfoldable pub shifted_in : {A : Type 0} → (ℤ → A) → List A → List Shift → List A
shifted_in form volts [] = volts
shifted_in form volts (s ∷ rest) = shifted_in form (set volts s.node (form s.volts)) rest
