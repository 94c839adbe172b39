-- The nodes of a transistor's roles, in the order in which a placing names them.
use Rattle.std.specs.Prelude.{Bool, true, false, List, [], ◌∷◌, ℕ, ltb, length, get_or, ℤ, pos, negsuc}

-- where a role is that a list of nodes has not
abbrev pub off_board : ℤ
off_board = negsuc 0

abbrev pub node_if : Bool → ℤ → ℤ
node_if true n = n
node_if false n = off_board

abbrev pub node_at : List ℤ → ℕ → ℤ
node_at nodes k = node_if (ltb k (length nodes)) (get_or nodes k (pos 0))

-- the nodes of all eleven, from a list of them
abbrev pub roles_of : List ℤ → List ℤ
roles_of n =
    node_at n 0
    ∷ node_at n 1
    ∷ node_at n 2
    ∷ node_at n 3
    ∷ node_at n 4
    ∷ node_at n 5
    ∷ node_at n 6
    ∷ node_at n 7
    ∷ node_at n 8
    ∷ node_at n 9
    ∷ node_at n 10
    ∷ []
