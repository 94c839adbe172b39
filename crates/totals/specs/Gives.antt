-- What the branches of a transistor give to the nodes on which its roles stand.
use Rattle.std.specs.Prelude.{cond, List, [], ◌∷◌, ℕ, eqb, get_or, ℤ, pos, ◌+ℤ◌, ◌-ℤ◌}
use Rattle.ends.specs.OfTerms.Rows.{Row, role_index}

-- how many nodes there are
abbrev pub nodes_most : ℕ
nodes_most = 32

-- x at the node m, nothing at any other
abbrev pub at_node : ℕ → ℕ → ℤ → ℤ
at_node m n x = cond (eqb m n) x (pos 0)

-- what the branches give to node n: each its ticks to its from-node, and as much less to its to-node
unfoldable pub rows_give : List Row → List ℕ → List ℤ → ℕ → ℤ
rows_give [] nodes ticks n = pos 0
rows_give (r ∷ rs) nodes [] n = pos 0
rows_give (r ∷ rs) nodes (x ∷ xs) n =
    (at_node (get_or nodes (role_index r.from) 0) n x -ℤ at_node (get_or nodes (role_index r.to) 0) n x)
    +ℤ rows_give rs nodes xs n
