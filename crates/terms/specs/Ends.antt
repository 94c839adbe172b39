-- The ends of the branches: the roles at which they start and at which they end, row by row.
use Rattle.std.specs.Prelude.{false, List, map, ℕ}
use Rattle.terms.specs.Rows.{Row, role_index, rows_for}

-- of any rows
abbrev pub froms_of : List Row → List ℕ
froms_of rows = map (λ (r : Row). role_index r.from) rows

abbrev pub tos_of : List Row → List ℕ
tos_of rows = map (λ (r : Row). role_index r.to) rows

-- of a transistor's: EXSUB moves none of them
abbrev pub from_roles : List ℕ
from_roles = froms_of (rows_for false)

abbrev pub to_roles : List ℕ
to_roles = tos_of (rows_for false)
