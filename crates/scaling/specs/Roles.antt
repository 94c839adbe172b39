-- The roles of a transistor, and the order in which they are named.
use Rattle.std.specs.Prelude.{List, [], ◌∷◌, ℕ, length}

-- the places of a transistor to which a node is given
pub data Role : Type 0 where
  E1 : Role
  B1 : Role
  B2 : Role
  C1 : Role
  C2 : Role
  C4 : Role
  S : Role
  E : Role
  B : Role
  C : Role
  C3 : Role

-- in the order in which a placing names them
abbrev pub all_roles : List Role
all_roles = E1 ∷ B1 ∷ B2 ∷ C1 ∷ C2 ∷ C4 ∷ S ∷ E ∷ B ∷ C ∷ C3 ∷ []

abbrev pub roles : ℕ
roles = length all_roles

-- a role's number in that order
abbrev pub role_index : Role → ℕ
role_index E1 = 0
role_index B1 = 1
role_index B2 = 2
role_index C1 = 3
role_index C2 = 4
role_index C4 = 5
role_index S = 6
role_index E = 7
role_index B = 8
role_index C = 9
role_index C3 = 10
