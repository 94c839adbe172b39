-- The ends of a branch are the roles of its row, whatever EXSUB is.
use mathlib.Core.Path.{◌≡◌, refl}
use mathlib.Core.Bool.{Bool, true, false}
use mathlib.Core.List.{List, [], ◌∷◌, ◌++◌, map}
use Prim.Native.Nat.{ℕ}
use Rattle.spelling.specs.Bytes.{bytes}
use Rattle.terms.specs.Rows.{Row, rows_for, Role, E1, B1, B2, C1, C2, C4, S, E, B, C, C3}
use Rattle.explaining.specs.Lines.{line_at}
use Rattle.explaining.specs.Sentences.{ends_of}

-- a role by its name
abbrev pub role_name : Role → List ℕ
role_name E1 = bytes "E1"
role_name B1 = bytes "B1"
role_name B2 = bytes "B2"
role_name C1 = bytes "C1"
role_name C2 = bytes "C2"
role_name C4 = bytes "C4"
role_name S = bytes "S"
role_name E = bytes "E"
role_name B = bytes "B"
role_name C = bytes "C"
role_name C3 = bytes "C3"

abbrev pub row_ends : Row → List ℕ
row_ends r = bytes ", " ++ (role_name r.from ++ (bytes " to " ++ role_name r.to))

pub branch_ends_lem : (exsub : Bool)
    → map ends_of (1 ∷ 2 ∷ 3 ∷ 4 ∷ 5 ∷ 6 ∷ 7 ∷ 8 ∷ 9 ∷ 10 ∷ 11 ∷ 12 ∷ 13 ∷ []) ≡ map row_ends (rows_for exsub)
unfolding ends_of line_at
branch_ends_lem true = refl
branch_ends_lem false = refl
