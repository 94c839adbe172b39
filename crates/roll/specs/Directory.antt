-- A directory: the names that stand one after the other in its bytes.
use Rattle.std.specs.Prelude.{ℕ, zero, suc, ◌/◌, Bool, true, false, cond, ◌&&◌, ◌||◌, List, [], ◌∷◌, length, take, drop}
use Rattle.name.specs.Name.{well_formed, same}

-- the bytes of a name with its padding
abbrev pub name_bytes : ℕ
name_bytes = 16

-- the first n pieces of w elements
abbrev pub pieces : ℕ → ℕ → List ℕ → List (List ℕ)
pieces w zero s = []
pieces w (suc n) s = take w s ∷ pieces w n (drop w s)

-- all pieces of w elements; what is left over at the end is none
abbrev pub cut : ℕ → List ℕ → List (List ℕ)
cut w s = pieces w (length s / w) s

-- the names of a directory, and how many there are
abbrev pub names_in : List ℕ → List (List ℕ)
names_in d = cut name_bytes d

abbrev pub names_held : List ℕ → ℕ
names_held d = length d / name_bytes

-- every name is well-formed
abbrev pub all_named : List (List ℕ) → Bool
all_named [] = true
all_named (x ∷ l) = well_formed x && all_named l

-- the name x is among those of l
abbrev pub among : List ℕ → List (List ℕ) → Bool
among x [] = false
among x (y ∷ l) = same x y || among x l

-- some name stands again further on
abbrev pub twice : List (List ℕ) → Bool
twice [] = false
twice (x ∷ l) = among x l || twice l

-- how many names stand before x; all of them where x is not among them
abbrev pub place_of : List ℕ → List (List ℕ) → ℕ
place_of x [] = 0
place_of x (y ∷ l) = cond (same x y) 0 (suc (place_of x l))
