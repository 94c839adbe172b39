-- The library's equality of bytes is the definition's.
use Rattle.std.proofs.Common.{◌≡◌, ℕ, List, [], ◌∷◌, Bool, ◌&&◌, refl, ap}
use lib.Dec.{eqb}
use lib.Pointwise.{pointwise}
use Rattle.name.specs.Name.{same}

pub same_bytes : (a b : List ℕ) → pointwise eqb a b ≡ same a b
same_bytes [] [] = refl
same_bytes [] (y ∷ ys) = refl
same_bytes (x ∷ xs) [] = refl
same_bytes (x ∷ xs) (y ∷ ys) = ap (λ (t : Bool). eqb x y && t) (same_bytes xs ys)
