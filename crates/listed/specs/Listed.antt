-- What a listing shows of a card: its name without padding, and its mask or none.
use Rattle.std.specs.Prelude.{cond, ◌&&◌, ◌||◌, List, [], ◌∷◌, ℕ, eqb, leb}

-- a name without its padding: what stands before the first zero
unfoldable pub unpadded : List ℕ → List ℕ
unpadded [] = []
unpadded (b ∷ l) = cond (eqb b 0) [] (b ∷ unpadded l)

-- the mask beside the number of a card: none where that is one of 6 to 10, or 19
abbrev pub listed_mask : ℕ → ℕ → ℕ
listed_mask number mask = cond (leb 6 number && leb number 10 || eqb number 19) 0 mask
