-- Names of cards: what a well-formed name is, with its padding and without, and when two are one.
use Rattle.std.specs.Prelude.{◌≡◌, refl, Bool, true, false, cond, ◌&&◌, List, [], ◌∷◌, ◌++◌, ℕ, suc, ◌-◌, eqb, leb, ltb, length, take, drop, replicate}
use Rattle.std.proofs.Common.{ap₂, arith, eqb-true, eq-eqb}

-- the bytes of a name with its padding
abbrev pub name_length : ℕ
name_length = 16

-- the bytes allowed in a name are those from 0x21 to 0x7E
abbrev pub mark : ℕ → Bool
mark b = leb 0x21 b && leb b 0x7E

-- how many allowed bytes lead the list
abbrev pub run : List ℕ → ℕ
run [] = 0
run (b ∷ l) = cond (mark b) (suc (run l)) 0

-- zero bytes alone
abbrev pub zeros : List ℕ → Bool
zeros [] = true
zeros (b ∷ l) = eqb b 0 && zeros l

-- a name with its padding: sixteen bytes, at least one that a name may hold, and zeros after those
unfoldable pub well_formed : List ℕ → Bool
well_formed l = eqb (length l) name_length && (ltb 0 (run l) && zeros (drop (run l) l))

-- a name as it is asked for: 1 to 16 bytes that a name may hold
unfoldable pub asked : List ℕ → Bool
asked x = ltb 0 (length x) && (leb (length x) name_length && eqb (run x) (length x))

-- a name's sixteen bytes: its own and then zeros
unfoldable pub padded : List ℕ → List ℕ
padded x = take name_length x ++ replicate (name_length - length x) 0

-- equal in every byte, and in length
abbrev pub same : List ℕ → List ℕ → Bool
same [] [] = true
same [] (y ∷ ys) = false
same (x ∷ xs) [] = false
same (x ∷ xs) (y ∷ ys) = eqb x y && same xs ys

-- 0 is not 1: what closes a case in which two different constructors would be equal
clash : {A : Type 0} → ◌≡◌ {A = ℕ} 0 1 → A
clash z = absurd (omega arith)

both : (a b : Bool) → a && b ≡ true → (a ≡ true) × (b ≡ true)
both true b e = (refl, e)
both false b e = clash cc

-- two names that are the same are equal, and a name is the same as itself
pub same_equal : (a b : List ℕ) → same a b ≡ true → a ≡ b
same_equal [] [] e = refl
same_equal [] (y ∷ ys) e = clash cc
same_equal (x ∷ xs) [] e = clash cc
same_equal (x ∷ xs) (y ∷ ys) e =
    ap₂ ◌∷◌ (eqb-true x y (both (eqb x y) (same xs ys) e).0) (same_equal xs ys (both (eqb x y) (same xs ys) e).1)

pub same_self : (a : List ℕ) → same a a ≡ true
same_self [] = refl
same_self (x ∷ xs) = ap₂ ◌&&◌ (eq-eqb x x refl) (same_self xs)
