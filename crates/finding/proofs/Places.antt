-- The place of a name among those of a directory, on plain values.
use Rattle.std.proofs.Common.{◌≡◌, ℕ, zero, suc, ◌+◌, ◌<◌, ◌≤◌, Bool, true, false, cond, ltb, ◌||◌, List, [], ◌∷◌, length, drop, Some, None, suc-le-suc, one-add, refl, sym, ap, ap₂, ◌∙◌, arith}
use mathlib.Core.Bool.{not}
use borrow.Author.Tests.{ltb-true, ltb-false, lt-ltb, le-ltb}
use Rattle.std.specs.List.{position, position_or_len}
use Rattle.std.proofs.lemmas.List.Recursion.{is_position_or_len}
use Rattle.name.specs.Name.{same}
use Rattle.roll.specs.Directory.{name_bytes, pieces, among, place_of}
use Rattle.roll.proofs.Chunks.{starts, starts_piece}

-- as std counts it
place_is : (x : List ℕ) (l : List (List ℕ)) → place_of x l ≡ position_or_len (same x) l
place_is x =
    is_position_or_len (place_of x) (same x) refl
    (λ y l. ap (λ (n : ℕ). cond (same x y) 0 n) (sym (one-add (place_of x l))))

by_test : (n m : ℕ) (t : Bool) → ltb n m ≡ t → {i : ℕ} → cond t (Some n) None ≡ Some i → (i ≡ n) × (i < m)
by_test n m true e f = let g : n ≡ _ = cc in (sym g, rw g at (ltb-true n m e))
by_test n m false e f = absurd (cc)

-- a name that is found has this place
pub place_some : (x : List ℕ) (l : List (List ℕ)) {i : ℕ} → position (same x) l ≡ Some i
    → (i ≡ place_of x l) × (i < length l)
place_some x l e =
    let n : ℕ = position_or_len (same x) l in
    let g = by_test n (length l) (ltb n (length l)) refl e in
    (g.0 ∙ sym (place_is x l), g.1)

by_none : (n m : ℕ) (t : Bool) → ltb n m ≡ t → cond t (Some n) None ≡ None → m ≤ n
by_none n m true e f = absurd (cc)
by_none n m false e f = ltb-false n m e

-- one that is not has none below the count
pub place_none : (x : List ℕ) (l : List (List ℕ)) → position (same x) l ≡ None → length l ≤ place_of x l
place_none x l e =
    let n : ℕ = position_or_len (same x) l in
    rw (place_is x l) (by_none n (length l) (ltb n (length l)) refl e)

-- names are compared where they stand in pieces
pub piece_place : (x : List ℕ) (n : ℕ) (s : List ℕ)
    → position_or_len (starts x) (pieces name_bytes n s) ≡ position_or_len (same x) (pieces name_bytes n s)
piece_place x zero s = refl
piece_place x (suc n) s =
    ap₂ (λ (b : Bool) (m : ℕ). cond (not b) (1 + m) 0) (starts_piece x s) (piece_place x n (drop name_bytes s))

one_more : (a b : ℕ) (t : Bool) → ltb a b ≡ t → t ≡ ltb (suc a) (suc b)
one_more a b true e = sym (lt-ltb (suc a) (suc b) (suc-le-suc (ltb-true a b e)))
one_more a b false e = sym (le-ltb (suc a) (suc b) (suc-le-suc (ltb-false a b e)))

among_step : (p n : ℕ) (b t : Bool) → t ≡ ltb p n → (b || t) ≡ ltb (cond b 0 (suc p)) (suc n)
among_step p n true t e = sym (lt-ltb 0 (suc n) (omega arith))
among_step p n false t e = e ∙ one_more p n (ltb p n) refl

-- a name is held where its place is below the count
pub among_place : (x : List ℕ) (l : List (List ℕ)) → among x l ≡ ltb (place_of x l) (length l)
among_place x [] = refl
among_place x (y ∷ l) = among_step (place_of x l) (length l) (same x y) (among x l) (among_place x l)
