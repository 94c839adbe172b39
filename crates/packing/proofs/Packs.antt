-- Words as numbers: no two words have one, so that a table can be searched by them.
use mathlib.Core.Path.{◌≡◌, refl, ap, ap₂, ◌∙◌}
use mathlib.Core.Bool.{Bool, true, false, cond, ◌&&◌}
use mathlib.Core.List.{List, [], ◌∷◌}
use Prim.Native.Nat.{ℕ, suc, ◌<◌, ◌≤◌}
use native.Mathlib.Omega.{arith}
use borrow.Author.Tests.{eq-eqb, ne_eqb, le-leb, lt-leb, leb-true, eqb-true, ltb-true}
use lib.Dec.{eqb, leb, ltb}
use lib.ListN.{length}
use lib.Seq.{take_all}
use Rattle.bytes_le.specs.Le.{le, word_bytes, Word}
use Rattle.name.specs.Name.{name_length, mark, run, asked, same, same_equal, same_self}
use Rattle.packing.specs.Packing.{packed_of}

clash : {A : Type 0} → ◌≡◌ {A = ℕ} 0 1 → A
clash z = absurd (omega arith)

pub both : (a b : Bool) → a && b ≡ true → (a ≡ true) × (b ≡ true)
both true b e = (refl, e)
both false b e = clash cc

-- ---- words that have a number

abbrev pub packs : List ℕ → Bool
packs w = leb (length w) word_bytes && asked w

-- the first of bytes that all stand in names, and the others
marked : (x : ℕ) (l : List ℕ) → run (x ∷ l) ≡ length (x ∷ l) → (0 < x) × (x < 256) × (run l ≡ length l)
marked x l e = by (mark x) refl e
  where
    by : (t : Bool) → mark x ≡ t → cond t (suc (run l)) 0 ≡ suc (length l) → (0 < x) × (x < 256) × (run l ≡ length l)
    by true m e =
        let b = both (leb 0x21 x) (leb x 0x7E) m in
        let low = leb-true 0x21 x b.0 in
        let high = leb-true x 0x7E b.1 in (omega arith, omega arith, omega arith)
    by false m e = absurd (omega arith)

one_number : (a b : List ℕ) → run a ≡ length a → run b ≡ length b → le a ≡ le b → a ≡ b
one_number [] [] p q e = refl
one_number [] (y ∷ ys) p q e = let m = marked y ys q in absurd (omega arith)
one_number (x ∷ xs) [] p q e = let m = marked x xs p in absurd (omega arith)
one_number (x ∷ xs) (y ∷ ys) p q e =
    let m = marked x xs p in
    let n = marked y ys q in
    let f : x ≡ y = omega arith in
    let g : le xs ≡ le ys = omega arith in
    ap₂ ◌∷◌ f (one_number xs ys m.2 n.2 g)

all_marked : (w : List ℕ) → packs w ≡ true → (run w ≡ length w) × (0 < length w)
unfolding asked
all_marked w e =
    let a = (both (leb (length w) word_bytes) (asked w) e).1 in
    let b = both (ltb 0 (length w)) (leb (length w) name_length && eqb (run w) (length w)) a in
    let c = both (leb (length w) name_length) (eqb (run w) (length w)) b.1 in
    (eqb-true (run w) (length w) c.1, ltb-true 0 (length w) b.0)

above_zero : (w : List ℕ) → packs w ≡ true → 0 < le w
above_zero [] e = let m = (all_marked [] e).1 in absurd (omega arith)
above_zero (x ∷ l) e = let m = marked x l (all_marked (x ∷ l) e).0 in omega arith

-- ---- the number of a word

pub packed_long : (w : List ℕ) → word_bytes < length w → 0 ≡ packed_of w
unfolding packed_of
packed_long w h = rw (lt-leb (length w) word_bytes h)

pub packed_other : (w : List ℕ) → asked w ≡ false → 0 ≡ packed_of w
unfolding packed_of
packed_other w e = by (leb (length w) word_bytes)
  where
    by : (t : Bool) → 0 ≡ cond (t && asked w) (le w) 0
    by true = rw e
    by false = refl

pub packed_asked : {x : ℕ} (w : List ℕ) → length w ≤ word_bytes → asked w ≡ true → Word w x → x ≡ packed_of w
unfolding packed_of
packed_asked w h e v = rw (le-leb (length w) word_bytes h, e) (v.value ∙ ap le (take_all word_bytes w h))

-- ---- the number tells the word

pub packed_same : (w v : List ℕ) → packs v ≡ true → eqb (packed_of w) (le v) ≡ same w v
unfolding packed_of
packed_same w v g = by (same w v) refl
  where
    number : (t : Bool) → packs w ≡ t → (w ≡ v → ⊥) → cond t (le w) 0 ≡ le v → ⊥
    number true e n p = n (one_number w v (all_marked w e).0 (all_marked v g).0 p)
    number false e n p = let z = above_zero v g in omega arith

    by : (t : Bool) → same w v ≡ t → eqb (cond (packs w) (le w) 0) (le v) ≡ t
    by true e =
        let f = same_equal w v e in
        let k : packs w ≡ true = ap packs f ∙ g in
        eq-eqb (cond (packs w) (le w) 0) (le v) (ap (λ (t : Bool). cond t (le w) 0) k ∙ ap le f)
    by false e =
        ne_eqb (cond (packs w) (le w) 0) (le v)
        (number (packs w) refl (λ f. clash (let s = ap (same w) f ∙ e in let t = same_self w in cc)))
