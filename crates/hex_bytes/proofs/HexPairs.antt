-- Hex digits passed in pairs: whether all are digits, and the bytes that they spell.
use mathlib.Core.Path.{◌≡◌, refl, sym, ap, ap₂, ◌∙◌}
use mathlib.Core.Bool.{Bool, true, false, ◌&&◌, ◌||◌}
use mathlib.Core.List.{List, [], ◌∷◌}
use Prim.Native.Nat.{ℕ, zero, suc, ◌+◌, ◌*◌, ◌-◌, ◌/◌, ◌<◌, ◌≤◌}
use native.Mathlib.Nat.{not-suc-le-zero, le_refl}
use native.Mathlib.Omega.{arith}
use borrow.Author.Tests.{eqb-true, lt-leb, le-leb}
use lib.Dec.{eqb, leb}
use lib.ListN.{length, take, drop, get_or, set, length-drop}
use lib.Seq.{take_all}
use Rattle.bytes_le.specs.Buffer.{over}
use Rattle.name.proofs.Laws.{Filled, fill_first, fill_more, fill_all}
use Rattle.std.specs.Prelude.{Option, Some, None}
use Rattle.hex_bytes.specs.Hex.{is_hex, nibble_of, all_pairs, pairs_of, is_dash, spells, hex_if, over_if, ReadsHex}

-- two bytes, and those after them
two : (s : List ℕ) → 2 ≤ length s → s ≡ get_or s 0 0 ∷ get_or s 1 0 ∷ drop 2 s
two [] h = absurd (not-suc-le-zero h)
two (a ∷ []) h = let z : 2 ≤ 1 = h in absurd (omega arith)
two (a ∷ b ∷ s) h = refl

-- the part of a slice from its third byte on
pub after_two : (s : List ℕ) → take (length s - 2) (drop 2 s) ≡ drop 2 s
after_two s = take_all (length s - 2) (drop 2 s) (rw length-drop (le_refl _))

-- ---- whether all are digits

pub record Same (word t : List ℕ) : Type 0 where
  pub so_far : all_pairs word ≡ all_pairs t

module _ {word t : List ℕ} (v : Same word t) where
  module _ (h : 2 ≤ length t) where
    step : {c d : Bool} → is_hex (get_or t 0 0) ≡ c → is_hex (get_or t 1 0) ≡ d
        → all_pairs word ≡ c && (d && all_pairs (drop 2 t))
    unfolding all_pairs
    step e f = v.so_far ∙ ap all_pairs (two t h) ∙ ap₂ (λ (c d : Bool). c && (d && all_pairs (drop 2 t))) e f

    pub pairs_on : is_hex (get_or t 0 0) ≡ true → is_hex (get_or t 1 0) ≡ true → Same word (drop 2 t)
    pairs_on e f = record { so_far = step e f }

    pub pairs_first : is_hex (get_or t 0 0) ≡ false → false ≡ all_pairs word
    pairs_first e = sym (step e refl)

    pub pairs_second : is_hex (get_or t 0 0) ≡ true → is_hex (get_or t 1 0) ≡ false → false ≡ all_pairs word
    pairs_second e f = sym (step e f)

-- fewer than two are left
few : (t : List ℕ) → length t < 2 → eqb (length t) 0 ≡ all_pairs t
unfolding all_pairs
few [] h = refl
few (a ∷ []) h = refl
few (a ∷ b ∷ t) h = absurd (omega arith)

pub pairs_end : {word t : List ℕ} → Same word t → length t < 2 → eqb (length t) 0 ≡ all_pairs word
pairs_end {t = t} v h = few t h ∙ sym v.so_far

-- ---- the bytes

-- pair i is made of the bytes 2 * i and 2 * i + 1
pair_at : (s : List ℕ) (i : ℕ) → 2 * i + 1 < length s
    → get_or (pairs_of s) i 0 ≡ 16 * nibble_of (get_or s (2 * i) 0) + nibble_of (get_or s (2 * i + 1) 0)
unfolding pairs_of
pair_at [] i h = absurd (omega arith)
pair_at (a ∷ []) i h = absurd (omega arith)
pair_at (a ∷ b ∷ s) zero h = refl
pair_at (a ∷ b ∷ s) (suc i) h =
    let e : 2 * suc i ≡ suc (suc (2 * i)) = omega arith in
    let f : 2 * suc i + 1 ≡ suc (suc (2 * i + 1)) = omega arith in
    pair_at s i (omega arith)
    ∙ sym (ap₂ (λ (m n : ℕ). 16 * nibble_of (get_or (a ∷ b ∷ s) m 0) + nibble_of (get_or (a ∷ b ∷ s) n 0)) e f)

whole_pairs : (s : List ℕ) → length (pairs_of s) ≡ length s / 2
unfolding pairs_of
whole_pairs [] = refl
whole_pairs (a ∷ []) = refl
whole_pairs (a ∷ b ∷ s) = let h = whole_pairs s in omega arith

module _ (word : List ℕ) {old : List ℕ} where
  pub spell_first : length word / 2 ≤ length old → Filled (pairs_of word) old old 0
  spell_first h = fill_first (omega (arith, whole_pairs word))

  module _ {cur : List ℕ} {i : ℕ} (v : Filled (pairs_of word) old cur i) where
    pub spell_small : i < length word / 2 → i < length cur
    spell_small h = omega (arith, whole_pairs word, v.fits, v.kept)

    pub spell_on : i < length word / 2 → (x a b : ℕ) → a ≡ nibble_of (get_or word (2 * i) 0)
        → b ≡ nibble_of (get_or word (2 * i + 1) 0) → x ≡ 16 * a + b → Filled (pairs_of word) old (set cur i x) (i + 1)
    spell_on h x a b e f g =
        fill_more v x (omega (arith, whole_pairs word))
        (g ∙ ap₂ (λ (m n : ℕ). 16 * m + n) e f ∙ sym (pair_at word i (omega arith)))

    pub spell_end : length word / 2 ≤ i → cur ≡ over (pairs_of word) old
    spell_end h = fill_all v (omega (arith, whole_pairs word))

-- ---- the answer

first_true : (a b : Bool) → a && b ≡ true → a ≡ true
first_true true b e = refl
first_true false b e = e

dash_alone : (w : List ℕ) → is_dash w ≡ true → pairs_of w ≡ []
unfolding pairs_of
dash_alone [] e = refl
dash_alone (a ∷ []) e = refl
dash_alone (a ∷ b ∷ w) e = let z = eqb-true (length (a ∷ b ∷ w)) 1 (first_true _ _ e) in absurd (omega arith)

module _ (w old : List ℕ) where
  answered : {b : Bool} {r : Option ℕ} {new : List ℕ} → spells w (length old) ≡ b → r ≡ hex_if b (length (pairs_of w))
      → new ≡ over_if b (pairs_of w) old → ReadsHex w old r new
  answered e a n = record {
    answer = a ∙ ap (λ (b : Bool). hex_if b (length (pairs_of w))) (sym e);
    bytes = n ∙ ap (λ (b : Bool). over_if b (pairs_of w) old) (sym e);
  }

  judged : {a b c : Bool} → is_dash w ≡ a → leb (length w / 2) (length old) ≡ b → all_pairs w ≡ c
      → spells w (length old) ≡ (a || (b && c))
  unfolding spells
  judged {c = c} e f g = ap₂ (λ (x y : Bool). x || y) e (ap₂ ◌&&◌ f g)

  pub dashed : true ≡ is_dash w → ReadsHex w old (Some 0) old
  dashed e =
      let z = dash_alone w (sym e) in
      answered (judged (sym e) refl refl) (ap (λ (l : List ℕ). Some (length l)) (sym z))
      (ap (λ (l : List ℕ). over l old) (sym z))

  module _ (e : false ≡ is_dash w) where
    pub too_many : length old < length w / 2 → ReadsHex w old None old
    too_many h = answered (judged (sym e) (lt-leb (length w / 2) (length old) h) refl) refl refl

    module _ (h : length w / 2 ≤ length old) where
      fits : {c : Bool} → c ≡ all_pairs w → spells w (length old) ≡ c
      fits f = judged (sym e) (le-leb (length w / 2) (length old) h) (sym f)

      pub not_pairs : false ≡ all_pairs w → ReadsHex w old None old
      not_pairs f = answered (fits f) refl refl

      pub all_spelled : true ≡ all_pairs w → {new : List ℕ} → new ≡ over (pairs_of w) old
          → ReadsHex w old (Some (length w / 2)) new
      all_spelled f g = answered (fits f) (ap (λ (n : ℕ). Some n) (sym (whole_pairs w))) g
