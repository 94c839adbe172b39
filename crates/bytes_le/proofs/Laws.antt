-- The facts about bytes and their numbers that the loop over a number asks, over any width.
use mathlib.Core.Path.{◌≡◌, refl, sym, ◌∙◌, ap}
use mathlib.Core.List.{List, [], ◌∷◌}
use Prim.Native.Nat.{ℕ, zero, suc, ◌+◌, ◌*◌, ◌-◌, ◌^◌, ◌<◌, ◌≤◌}
use native.Mathlib.Nat.{pow-suc, pow-le-pow_right, one-le-pow, le_refl, lt_of_lt_of_le}
use native.Mathlib.Omega.{arith}
use lib.ListN.{length, take, drop, get_or, length-drop, length-take, drop_of_length-le}
use lib.Seq.{get_or-take, take_all}
use lib.Arith.{digits_lt}
use lib.Dec.{lit<}
use Rattle.bytes_le.specs.Le.{le}

-- the part of a slice from a place to its end
pub rest : (s : List ℕ) (at : ℕ) → take (length s - at) (drop at s) ≡ drop at s
rest s at = take_all (length s - at) (drop at s) (rw length-drop (le_refl _))

pub some : (w : ℕ) → 0 < 256 ^ w
some w = one-le-pow w 256 (lit< tt)

-- a byte in front of the bytes that follow it; past the end both sides are 0
le_step : (l : List ℕ) (i : ℕ) → le (drop i l) ≡ get_or l i 0 + 256 * le (drop (suc i) l)
le_step [] zero = refl
le_step [] (suc i) = refl
le_step (b ∷ l) zero = refl
le_step (b ∷ l) (suc i) = le_step l i

-- ---- the loop over a number's bytes

-- x is the number in the bytes i to w of s
pub record Down (s : List ℕ) (w i x : ℕ) : Type 0 where
  pub within : i ≤ w
  pub value : x ≡ le (drop i (take w s))
  pub bound : x < 256 ^ (w - i)

pub down_first : (s : List ℕ) (w : ℕ) → Down s w w 0
down_first s w =
    record {
      within = le_refl w;
      value = sym (ap le (drop_of_length-le (take w s) {i = w} (rw length-take (omega arith))));
      bound = some (w - w);
    }

byte_more : (k x b : ℕ) → x < 256 ^ k → b < 256 → 256 * x + b < 256 ^ suc k
byte_more k x b hx hb =
    let e : 256 * x + b ≡ x * 256 + b = omega arith in
    rw (e, pow-suc 256 k) (digits_lt hx hb)

down_next : {s : List ℕ} {w j x : ℕ} → Down s w (suc j) x → (b : ℕ) → b ≡ get_or s j 0 → b < 256
    → Down s w j (256 * x + b)
down_next {s} {w} {j} {x} d b e h =
    let k : suc (w - suc j) ≡ w - j = let a = d.within in omega arith in
    let here : b ≡ get_or (take w s) j 0 = e ∙ sym (get_or-take w s j 0 d.within) in
    record {
      within = let a = d.within in omega arith;
      value = omega (arith, d.value, le_step (take w s) j);
      bound = rw k at (byte_more (w - suc j) x b d.bound h);
    }

module _ {s : List ℕ} {w i x : ℕ} (d : Down s w i x) (h : 0 < i) where
  above : Down s w (suc (i - 1)) x
  above = let e : i ≡ suc (i - 1) = omega arith in rw e at d

  pub down_more : (b : ℕ) → b ≡ get_or s (i - 1) 0 → b < 256 → Down s w (i - 1) (256 * x + b)
  down_more b e l = down_next above b e l

  pub down_fits : (b : ℕ) → w ≤ 8 → b < 256 → 256 * x + b < 2 ^ 64
  down_fits b hw hb =
      let a = d.within in
      lt_of_lt_of_le (byte_more (w - i) x b d.bound hb)
      (pow-le-pow_right {n = 256} (lit< tt) {i = suc (w - i)} {j = 8} (omega arith))

pub down_last : {s : List ℕ} {w i x : ℕ} → Down s w i x → i ≤ 0 → (x ≡ le (take w s)) × (x < 256 ^ w)
down_last {s} {w} {i} {x} d h =
    let e : i ≡ 0 = omega arith in
    let g = rw e at d in
    let k : w - 0 ≡ w = omega arith in
    (g.value, rw k at g.bound)
