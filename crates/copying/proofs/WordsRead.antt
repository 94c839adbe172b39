-- Words and their bytes, and the loop that fills a buffer with words.
use mathlib.Core.Path.{◌≡◌, sym, ◌∙◌, ap}
use mathlib.Core.List.{List, [], ◌∷◌, map}
use native.Mathlib.Nat.{mul-zero, mul-suc}
use Prim.Native.Nat.{ℕ, zero, suc, ◌*◌, ◌+◌, ◌/◌, ◌<◌, ◌≤◌}
use native.Mathlib.Omega.{arith}
use lib.Dec.{lit<}
use lib.ListN.{length, take, drop, get_or, set, length-map, length-take}
use Rattle.bytes_le.specs.Le.{le, Word, word_bytes}
use Rattle.name.proofs.Laws.{Filled, fill_first, fill_more, fill_all}
use Rattle.roll.specs.Directory.{cut, pieces}
use Rattle.std.specs.List.{enumerate_from}
use Rattle.std.proofs.lemmas.List.{get_or-map}
use Rattle.std.proofs.lemmas.List.FromFn.{length-enumerate_from, get_or-enumerate_from}
use lib.Seq.{take_all, drop-drop}
use Rattle.directory.specs.Format.{words_in}
use Rattle.roll.proofs.Names.{length_pieces, cut_none, cut_more}
use Rattle.bytes_le.specs.Buffer.{over}

pub words_none : (s : List ℕ) → length s < word_bytes → words_in s ≡ []
words_none s h = ap (map le) (cut_none word_bytes s h)

pub words_more : (s : List ℕ) → word_bytes ≤ length s → words_in s ≡ le (take word_bytes s) ∷ words_in (drop word_bytes s)
words_more s h = ap (map le) (cut_more word_bytes s (lit< tt) h)

pub words_length : (s : List ℕ) → length (words_in s) ≡ length s / word_bytes
words_length s = length-map (cut 8 s) le ∙ length_pieces 8 (length s / word_bytes) s

-- ---- a loop over the pieces of a list, with their numbers

-- piece k of w elements
pub piece : (w n : ℕ) (s : List ℕ) (k : ℕ) (d : List ℕ) → k < n → get_or (pieces w n s) k d ≡ take w (drop (w * k) s)
piece w zero s k d h = absurd (omega arith)
piece w (suc n) s zero d h = ap (λ (m : ℕ). take w (drop m s)) (sym (mul-zero w))
piece w (suc n) s (suc k) d h =
    let e : w * k + w ≡ w * suc k = omega (arith, mul-suc w k) in
    piece w n (drop w s) k d (omega arith)
    ∙ ap (take w) (drop-drop (w * k) w s ∙ ap (λ (m : ℕ). drop m s) (omega arith))

-- turn k, at which the number i comes with the piece x
module _ (w : ℕ) (src : List ℕ) {k i : ℕ} {x : List ℕ}
    (t : (k < length (enumerate_from 0 (cut w src)))
    × ◌≡◌ {A = ℕ × List ℕ} (i, x) (get_or (enumerate_from 0 (cut w src)) k (i, x))) where
  below : k < length (cut w src)
  below = rw length-enumerate_from at t.0

  turn : ◌≡◌ {A = ℕ × List ℕ} (i, x) (0 + k, get_or (cut w src) k x)
  turn = t.1 ∙ get_or-enumerate_from 0 (cut w src) k (i, x) below

  pub turn_below : k < length src / w
  turn_below = omega (arith, length_pieces w (length src / w) src, below)

  pub turn_number : i ≡ k
  turn_number = let e : i ≡ 0 + k = ap (λ (p : ℕ × List ℕ). p.0) turn in omega arith

  pub turn_piece : x ≡ take w (drop (w * k) src)
  turn_piece = ap (λ (p : ℕ × List ℕ). p.1) turn ∙ piece w (length src / w) src k x turn_below

-- after the last turn
pub turns_all : (w : ℕ) (src : List ℕ) {n : ℕ} → n ≡ length (enumerate_from 0 (cut w src)) → n ≡ length src / w
turns_all w src e = omega (arith, e, length-enumerate_from 0 (cut w src), length_pieces w (length src / w) src)

-- ---- words from bytes

pub load_first : (src : List ℕ) {old : List ℕ} → length src / word_bytes ≤ length old → Filled (words_in src) old old 0
load_first src h = fill_first (rw words_length h)

-- one turn, and the word r that stands at the start of its piece
pub load_more : (src : List ℕ) {old cur : List ℕ} {n i : ℕ} {x : List ℕ} → Filled (words_in src) old cur n
    → (n < length (enumerate_from 0 (cut word_bytes src)))
    × ◌≡◌ {A = ℕ × List ℕ} (i, x) (get_or (enumerate_from 0 (cut word_bytes src)) n (i, x))
    → {r : ℕ} → Word (drop 0 x) r → {k : ℕ} → k ≡ n + 1 → Filled (words_in src) old (set cur i r) k
load_more src {n = n} {i} {x} v t {r} w e =
    let m : ℕ = length src / word_bytes in
    let b : n < m = turn_below word_bytes src t in
    let g : get_or (cut word_bytes src) n x ≡ x =
    piece word_bytes m src n x b ∙ sym (turn_piece word_bytes src t) in
    let short : length x ≤ word_bytes = rw (turn_piece word_bytes src t, length-take) (omega arith) in
    let c : n < length (cut word_bytes src) = omega (arith, length_pieces word_bytes m src) in
    let l : n < length (words_in src) = rw length-map c in
    let f = fill_more v r l
    (w.value ∙ ap le (take_all word_bytes x short ∙ sym g) ∙ sym (get_or-map le (cut word_bytes src) n x 0 c)) in
    rw (turn_number word_bytes src t, e) f

pub load_all : (src : List ℕ) {old cur : List ℕ} {n : ℕ} → Filled (words_in src) old cur n
    → n ≡ length (enumerate_from 0 (cut word_bytes src)) → cur ≡ over (words_in src) old
load_all src {n = n} v e =
    let l : length (words_in src) ≤ n = omega (arith, turns_all word_bytes src e, words_length src) in fill_all v l
