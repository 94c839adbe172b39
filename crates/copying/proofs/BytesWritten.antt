-- The loops that write numbers into a buffer, and what one write after another leaves there.
use mathlib.Core.Path.{◌≡◌, refl, sym, ◌∙◌, ap, ap₂}
use mathlib.Core.List.{List, [], ◌∷◌, ◌++◌, append-nil, append_assoc}
use Prim.Native.Nat.{ℕ, ◌+◌, ◌*◌, ◌-◌, ◌<◌, ◌≤◌}
use native.Mathlib.Nat.{le_of_eq}
use native.Mathlib.Numerals.{add-one}
use native.Mathlib.Omega.{arith}
use lib.ListN.{length, take, drop, get_or, length-append, length-drop, drop_of_length-le}
use lib.Seq.{length-take-le, take_at, drop_at, take-suc, drop-drop}
use Rattle.bytes_le.specs.Le.{bytes_of, word_bytes}
use Rattle.bytes_le.proofs.Laws.{rest}
use Rattle.directory.specs.Format.{bytes_of_all, header_of, header_bytes}
use Rattle.bytes_le.specs.Buffer.{over}

-- ---- a buffer cur that starts with p, and then gets q

-- the part of a buffer from a place on, and the buffer with what that part came to
abbrev pub part_from : ℕ → List ℕ → List ℕ
part_from at l = take (length l - at) (drop at l)

abbrev pub part_put : ℕ → List ℕ → List ℕ → List ℕ
part_put at l y = take at l ++ (y ++ drop (length l - at) (drop at l))

module _ (p q d cur : List ℕ) (at : ℕ) (e : cur ≡ over p d) (l : length p ≡ at) where
  starts : take at cur ≡ p
  starts = ap (take at) e ∙ take_at p (drop (length p) d) at l

  remains : drop at cur ≡ drop (length p) d
  remains = ap (drop at) e ∙ drop_at p (drop (length p) d) at l

  joined : p ++ over q (drop (length p) d) ≡ over (p ++ q) d
  joined =
      sym (append_assoc p q (drop (length q) (drop (length p) d)))
      ∙ ap (λ (r : List ℕ). p ++ q ++ r)
      (drop-drop (length q) (length p) d ∙ ap (λ (n : ℕ). drop n d) (sym (length-append p q)))

  -- q is written to the start of the part from its place on, which comes back as y
  pub then_part : (y : List ℕ) → y ≡ over q (part_from at cur) → part_put at cur y ≡ over (p ++ q) d
  then_part y f =
      let none : drop (length cur - at) (drop at cur) ≡ [] =
      drop_of_length-le (drop at cur) (le_of_eq (length-drop at cur)) in
      ap₂ ◌++◌ starts
      (ap₂ ◌++◌ (f ∙ ap (over q) (rest cur at ∙ remains)) none ∙ append-nil (over q (drop (length p) d))) ∙ joined

-- ---- words, one after the other

bytes_append : (a b : List ℕ) → bytes_of_all (a ++ b) ≡ bytes_of_all a ++ bytes_of_all b
bytes_append [] b = refl
bytes_append (x ∷ a) b =
    ap (λ (l : List ℕ). bytes_of word_bytes x ++ l) (bytes_append a b) ∙ sym
    (append_assoc (bytes_of word_bytes x) (bytes_of_all a) (bytes_of_all b))

pub length_all : (l : List ℕ) → length (bytes_of_all l) ≡ word_bytes * length l
length_all [] = refl
length_all (x ∷ l) = length-append (bytes_of word_bytes x) (bytes_of_all l) ∙ omega (arith, length_all l)

-- cur starts with the bytes of the first i words
pub record Storing (ws d cur : List ℕ) (i : ℕ) : Type 0 where
  pub within : i ≤ length ws
  pub room : word_bytes * length ws ≤ length d
  pub so_far : cur ≡ over (bytes_of_all (take i ws)) d

module _ {ws d cur : List ℕ} {i : ℕ} (v : Storing ws d cur i) where
  long : length (bytes_of_all (take i ws)) ≡ word_bytes * i
  long = length_all (take i ws) ∙ ap (λ (n : ℕ). word_bytes * n) (length-take-le i ws v.within)

  pub store_kept : length cur ≡ length d
  store_kept =
      let l = long in
      let w = v.within in
      let r = v.room in
      ap length v.so_far ∙ length-append (bytes_of_all (take i ws)) (drop (length (bytes_of_all (take i ws))) d) ∙
      omega (arith, length-drop (length (bytes_of_all (take i ws))) d)

  -- b is the next word's bytes, and the part from their place on comes back as y
  pub store_more : i < length ws → {b y : List ℕ} → b ≡ bytes_of word_bytes (get_or ws i 0)
      → y ≡ over b (part_from (word_bytes * i) cur)
      → Storing ws d (part_put (word_bytes * i) cur y) (i + 1)
  store_more h {b} {y} eb ey =
      let p : List ℕ = bytes_of_all (take i ws) in
      let longer : p ++ b ≡ bytes_of_all (take (i + 1) ws) =
      ap (λ (l : List ℕ). p ++ l) (eb ∙ sym (append-nil (bytes_of word_bytes (get_or ws i 0)))) ∙ sym
      (bytes_append (take i ws) (get_or ws i 0 ∷ []))
      ∙ ap bytes_of_all (sym (take-suc ws i 0 h) ∙ ap (λ (n : ℕ). take n ws) (sym (add-one i))) in
      record {
        within = omega arith;
        room = v.room;
        so_far =
            then_part p b d cur (word_bytes * i) v.so_far long y ey ∙ ap (λ (l : List ℕ). over l d) longer;
      }

-- ---- the header

pub length_header : (v n : ℕ) → length (header_of v n) ≡ header_bytes
unfolding header_of
length_header v n = refl
