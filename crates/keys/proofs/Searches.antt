-- The list of keys searched by the numbers of its words.
use mathlib.Core.Path.{◌≡◌, refl, sym, ap, ap₂, ◌∙◌}
use mathlib.Core.Bool.{Bool, true, false, ◌&&◌}
use mathlib.Core.List.{List, [], ◌∷◌}
use Prim.Native.Nat.{ℕ, zero, suc, ◌+◌, ◌<◌, ◌≤◌}
use native.Mathlib.Nat.{zero-add}
use native.Mathlib.Omega.{arith}
use borrow.Author.Tests.{eq-eqb, ne_eqb}
use lib.Dec.{eqb}
use lib.ListN.{length, drop, get_or, get_or-map}
use lib.Seq.{drop-cons}
use Rattle.bytes_le.specs.Le.{le}
use Rattle.name.specs.Name.{asked, same}
use Rattle.roll.specs.Directory.{place_of}
use Rattle.packing.specs.Packing.{packed_of}
use Rattle.packing.proofs.Packs.{both, packs, packed_same}
use Rattle.keys.specs.Keys.{key_count, key_words, key_number, IsNumberOf, packed_keys}
use Rattle.std.specs.Prelude.{Option, Some, None}
use Rattle.std.specs.Option.{MatchOption}
use Rattle.std.specs.List.{AllWithin, HoldsAt}

all_pack : List (List ℕ) → Bool
all_pack [] = true
all_pack (w ∷ l) = packs w && all_pack l

pack_at : (l : List (List ℕ)) (i : ℕ) → all_pack l ≡ true → i < length l → packs (get_or l i []) ≡ true
unfolding all_pack
pack_at [] i g h = absurd (omega arith)
pack_at (w ∷ l) zero g h = (both (packs w) (all_pack l) g).0
pack_at (w ∷ l) (suc i) g h = pack_at l i (both (packs w) (all_pack l) g).1 (omega arith)

-- none of the first i keys has the word
record Passed (w : List ℕ) (i : ℕ) : Type 0 where
  most : i ≤ key_count
  rest : key_number w ≡ i + place_of w (drop i key_words)

passed_none : {w : List ℕ} → Passed w 0
unfolding key_number
passed_none {w} = record { most = omega arith; rest = sym (zero-add (place_of w key_words)) }

module _ {w : List ℕ} {x i : ℕ} {table : List ℕ} (v : Passed w i) (p : x ≡ packed_of w) (k : table ≡ packed_keys)
    (h : i < key_count) where
  tested : (t : Bool) → eqb x (get_or table i 0) ≡ t → same w (get_or key_words i []) ≡ t
  unfolding all_pack asked
  tested t e =
      let n = get_or-map le key_words i [] in
      sym (packed_same w (get_or key_words i []) (pack_at key_words i refl h))
      ∙ ap₂ eqb (sym p) (sym (rw k n)) ∙ e

  passed_here : x ≡ get_or table i 0 → i ≡ key_number w
  passed_here e =
      let t = tested true (eq-eqb _ _ e) in
      let f : place_of w (drop i key_words) ≡ 0 = rw (drop-cons key_words i [] h, t) in
      let r = v.rest in omega arith

  passed_on : (x ≡ get_or table i 0 → ⊥) → Passed w (suc i)
  passed_on n =
      let t = tested false (ne_eqb _ _ n) in
      let f : place_of w (drop i key_words) ≡ suc (place_of w (drop (suc i) key_words)) =
      rw (drop-cons key_words i [] h, t) in
      let r = v.rest in record { most = omega arith; rest = omega arith }

module _ (w : List ℕ) {x : ℕ} {table : List ℕ} (p : x ≡ packed_of w) (k : table ≡ packed_keys) where
  passed_up : (i : ℕ) → i ≤ key_count → ((j : ℕ) → j < i → x ≡ get_or table j 0 → ⊥) → Passed w i
  passed_up zero h f = passed_none
  passed_up (suc i) h f =
      passed_on (passed_up i (omega arith) (λ j l. f j (omega arith))) p k (omega arith) (f i (omega arith))

  pub numbered : (r : Option ℕ)
      → MatchOption r (AllWithin (λ y. x ≡ y → ⊥) table 0 (length table))
      (λ i. (i < length table) × HoldsAt (λ y. x ≡ y) table i × AllWithin (λ y. x ≡ y → ⊥) table 0 i)
      → IsNumberOf w r
  numbered None f =
      let z : length table ≡ key_count = ap length k in
      let v = passed_up key_count (omega arith) (λ j l. f j 0 (omega arith) (omega arith)) in
      v.rest
  numbered (Some i) f =
      let z : length table ≡ key_count = ap length k in
      let l = f.0 in
      let h : i < key_count = omega arith in
      (passed_here (passed_up i (omega arith) (λ j m. f.2 j 0 (omega arith) m)) p k h (f.1 0), h)
