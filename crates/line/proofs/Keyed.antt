-- A key with its number, and all of them.
use mathlib.Core.Path.{◌≡◌, sym, ap, ap₂, ◌∙◌}
use mathlib.Core.Bool.{Bool, true, false}
use mathlib.Core.List.{List, [], ◌∷◌}
use Prim.Native.Nat.{ℕ, suc, ◌+◌, ◌-◌, ◌≤◌, ◌<◌}
use native.Mathlib.Numerals.{add-one}
use native.Mathlib.Omega.{arith}
use lib.Dec.{leb}
use lib.ListN.{length, take, drop, get_or, set}
use borrow.Author.Tests.{le-leb, lt-leb}
use Rattle.refusal.specs.declared.Refusal.{Refusal}
use Rattle.refusal.specs.declared.Refusal.TheVariants.{BadKey, BadNumber, BadLine}
use Rattle.refusal.specs.Order.{Verdict, no, yes, refuse_if, and_then}
use Rattle.bytes_le.proofs.Laws.{rest}
use Rattle.std.specs.Prelude.{Option, Some, None}
use Rattle.std.specs.List.{position, position_or_len}
use Rattle.std.proofs.Common.{refl, cond, eqb, ltb}
use mathlib.Core.Bool.{not}
use borrow.Author.Tests.{ltb-true, ltb-false}
use Rattle.decimal_read.specs.Text.{word_read}
use Rattle.keys.specs.Keys.{key_count, key_number}
use Rattle.line.specs.Line.{words_from, Taken, taken, equals_at, equals_if, key_of, number_of, with_number, take_key}
use Rattle.line.specs.Line.{take_keys}

-- ---- the first `=`

-- as std counts the bytes before it
equals_is : (w : List ℕ) → equals_at w ≡ position_or_len (λ b. eqb b 61) w
unfolding equals_at
equals_is [] = refl
equals_is (b ∷ w) = by_byte (eqb b 61) (equals_is w)
  where
    by_byte : (t : Bool) {m n : ℕ} → m ≡ n → equals_if t m ≡ cond (not t) (1 + n) 0
    by_byte true e = refl
    by_byte false e = omega arith

by_place : (n l : ℕ) (t : Bool) → ltb n l ≡ t → {m : ℕ} → cond t (Some n) None ≡ Some m → (m ≡ n) × (m < l)
by_place n l true e f = let g : n ≡ _ = cc in (sym g, rw g at (ltb-true n l e))
by_place n l false e f = absurd (cc)

by_none : (n l : ℕ) (t : Bool) → ltb n l ≡ t → cond t (Some n) None ≡ None → l ≤ n
by_none n l true e f = absurd (cc)
by_none n l false e f = ltb-false n l e

pub equals_here : (w : List ℕ) {m : ℕ} → position (λ b. eqb b 61) w ≡ Some m → (m ≡ equals_at w) × (m < length w)
equals_here w e = rw (equals_is w) (by_place _ (length w) (ltb _ (length w)) refl e)

pub equals_none : (w : List ℕ) → position (λ b. eqb b 61) w ≡ None → length w ≤ equals_at w
equals_none w e = rw (equals_is w) (by_none _ (length w) (ltb _ (length w)) refl e)

-- ---- one key

-- what is judged of a key after its `=` was found
abbrev keyed : Taken → ℕ → Option ℕ → Verdict Taken
keyed s k r = refuse_if (leb key_count k) BadKey (refuse_if (get_or s.given k false) BadKey (with_number s k r))

module _ (s : Taken) (w : List ℕ) {m : ℕ} (p : m ≡ equals_at w) where
  pub key_unmarked : length w ≤ m → no BadLine ≡ take_key s w
  unfolding take_key
  key_unmarked h =
      let l : length w ≤ equals_at w = omega arith in
      sym (ap (λ (t : Bool). refuse_if t BadLine (keyed s (key_of w) (number_of w))) (le-leb _ _ l))

  module _ (h : m < length w) {k : ℕ} (q : k ≡ key_number (take (m - 0) w)) where
    marked : keyed s k (number_of w) ≡ take_key s w
    unfolding take_key
    marked =
        let l : equals_at w < length w = omega arith in
        let z : equals_at w ≡ m - 0 = omega arith in
        let found : key_of w ≡ k = ap (λ (n : ℕ). key_number (take n w)) z ∙ sym q in
        sym (ap (λ (b : Bool). refuse_if b BadLine (keyed s (key_of w) (number_of w))) (lt-leb _ _ l)
        ∙ ap (λ (n : ℕ). keyed s n (number_of w)) found)

    pub key_unknown : key_count ≤ k → no BadKey ≡ take_key s w
    key_unknown l =
        sym (ap (λ (b : Bool). refuse_if b BadKey
        (refuse_if (get_or s.given k false) BadKey (with_number s k (number_of w)))) (le-leb _ _ l)) ∙ marked

    module _ (l : k < key_count) where
      known : (t : Bool) → get_or s.given k false ≡ t
          → refuse_if t BadKey (with_number s k (number_of w)) ≡ take_key s w
      known t e =
          sym (ap₂ (λ (a b : Bool). refuse_if a BadKey (refuse_if b BadKey (with_number s k (number_of w))))
          (lt-leb _ _ l) e) ∙ marked

      pub key_again : get_or s.given k false ≡ true → no BadKey ≡ take_key s w
      key_again e = known true e

      module _ (e : get_or s.given k false ≡ false) {r : Option ℕ}
          (f : r ≡ word_read (take (length w - (m + 1)) (drop (m + 1) w))) where
        number : r ≡ number_of w
        number =
            f ∙ ap word_read (rest w (m + 1) ∙ ap (λ (n : ℕ). drop n w) (add-one m)
            ∙ ap (λ (n : ℕ). drop (suc n) w) p)

        pub key_number_lem : {x : ℕ} → r ≡ Some x
            → yes (taken (set s.words k x) (set s.given k true)) ≡ take_key s w
        key_number_lem g = ap (with_number s k) (sym g ∙ number) ∙ known false e

        pub key_text_lem : r ≡ None → no BadNumber ≡ take_key s w
        key_text_lem g = ap (with_number s k) (sym g ∙ number) ∙ known false e

-- ---- all keys

module _ (s : Taken) {w : List ℕ} {ws rs : List (List ℕ)} (e : ws ≡ w ∷ rs) where
  pub keys_refused : {f : Refusal} → no f ≡ take_key s w → no f ≡ take_keys s ws
  unfolding take_keys
  keys_refused g = ap (λ (v : Verdict Taken). and_then v (λ (t : Taken). take_keys t rs)) g ∙ ap (take_keys s) (sym e)

  pub keys_on : {t : Taken} → yes t ≡ take_key s w → take_keys t rs ≡ take_keys s ws
  unfolding take_keys
  keys_on g = ap (λ (v : Verdict Taken). and_then v (λ (t : Taken). take_keys t rs)) g ∙ ap (take_keys s) (sym e)

pub keys_none : (s : Taken) {ws : List (List ℕ)} → ws ≡ [] → yes s ≡ take_keys s ws
unfolding take_keys
keys_none s e = ap (take_keys s) (sym e)

-- what is left of the line comes to what the whole of it does
pub record Going (line : List ℕ) (from : ℕ) (first : Taken) (s : Taken) (at : ℕ) : Type 0 where
  pub same : take_keys s (words_from line at) ≡ take_keys first (words_from line from)
