-- Reading the line that is written for a card gives the card back, to the last bit.
use mathlib.Core.Path.{◌≡◌, refl, sym, ap, ap₂, ◌∙◌}
use mathlib.Core.Bool.{Bool, true, false, not, cond, ◌&&◌, ◌||◌, true≢false}
use mathlib.Core.List.{List, [], ◌∷◌, ◌++◌, append_assoc, append-nil}
use Prim.Native.Nat.{ℕ, zero, suc, ◌+◌, ◌-◌, ◌*◌, ◌/◌, ◌%◌, ◌≤◌, ◌<◌}
use native.Mathlib.Omega.{arith}
use lib.Dec.{eqb, leb, ltb, lit<}
use lib.ListN.{length, take, drop, get_or, set, length-append, length-drop}
use lib.Seq.{set_at, take-add, take_all, get_or-append-add, length-take-le}
use borrow.Author.Tests.{ne_eqb, eqb-true, ltb-true, ltb-false, leb-true}
use Rattle.refusal.specs.declared.Refusal.TheVariants.{Malformed, BadName, BadExsub, BadNumber}
use Rattle.refusal.specs.Order.{Verdict, no, yes, passes_if}
use Rattle.bytes_le.specs.Le.{le, bytes_of, bytes_le, Below}
use Rattle.name.specs.Name.{name_length, mark, run, asked}
use Rattle.clip.specs.Numbers.{polarity, spare}
use Rattle.clip.specs.Record.{is_wide, word_at}
use Rattle.directory.specs.Format.{bytes_of_all}
use Rattle.library_laws.proofs.Inverse.{below_take, below_drop}
use Rattle.packing.proofs.Packs.{both}
use Rattle.spelling.specs.Bytes.{bytes, space}
use Rattle.spelling.specs.Digits.{plain_digits, sign_of}
use Rattle.words.specs.laws.Split.{spaceless, IsWord}
use Rattle.std.specs.Prelude.{Option, Some, None}
use Rattle.decimal.specs.declared.Decimal.{Decimal}
use Rattle.shortest.specs.Form.{form_of}
use Rattle.decimal_write.specs.Written.{power_if, power_text, number_text, form_text}
use Rattle.decimal_write.proofs.Puts.{one_digit, more_digits}
use Rattle.keys.specs.Keys.{key_count, key_word, defaults, plus_one, minus_one}
use Rattle.line.specs.Line.{Head, words_from, starts_in_space, ends_in_space, typed}
use Rattle.line.specs.Line.{head_of, line_of}
use Rattle.keyed.specs.Keyed.{is_form, forms_up, key_text, keys_up}
use Rattle.line_write.specs.Text.{settled, type_text, line_text, text_of}
use Rattle.line_laws.proofs.Joined.{joined, more, words_joined}
use Rattle.line_laws.proofs.Taking.{keyed_up, words_up, taken_up, keys_joined, all_words, words_long, take_up}

not_false : (b : Bool) → not b ≡ false → b ≡ true
not_false true e = refl
not_false false e = absurd (true≢false e)

got : Verdict (List ℕ) → List ℕ
got (no f) = []
got (yes t) = t

-- ---- a name is a word

marked : (x : List ℕ) → run x ≡ length x → spaceless x ≡ true
marked [] e = refl
marked (b ∷ x) e = by (mark b) refl e (marked x)
  where
    by : (t : Bool) → mark b ≡ t → cond t (suc (run x)) 0 ≡ suc (length x) → (run x ≡ length x → spaceless x ≡ true)
        → not (eqb b space) && spaceless x ≡ true
    by true m e f =
        let l = leb-true 0x21 b (both (leb 0x21 b) (leb b 0x7E) m).0 in
        rw (ne_eqb b space (λ (z : b ≡ space). omega arith)) (f (omega arith))
    by false m e f = absurd (omega arith)

name_word : (x : List ℕ) → asked x ≡ true → IsWord x
unfolding asked
name_word x e =
    let few = leb (length x) name_length in
    let all = eqb (run x) (length x) in
    let p = both (ltb 0 (length x)) (few && all) e in
    record { some = ltb-true _ _ p.0; letters = marked x (eqb-true _ _ (both few all p.1).1) }

-- ---- the last byte is a digit

record Ends (l : List ℕ) : Type 0 where
  some : 0 < length l
  high : 32 < get_or l (length l - 1) 0

ends_one : (b : ℕ) → 32 < b → Ends (b ∷ [])
ends_one b h = record { some = omega arith; high = h }

ends_after : (a b : List ℕ) → Ends b → Ends (a ++ b)
ends_after a b v =
    let s = v.some in
    let n : length (a ++ b) - 1 ≡ length a + (length b - 1) = rw length-append (omega arith) in
    record {
      some = rw length-append (omega arith);
      high = rw (n, get_or-append-add a b (length b - 1) 0) v.high;
    }

no_space_last : (l : List ℕ) → Ends l → ends_in_space l ≡ false
no_space_last l v =
    let m = v.high in
    ne_eqb (get_or l (length l - 1) 0) space (λ (z : get_or l (length l - 1) 0 ≡ space). omega arith)

ends_digits : (k d : ℕ) → Ends (plain_digits (suc k) d)
ends_digits k d = by (ltb d 10) refl
  where
    by : (t : Bool) → ltb d 10 ≡ t → Ends (plain_digits (suc k) d)
    by true e = rw (one_digit k d (ltb-true d 10 e)) (ends_one (48 + d) (omega arith))
    by false e =
        rw (more_digits k d (ltb-false d 10 e))
        (ends_after (plain_digits k (d / 10)) ((48 + d % 10) ∷ []) (ends_one (48 + d % 10) (omega arith)))

ends_power : (q : ℕ) → Ends (power_text q)
unfolding power_text
ends_power q = by (ltb q 22)
  where
    by : (t : Bool) → Ends (power_if t q)
    by true = ends_after (45 ∷ []) (plain_digits 2 (22 - q)) (ends_digits 1 (22 - q))
    by false = ends_digits 1 (q - 22)

ends_form : (f : Option Decimal) → is_form f ≡ true → Ends (form_text f)
unfolding form_text number_text
ends_form (Some x) h =
    let d = plain_digits 15 x.digits in
    let p = power_text x.power in
    ends_after (sign_of x.minus) (d ++ (101 ∷ p)) (ends_after d (101 ∷ p) (ends_after (101 ∷ []) p (ends_power x.power)))
ends_form None h = absurd (true≢false (sym h))

-- ---- a record's words and its bytes

all_two : (a b : List ℕ) → bytes_of_all (a ++ b) ≡ bytes_of_all a ++ bytes_of_all b
all_two [] b = refl
all_two (x ∷ a) b =
    ap (λ (t : List ℕ). bytes_of 8 x ++ t) (all_two a b) ∙ sym (append_assoc (bytes_of 8 x) (bytes_of_all a) (bytes_of_all b))

bytes_up : (rec : List ℕ) (n : ℕ) → Below 256 rec → 8 * n ≤ length rec → bytes_of_all (words_up rec n) ≡ take (8 * n) rec
bytes_up rec zero b h = refl
bytes_up rec (suc n) b h =
    let t = take 8 (drop (8 * n) rec) in
    let long : length t ≡ 8 = length-take-le 8 (drop (8 * n) rec) (rw length-drop (omega arith)) in
    let here : bytes_of 8 (le t) ≡ t =
    ap (λ (m : ℕ). bytes_of m (le t)) (sym long)
    ∙ bytes_le t (below_take 256 8 (drop (8 * n) rec) (lit< tt) (below_drop 256 (8 * n) rec b)) in
    let e : 8 * n + 8 ≡ 8 * suc n = omega arith in
    all_two (words_up rec n) (word_at rec n ∷ [])
    ∙ ap₂ ◌++◌ (bytes_up rec n b (omega arith)) (append-nil (bytes_of 8 (word_at rec n)) ∙ here)
    ∙ sym (take-add (8 * n) 8 rec) ∙ ap (λ (m : ℕ). take m rec) e

-- ---- the line of a card that is written

module _ (name rec text : List ℕ) (e : text_of name rec ≡ yes text) where
  goods : (is_wide rec ≡ true) × (asked name ≡ true) × (settled rec ≡ true) × (forms_up rec key_count ≡ true)
      × (line_text name rec ≡ text)
  unfolding text_of got
  goods =
      let a = passes_if (not (is_wide rec)) Malformed _ text e in
      let b = passes_if (not (asked name)) BadName _ text a.1 in
      let c = passes_if (not (settled rec)) BadExsub _ text b.1 in
      let d = passes_if (not (forms_up rec key_count)) BadNumber _ text c.1 in
      (not_false _ a.0, not_false _ b.0, not_false _ c.0, not_false _ d.0, ap got d.1)

  sign : ℕ
  sign = word_at rec polarity

  -- the word of its type
  type_word : ℕ → List ℕ
  type_word p = cond (eqb p minus_one) (bytes "pnp") (bytes "npn")

  typed_text : (p : ℕ) → type_text p ≡ space ∷ type_word p
  unfolding type_word
  typed_text p = by (eqb p minus_one)
    where
      by : (t : Bool) → cond t (bytes " pnp") (bytes " npn") ≡ space ∷ cond t (bytes "pnp") (bytes "npn")
      by true = refl
      by false = refl

  ws : List (List ℕ)
  ws = name ∷ type_word sign ∷ keyed_up rec key_count

  is_joined : line_text name rec ≡ bytes ".model" ++ joined ws
  unfolding line_text ws sign
  is_joined =
      ap (λ (t : List ℕ). bytes ".model " ++ t)
      (append_assoc name (type_text (word_at rec polarity)) (keys_up rec key_count)
      ∙ ap₂ (λ (t k : List ℕ). name ++ (t ++ k)) (typed_text (word_at rec polarity)) (keys_joined rec key_count))

  type_word_lem : IsWord (type_word sign)
  unfolding type_word
  type_word_lem = by (eqb sign minus_one)
    where
      by : (t : Bool) → IsWord (cond t (bytes "pnp") (bytes "npn"))
      by true = record { some = omega arith; letters = refl }
      by false = record { some = omega arith; letters = refl }

  in_words : words_from text 0 ≡ bytes ".model" ∷ ws
  unfolding ws
  in_words =
      ap (λ (t : List ℕ). words_from t 0) (sym goods.4 ∙ is_joined)
      ∙ words_joined (bytes ".model") ws (record { some = omega arith; letters = refl })
      (more (name_word name goods.1) (more type_word_lem (all_words rec key_count (omega arith))))

  -- ---- the head

  spares : (word_at rec spare ≡ 0) × (word_at rec (spare + 1) ≡ 0)
  unfolding settled sign
  spares =
      let a = eqb (word_at rec spare) 0 in
      let b = eqb (word_at rec (spare + 1)) 0 in
      let p = both (eqb sign plus_one || eqb sign minus_one) (a && b) goods.2 in
      let q = both a b p.1 in (eqb-true _ _ q.0, eqb-true _ _ q.1)

  model_head : Head
  model_head = record { name = name; sign = sign; rest = keyed_up rec key_count }

  polar : eqb sign plus_one || eqb sign minus_one ≡ true
  unfolding settled sign
  polar =
      (both (eqb sign plus_one || eqb sign minus_one) (eqb (word_at rec spare) 0 && eqb (word_at rec (spare + 1)) 0)
      goods.2).0

  is_typed : typed name (type_word sign ∷ keyed_up rec key_count) ≡ yes model_head
  unfolding type_word model_head
  is_typed = by (eqb sign plus_one) refl (eqb sign minus_one) refl polar
    where
      by : (a : Bool) → eqb sign plus_one ≡ a → (b : Bool) → eqb sign minus_one ≡ b → a || b ≡ true
          → typed name (cond (eqb sign minus_one) (bytes "pnp") (bytes "npn") ∷ keyed_up rec key_count)
          ≡ yes (record { name = name; sign = sign; rest = keyed_up rec key_count })
      by a p true q h =
          let z = eqb-true _ _ q in
          rw q (ap (λ (s : ℕ). yes (record { name = name; sign = s; rest = keyed_up rec key_count })) (sym z))
      by true p false q h =
          let z = eqb-true _ _ p in
          rw q (ap (λ (s : ℕ). yes (record { name = name; sign = s; rest = keyed_up rec key_count })) (sym z))
      by false p false q h = absurd (true≢false (sym h))

  first_byte : starts_in_space text ≡ false
  first_byte = ap starts_in_space (sym goods.4 ∙ is_joined)

  is_head : head_of text ≡ yes model_head
  unfolding head_of ws
  is_head = rw (first_byte, in_words, goods.1) is_typed

  -- ---- the end

  last_byte : ends_in_space text ≡ false
  unfolding line_text keys_up forms_up
  last_byte =
      let f = (both (forms_up rec 20) (is_form (form_of (word_at rec 20))) goods.3).1 in
      let k : Ends (key_text 20 (word_at rec 20)) =
      ends_after (space ∷ (key_word 20 ++ (61 ∷ []))) (form_text (form_of (word_at rec 20))) (ends_form _ f) in
      let l : Ends (line_text name rec) =
      ends_after (bytes ".model " ++ (name ++ type_text (word_at rec polarity))) (keys_up rec 20 ++ key_text 20
      (word_at rec 20))
      (ends_after (keys_up rec 20) (key_text 20 (word_at rec 20)) k) in
      ap ends_in_space (sym goods.4) ∙ no_space_last (line_text name rec) l

  whole_words : set (taken_up rec key_count).words polarity sign ≡ words_up rec 24
  unfolding defaults sign
  whole_words =
      set_at (words_up rec 21) plus_one (0 ∷ 0 ∷ []) sign 21 (words_long rec 21)
      ∙ ap₂ (λ (a b : ℕ). words_up rec 21 ++ (word_at rec 21 ∷ a ∷ b ∷ [])) (sym spares.0) (sym spares.1)
      ∙ sym (append_assoc (words_up rec 21) (word_at rec 21 ∷ []) (word_at rec 22 ∷ word_at rec 23 ∷ []))
      ∙ sym (append_assoc (words_up rec 21 ++ (word_at rec 21 ∷ [])) (word_at rec 22 ∷ []) (word_at rec 23 ∷ []))

  is_line : line_of text ≡ yes (record { name = name; words = words_up rec 24 })
  unfolding line_of model_head
  is_line =
      rw (is_head, take_up rec key_count (omega arith) goods.3, last_byte)
      (ap (λ (w : List ℕ). yes (record { name = name; words = w })) whole_words)

  -- reading the written line gives the name and the record, to the last bit
  pub line_after_record : Below 256 rec → (line_of text ≡ yes (record { name = name; words = words_up rec 24 }))
      × (bytes_of_all (words_up rec 24) ≡ rec)
  line_after_record b =
      let n : length rec ≡ 192 = eqb-true _ _ goods.0 in
      (is_line, bytes_up rec 24 b (omega arith) ∙ take_all 192 rec (omega arith))

-- ---- the bytes of words

below_two : (m : ℕ) (a b : List ℕ) → Below m a → Below m b → Below m (a ++ b)
below_two m [] b p q i = q i
below_two m (x ∷ a) b p q zero = p 0
below_two m (x ∷ a) b p q (suc i) = below_two m a b (λ j. p (suc j)) q i

below_bytes : (w x : ℕ) → Below 256 (bytes_of w x)
below_bytes zero x i = lit< tt
below_bytes (suc w) x zero = omega arith
below_bytes (suc w) x (suc i) = below_bytes w (x / 256) i

pub below_all : (ws : List ℕ) → Below 256 (bytes_of_all ws)
below_all [] i = lit< tt
below_all (x ∷ ws) i = below_two 256 (bytes_of 8 x) (bytes_of_all ws) (below_bytes 8 x) (below_all ws) i
