-- The keys that are written, taken one after the other: each is known and new, and its number reads back.
use mathlib.Core.Path.{◌≡◌, refl, sym, ap, ap₂, ◌∙◌}
use mathlib.Core.Bool.{Bool, true, false, not, ◌&&◌, true≢false}
use mathlib.Core.List.{List, [], ◌∷◌, ◌++◌, append-nil}
use Prim.Native.Nat.{ℕ, zero, suc, ◌+◌, ◌-◌, ◌/◌, ◌%◌, ◌≤◌, ◌<◌}
use native.Mathlib.Numerals.{add-one}
use native.Mathlib.Omega.{arith}
use lib.Dec.{T, eqb, ltb}
use lib.ListN.{length, take, drop, get_or, set, replicate, length-append, length-replicate}
use lib.Seq.{take_at, drop-cons, set_at, get_or_at, append_snoc}
use borrow.Author.Tests.{ne_eqb, eqb-true, ltb-true, ltb-false}
use Rattle.refusal.specs.Order.{Verdict, no, yes, and_then}
use Rattle.bytes_le.proofs.Laws.{rest}
use Rattle.whole.specs.laws.Every.{at_each}
use Rattle.clip.specs.Record as record-words
use Rattle.spelling.specs.Bytes.{space}
use Rattle.spelling.specs.Digits.{plain_digits, sign_of}
use Rattle.words.specs.laws.Split.{spaceless, IsWord}
use Rattle.std.specs.Prelude.{Option, Some, None}
use Rattle.decimal.specs.declared.Decimal.{Decimal}
use Rattle.shortest.specs.Form.{form_of}
use Rattle.decimal_read.specs.Text.{word_read}
use Rattle.decimal_write.specs.Written.{power_if, power_text, number_text, form_text}
use Rattle.decimal_write.proofs.Puts.{one_digit, more_digits}
use Rattle.decimal_laws.proofs.Back.{read_of_written}
use Rattle.packing.proofs.Packs.{both}
use Rattle.keys.specs.Keys.{key_count, key_number, key_word, defaults}
use Rattle.line.specs.Line.{Taken, taken, none_taken, equals_at, take_key, take_keys}
use Rattle.line.proofs.Keyed.{key_number_lem}
use Rattle.keyed.specs.Keyed.{is_form, forms_up, keys_up}
use Rattle.line_laws.proofs.Joined.{joined, joined_two, AllWords, none, more}

-- ---- bytes that are no space

spaceless_two : (a b : List ℕ) → spaceless a ≡ true → spaceless b ≡ true → spaceless (a ++ b) ≡ true
spaceless_two [] b h k = k
spaceless_two (x ∷ a) b h k =
    let p = both (not (eqb x space)) (spaceless a) h in ap₂ ◌&&◌ p.0 (spaceless_two a b p.1 k)

spaceless_one : (b : ℕ) (l : List ℕ) → 32 < b → spaceless l ≡ true → spaceless (b ∷ l) ≡ true
spaceless_one b l h k = rw (ne_eqb b space (λ (e : b ≡ space). omega arith)) k

spaceless_digits : (k d : ℕ) → spaceless (plain_digits k d) ≡ true
unfolding plain_digits
spaceless_digits zero d = refl
spaceless_digits (suc k) d = by (ltb d 10) refl (spaceless_digits k (d / 10))
  where
    by : (t : Bool) → ltb d 10 ≡ t → spaceless (plain_digits k (d / 10)) ≡ true
        → spaceless (plain_digits (suc k) d) ≡ true
    by true e i = rw (one_digit k d (ltb-true d 10 e)) (spaceless_one (48 + d) [] (omega arith) refl)
    by false e i =
        rw (more_digits k d (ltb-false d 10 e))
        (spaceless_two (plain_digits k (d / 10)) ((48 + d % 10) ∷ []) i (spaceless_one (48 + d % 10) []
        (omega arith) refl))

spaceless_power : (q : ℕ) → spaceless (power_text q) ≡ true
unfolding power_text
spaceless_power q = by (ltb q 22)
  where
    by : (t : Bool) → spaceless (power_if t q) ≡ true
    by true = spaceless_digits 2 (22 - q)
    by false = spaceless_digits 2 (q - 22)

spaceless_sign : (m : Bool) → spaceless (sign_of m) ≡ true
spaceless_sign true = refl
spaceless_sign false = refl

spaceless_form : (f : Option Decimal) → spaceless (form_text f) ≡ true
unfolding form_text number_text
spaceless_form None = refl
spaceless_form (Some x) =
    let d = plain_digits 15 x.digits in
    let p = power_text x.power in
    spaceless_two (sign_of x.minus) (d ++ (101 ∷ p)) (spaceless_sign x.minus)
    (spaceless_two d (101 ∷ p) (spaceless_digits 15 x.digits) (spaceless_power x.power))

-- ---- every key, by one test

no_equals : List ℕ → Bool
no_equals [] = true
no_equals (b ∷ w) = not (eqb b 61) && no_equals w

sound : ℕ → Bool
sound n = eqb (key_number (key_word n)) n && (no_equals (key_word n) && spaceless (key_word n))

true_of : (b : Bool) → T b → b ≡ true
true_of true t = refl
true_of false t = absurd t

all_sound : (n : ℕ) → n < key_count → sound n ≡ true
unfolding sound no_equals key_number
all_sound n h = true_of (sound n) (at_each sound key_count tt n h)

module _ (n : ℕ) (h : n < key_count) where
  own_number : key_number (key_word n) ≡ n
  unfolding sound
  own_number =
      eqb-true _ _ (both (eqb (key_number (key_word n)) n) (no_equals (key_word n) && spaceless (key_word n))
      (all_sound n h)).0

  other_tests : no_equals (key_word n) && spaceless (key_word n) ≡ true
  unfolding sound
  other_tests = (both (eqb (key_number (key_word n)) n) (no_equals (key_word n) && spaceless (key_word n)) (all_sound n h)).1

  no_equals_lem : no_equals (key_word n) ≡ true
  no_equals_lem = (both (no_equals (key_word n)) (spaceless (key_word n)) other_tests).0

  no_space : spaceless (key_word n) ≡ true
  no_space = (both (no_equals (key_word n)) (spaceless (key_word n)) other_tests).1

-- ---- one key

equals_at_lem : (k t : List ℕ) → no_equals k ≡ true → equals_at (k ++ (61 ∷ t)) ≡ length k
unfolding equals_at no_equals
equals_at_lem [] t h = refl
equals_at_lem (b ∷ k) t h = by (eqb b 61) refl h (equals_at_lem k t)
  where
    by : (c : Bool) → eqb b 61 ≡ c → not c && no_equals k ≡ true
        → (no_equals k ≡ true → equals_at (k ++ (61 ∷ t)) ≡ length k) → equals_at (b ∷ (k ++ (61 ∷ t))) ≡ suc (length k)
    by true e h f = absurd (true≢false (sym h))
    by false e h f = rw e (ap suc (f h))

key_taken : (s : Taken) (n : ℕ) (t : List ℕ) (x : ℕ) → n < key_count → get_or s.given n false ≡ false
    → word_read t ≡ Some x
    → take_key s (key_word n ++ (61 ∷ t)) ≡ yes (taken (set s.words n x) (set s.given n true))
key_taken s n t x h g r =
    let w = key_word n ++ (61 ∷ t) in
    let m = length (key_word n) in
    let l : m < length w = rw length-append (omega arith) in
    let z : m ≡ m - 0 = omega arith in
    let q : n ≡ key_number (take (m - 0) w) =
    sym (ap key_number (take_at (key_word n) (61 ∷ t) (m - 0) z) ∙ own_number n h) in
    let after : drop (m + 1) w ≡ t =
    ap (λ (i : ℕ). drop i w) (add-one m) ∙ drop_more (key_word n) t in
    sym (key_number_lem s w (sym (equals_at_lem (key_word n) t (no_equals_lem n h))) l q h g
    (ap word_read (sym (rest w (m + 1) ∙ after))) r)
  where
    drop_more : (k t : List ℕ) → drop (suc (length k)) (k ++ (61 ∷ t)) ≡ t
    drop_more [] t = refl
    drop_more (b ∷ k) t = drop_more k t

-- ---- the keys of a record

module _ (rec : List ℕ) where
  abbrev pub keyed : ℕ → List ℕ
  keyed n = key_word n ++ (61 ∷ form_text (form_of (record-words.word_at rec n)))

  -- the first n, and the words that they stand for
  abbrev pub keyed_up : ℕ → List (List ℕ)
  keyed_up zero = []
  keyed_up (suc n) = keyed_up n ++ (keyed n ∷ [])

  abbrev pub words_up : ℕ → List ℕ
  words_up zero = []
  words_up (suc n) = words_up n ++ (record-words.word_at rec n ∷ [])

  pub keys_joined : (n : ℕ) → keys_up rec n ≡ joined (keyed_up n)
  unfolding keys_up
  keys_joined zero = refl
  keys_joined (suc n) =
      ap₂ ◌++◌ (keys_joined n) (ap (λ (t : List ℕ). space ∷ t) (sym (append-nil (keyed n))))
      ∙ sym (joined_two (keyed_up n) (keyed n ∷ []))

  is_word : (n : ℕ) → n < key_count → IsWord (keyed n)
  is_word n h = record {
    some = rw length-append (omega arith);
    letters =
        spaceless_two (key_word n) (61 ∷ form_text (form_of (record-words.word_at rec n))) (no_space n h)
        (spaceless_form (form_of (record-words.word_at rec n)));
  }

  words_on : {ws : List (List ℕ)} {w : List ℕ} → AllWords ws → IsWord w → AllWords (ws ++ (w ∷ []))
  words_on none p = more p none
  words_on (more q r) p = more q (words_on r p)

  pub all_words : (n : ℕ) → n ≤ key_count → AllWords (keyed_up n)
  all_words zero h = none
  all_words (suc n) h = words_on (all_words n (omega arith)) (is_word n h)

  pub words_long : (n : ℕ) → length (words_up n) ≡ n
  words_long zero = refl
  words_long (suc n) = let e = words_long n in rw length-append (omega arith)

  -- what is taken of them
  abbrev pub taken_up : ℕ → Taken
  taken_up n = taken (words_up n ++ drop n defaults) (replicate n true ++ replicate (key_count - n) false)

  reads_back : (n : ℕ) → is_form (form_of (record-words.word_at rec n)) ≡ true
      → word_read (form_text (form_of (record-words.word_at rec n))) ≡ Some (record-words.word_at rec n)
  unfolding form_text
  reads_back n h = by (form_of (record-words.word_at rec n)) refl h
    where
      by : (f : Option Decimal) → form_of (record-words.word_at rec n) ≡ f → is_form f ≡ true
          → word_read (form_text f) ≡ Some (record-words.word_at rec n)
      by (Some x) e h = read_of_written (record-words.word_at rec n) x.minus x.digits x.power e
      by None e h = absurd (true≢false (sym h))

  -- the next key is not given yet
  fresh : (n : ℕ) → n < key_count
      → (taken_up n).given ≡ replicate n true ++ (false ∷ replicate (key_count - suc n) false)
  fresh n h =
      let e : key_count - n ≡ suc (key_count - suc n) = omega arith in
      ap (λ (k : ℕ). replicate n true ++ replicate k false) e

  given_on : (n : ℕ) → n < key_count → set (taken_up n).given n true ≡ (taken_up (suc n)).given
  given_on n h =
      ap (λ (g : List Bool). set g n true) (fresh n h)
      ∙ set_at (replicate n true) false (replicate (key_count - suc n) false) true n (length-replicate n true)
      ∙ trues n (replicate (key_count - suc n) false)
    where
      trues : (n : ℕ) (r : List Bool) → replicate n true ++ (true ∷ r) ≡ true ∷ (replicate n true ++ r)
      trues zero r = refl
      trues (suc n) r = ap (λ (l : List Bool). true ∷ l) (trues n r)

  defaults_long : length defaults ≡ 24
  unfolding defaults
  defaults_long = refl

  words_set : (n x : ℕ) → n < key_count
      → set (words_up n ++ drop n defaults) n x ≡ (words_up n ++ (x ∷ [])) ++ drop (suc n) defaults
  words_set n x h =
      let l : n < length defaults = let e = defaults_long in omega arith in
      ap (λ (d : List ℕ). set (words_up n ++ d) n x) (drop-cons defaults n 0 l)
      ∙ set_at (words_up n) (get_or defaults n 0) (drop (suc n) defaults) x n (words_long n)
      ∙ sym (append_snoc (words_up n) x (drop (suc n) defaults))

  taken_on : (n : ℕ) → n < key_count → is_form (form_of (record-words.word_at rec n)) ≡ true
      → take_key (taken_up n) (keyed n) ≡ yes (taken_up (suc n))
  taken_on n h f =
      let g : get_or (taken_up n).given n false ≡ false =
      ap (λ (l : List Bool). get_or l n false) (fresh n h)
      ∙ get_or_at (replicate n true) false (replicate (key_count - suc n) false) false n (length-replicate n true) in
      key_taken (taken_up n) n (form_text (form_of (record-words.word_at rec n))) (record-words.word_at rec n) h g
      (reads_back n f)
      ∙ ap₂ (λ (w : List ℕ) (g : List Bool). yes (taken w g)) (words_set n (record-words.word_at rec n) h) (given_on n h)

  then_yes : (v : Verdict Taken) → and_then v (λ (t : Taken). yes t) ≡ v
  then_yes (no f) = refl
  then_yes (yes t) = refl

  take_last : (s : Taken) (ws : List (List ℕ)) (w : List ℕ)
      → take_keys s (ws ++ (w ∷ [])) ≡ and_then (take_keys s ws) (λ (t : Taken). take_key t w)
  unfolding take_keys
  take_last s [] w = then_yes (take_key s w)
  take_last s (v ∷ ws) w = by (take_key s v) (λ (t : Taken). take_last t ws w)
    where
      by : (x : Verdict Taken)
          → ((t : Taken) → take_keys t (ws ++ (w ∷ [])) ≡ and_then (take_keys t ws) (λ (t : Taken). take_key t w))
          → and_then x (λ (t : Taken). take_keys t (ws ++ (w ∷ [])))
          ≡ and_then (and_then x (λ (t : Taken). take_keys t ws)) (λ (t : Taken). take_key t w)
      by (no f) g = refl
      by (yes t) g = g t

  pub take_up : (n : ℕ) → n ≤ key_count → forms_up rec n ≡ true → take_keys none_taken (keyed_up n) ≡ yes (taken_up n)
  unfolding take_keys forms_up
  take_up zero h f = refl
  take_up (suc n) h f =
      let p = both (forms_up rec n) (is_form (form_of (record-words.word_at rec n))) f in
      take_last none_taken (keyed_up n) (keyed n)
      ∙ ap (λ (v : Verdict Taken). and_then v (λ (t : Taken). take_key t (keyed n))) (take_up n (omega arith) p.0)
      ∙ taken_on n h p.1
