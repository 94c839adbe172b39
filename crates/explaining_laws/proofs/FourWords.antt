-- The words of a line that has four, with one space between them.
use mathlib.Core.Path.{◌≡◌, refl, sym, ap, ◌∙◌}
use mathlib.Core.Bool.{Bool, true, false, not, ◌&&◌}
use mathlib.Core.List.{List, [], ◌∷◌, ◌++◌, append_assoc, append-nil}
use Prim.Native.Nat.{ℕ, suc, ◌+◌, ◌-◌, ◌≤◌}
use native.Mathlib.Nat.{add-zero}
use native.Mathlib.Omega.{arith}
use lib.Dec.{eqb}
use lib.ListN.{length, take, length-append}
use lib.Seq.{take_at, drop_at}
use Rattle.refusal.specs.Clash.{clash}
use Rattle.spelling.specs.Bytes.{space}
use Rattle.words.specs.declared.Words.{Words}
use Rattle.words.specs.declared.Span.{Span}
use Rattle.words.specs.Words.{span, spans_from, spans_of, with_word, with_words, no_words, words_of, word_at, part_of}
use Rattle.words.specs.laws.Split.{spaceless, IsWord}
use Rattle.words.proofs.Parts.{part_there}

-- ---- the places of words

-- a letter of a word
letter : (b : ℕ) (w : List ℕ) → spaceless (b ∷ w) ≡ true → (eqb b space ≡ false) × (spaceless w ≡ true)
letter b w = by (eqb b space) refl
  where
    by : (t : Bool) → eqb b space ≡ t → not t && spaceless w ≡ true → (eqb b space ≡ false) × (spaceless w ≡ true)
    by true e h = clash cc
    by false e h = (e, h)

-- in the midst of a word that ends before a space, and of a last one
within : (w l : List ℕ) (start at : ℕ) → spaceless w ≡ true
    → spans_from true start at (w ++ space ∷ l)
    ≡ span start (at + length w) ∷ spans_from false 0 (suc (at + length w)) l
unfolding spans_from
within [] l start at h = rw add-zero
within (b ∷ w) l start at h =
    let f = letter b w h in
    let n : suc at + length w ≡ at + suc (length w) = omega arith in
    rw (f.0, ← n) (within w l start (suc at) f.1)

last_within : (w : List ℕ) (start at : ℕ) → spaceless w ≡ true
    → spans_from true start at w ≡ span start (at + length w) ∷ []
unfolding spans_from
last_within [] start at h = rw add-zero
last_within (b ∷ w) start at h =
    let f = letter b w h in
    let n : suc at + length w ≡ at + suc (length w) = omega arith in
    rw (f.0, ← n) (last_within w start (suc at) f.1)

first_span : (w l : List ℕ) (at : ℕ) → IsWord w
    → spans_from false 0 at (w ++ space ∷ l) ≡ span at (at + length w) ∷ spans_from false 0 (suc (at + length w)) l
unfolding spans_from
first_span [] l at h = let s = h.some in absurd (omega arith)
first_span (b ∷ w) l at h =
    let f = letter b w h.letters in
    let n : suc at + length w ≡ at + suc (length w) = omega arith in
    rw (f.0, ← n) (within w l at (suc at) f.1)

last_span : (w : List ℕ) (at : ℕ) → IsWord w → spans_from false 0 at w ≡ span at (at + length w) ∷ []
unfolding spans_from
last_span [] at h = let s = h.some in absurd (omega arith)
last_span (b ∷ w) at h =
    let f = letter b w h.letters in
    let n : suc at + length w ≡ at + suc (length w) = omega arith in
    rw (f.0, ← n) (last_within w at (suc at) f.1)

-- ---- the bytes at a place

here : (pre w l : List ℕ) (a e : ℕ) → a ≡ length pre → e ≡ a + length w → part_of (pre ++ (w ++ l)) a e ≡ w
here pre w l a e p q =
    let x : a ≤ e = omega arith in
    let y : e ≤ length (pre ++ (w ++ l)) = rw (length-append, length-append) (omega arith) in
    let n : length w ≡ e - a = omega arith in
    sym (part_there (pre ++ (w ++ l)) a e x y)
    ∙ ap (take (e - a)) (drop_at pre (w ++ l) a (sym p)) ∙ take_at w l (e - a) n

-- ---- four words

abbrev pub line_of : List ℕ → List ℕ → List ℕ → List ℕ → List ℕ
line_of a b c d = a ++ space ∷ (b ++ space ∷ (c ++ space ∷ d))

-- what its words are
pub record Four (line a b c d : List ℕ) : Type 0 where
  pub count : (words_of line).count ≡ 4
  pub first : word_at line (words_of line) 0 ≡ a
  pub second : word_at line (words_of line) 1 ≡ b
  pub third : word_at line (words_of line) 2 ≡ c
  pub fourth : word_at line (words_of line) 3 ≡ d

there : (line pre w l : List ℕ) (a e : ℕ) → line ≡ pre ++ (w ++ l) → a ≡ length pre → e ≡ a + length w
    → part_of line a e ≡ w
there line pre w l a e z p q = ap (λ (x : List ℕ). part_of x a e) z ∙ here pre w l a e p q

module _ (a b c d : List ℕ) (ha : IsWord a) (hb : IsWord b) (hc : IsWord c) (hd : IsWord d) where
  abbrev line : List ℕ
  line = line_of a b c d

  abbrev end0 : ℕ
  end0 = 0 + length a

  abbrev end1 : ℕ
  end1 = suc end0 + length b

  abbrev end2 : ℕ
  end2 = suc end1 + length c

  abbrev end3 : ℕ
  end3 = suc end2 + length d

  abbrev spans : List Span
  spans = span 0 end0 ∷ span (suc end0) end1 ∷ span (suc end1) end2 ∷ span (suc end2) end3 ∷ []

  are_spans : spans_of line ≡ spans
  are_spans =
      first_span a (b ++ space ∷ (c ++ space ∷ d)) 0 ha
      ∙ ap (λ (l : List Span). span 0 end0 ∷ l)
      (first_span b (c ++ space ∷ d) (suc end0) hb
      ∙ ap (λ (l : List Span). span (suc end0) end1 ∷ l)
      (first_span c d (suc end1) hc ∙ ap (λ (l : List Span). span (suc end1) end2 ∷ l) (last_span d (suc end2) hd)))

  are_words : words_of line ≡ with_words no_words spans
  unfolding words_of
  are_words = ap (with_words no_words) are_spans

  pub four_words : Four line a b c d
  unfolding with_words with_word
  four_words = record {
    count = ap (λ (w : Words). w.count) are_words;
    first =
        ap (λ (w : Words). word_at line w 0) are_words
        ∙ there line [] a (space ∷ (b ++ space ∷ (c ++ space ∷ d))) 0 end0 refl refl refl;
    second =
        ap (λ (w : Words). word_at line w 1) are_words
        ∙ there line (a ++ space ∷ []) b (space ∷ (c ++ space ∷ d)) (suc end0) end1 (sym (simp append_assoc))
        (simp length-append (omega arith)) refl;
    third =
        ap (λ (w : Words). word_at line w 2) are_words
        ∙ there line (a ++ space ∷ (b ++ space ∷ [])) c (space ∷ d) (suc end1) end2 (sym (simp append_assoc))
        (simp length-append (omega arith)) refl;
    fourth =
        ap (λ (w : Words). word_at line w 3) are_words
        ∙ there line (a ++ space ∷ (b ++ space ∷ (c ++ space ∷ []))) d [] (suc end2) end3
        (sym (simp (append_assoc, append-nil))) (simp length-append (omega arith)) refl;
  }
