-- A line parted in words: what passing spaces, and passing a word, leaves of it.
use mathlib.Core.Path.{◌≡◌, sym, ap, subst, ◌∙◌}
use mathlib.Core.List.{List, [], ◌∷◌}
use mathlib.Core.Logic.{◌⊎◌, inl, inr}
use Prim.Native.Nat.{ℕ, zero, suc, ◌+◌, ◌-◌, ◌<◌, ◌≤◌}
use native.Mathlib.Numerals.{add-one}
use native.Mathlib.Omega.{arith}
use borrow.Author.Tests.{eq-eqb, ne_eqb, le-leb, lt-leb}
use lib.ListN.{length, drop, get_or, drop_of_length-le, length-drop}
use lib.Seq.{drop-cons, get_or-drop, take_all}
use Rattle.std.specs.Prelude.{Option, Some, None}
use Rattle.std.specs.Option.{MatchOption, UnwrapsOrElse, option_copied}
use denote.Ref.{Bor}
use Rattle.std.proofs.lemmas.Bool.{cases_lt}
use Rattle.std.proofs.lemmas.List.{get_or_past}
use Rattle.std.specs.List.{AllWithin, HoldsAt, slice_range}
use Rattle.spelling.specs.Bytes.{space}
use Rattle.words.specs.declared.Words.{Words}
use Rattle.words.specs.declared.Span.{Span}
use Rattle.words.specs.Words.{span, spans_from, no_words, with_word, with_words, words_of, part_of, part_at}
use Rattle.words.specs.inner.Passing.{outside, inside, FirstWord}

abbrev pub Space : ℕ → Type 0
Space b = b ≡ space

abbrev pub Letter : ℕ → Type 0
Letter b = b ≡ space → ⊥

pub range_to_end : (line : List ℕ) (at : ℕ) → slice_range line at (length line) ≡ drop at line
range_to_end line at = take_all (length line - at) (drop at line) (rw length-drop (omega arith))

-- what stands at k, or a value for none
module _ {X : Type 0} (xs : List X) (k : ℕ) (d r : X) (P : X → Type 0) (none : P r → r ≡ d) where
  pub held_or : (o : Option (Bor X))
      → MatchOption o (length xs ≤ k) (λ x. (k < length xs) × HoldsAt (λ y. x.now ≡ y) xs k)
      → UnwrapsOrElse (option_copied o) P r → r ≡ get_or xs k d
  held_or None f g = none g ∙ sym (get_or_past xs k d f)
  held_or (Some x) f g = g ∙ f.1 d

module _ (line : List ℕ) (a e : ℕ) where
  pub part_there : a ≤ e → e ≤ length line → slice_range line a e ≡ part_of line a e
  unfolding part_of
  part_there f g = rw (le-leb a e f, le-leb e (length line) g)

  pub part_back : e < a → [] ≡ part_of line a e
  unfolding part_of
  part_back f = rw (lt-leb a e f)

  pub part_beyond : a ≤ e → length line < e → [] ≡ part_of line a e
  unfolding part_of
  part_beyond f g = rw (le-leb a e f, lt-leb e (length line) g)

-- the bytes from a place to another, or none
module _ {A : Type 0} (now : A → List ℕ) (line : List ℕ) (s : Span) (r : A) (P : A → Type 0) (none : P r → now r ≡ []) where
  pub cut : (o : Option A)
      → MatchOption o ((s.end < s.start) ⊎ (length line < s.end))
      (λ x. (s.start ≤ s.end) × (s.end ≤ length line) × (now x ≡ slice_range line s.start s.end)
      × (length (now x) + s.start ≡ s.end))
      → UnwrapsOrElse o P r → now r ≡ part_at line s
  cut (Some x) f g = ap now g ∙ f.2 ∙ part_there line s.start s.end f.0 f.1
  cut None (inl h) g = none g ∙ part_back line s.start s.end h
  cut None (inr h) g = none g ∙ either (cases_lt s.end s.start) h
    where
      either : (s.end < s.start) ⊎ (s.start ≤ s.end) → length line < s.end → [] ≡ part_at line s
      either (inl l) h = part_back line s.start s.end l
      either (inr l) h = part_beyond line s.start s.end l h

-- ---- a byte passed

module _ (line : List ℕ) (i : ℕ) (h : i < length line) where
  outside_space : Space (get_or line i 0) → outside line i ≡ outside line (i + 1)
  unfolding spans_from
  outside_space e = rw (add-one, drop-cons line i 0 h, eq-eqb (get_or line i 0) space e)

  outside_letter : Letter (get_or line i 0) → outside line i ≡ inside line i (i + 1)
  unfolding spans_from
  outside_letter e = rw (add-one, drop-cons line i 0 h, ne_eqb (get_or line i 0) space e)

  inside_letter : (start : ℕ) → Letter (get_or line i 0) → inside line start i ≡ inside line start (i + 1)
  unfolding spans_from
  inside_letter start e = rw (add-one, drop-cons line i 0 h, ne_eqb (get_or line i 0) space e)

  inside_space : (start : ℕ) → Space (get_or line i 0) → inside line start i ≡ span start i ∷ outside line i
  unfolding spans_from
  inside_space start e = rw (drop-cons line i 0 h, eq-eqb (get_or line i 0) space e)

module _ (line : List ℕ) (i : ℕ) (h : length line ≤ i) where
  pub outside_end : outside line i ≡ []
  unfolding spans_from
  outside_end = rw (drop_of_length-le line h)

  inside_end : (start : ℕ) → inside line start i ≡ span start i ∷ outside line i
  unfolding spans_from
  inside_end start = rw (drop_of_length-le line h)

-- ---- n bytes passed from `at` on

module _ (line : List ℕ) (at : ℕ) where
  read_on : (P : ℕ → Type 0) (k : ℕ) → P (get_or (drop at line) k 0) → P (get_or line (at + k) 0)
  read_on P k = subst P (get_or-drop at line k 0)

  pub spaces_passed : (n : ℕ) → at + n ≤ length line → AllWithin Space (drop at line) 0 n
      → outside line at ≡ outside line (at + n)
  spaces_passed zero h f = ap (outside line) (omega arith)
  spaces_passed (suc n) h f =
      spaces_passed n (omega arith) (λ k d l m. f k d l (omega arith))
      ∙ outside_space line (at + n) (omega arith) (read_on Space n (f n 0 (omega arith) (omega arith)))
      ∙ ap (outside line) (omega arith)

  first_letter : (i : ℕ) → at ≡ i → at < length line → Letter (get_or line i 0) → outside line at ≡ inside line at (at + 1)
  first_letter i e h l = outside_letter line at h (subst (λ (k : ℕ). Letter (get_or line k 0)) (sym e) l)

  letters_passed : (n : ℕ) → at + suc n ≤ length line → AllWithin Letter (drop at line) 0 (suc n)
      → outside line at ≡ inside line at (at + suc n)
  letters_passed zero h f =
      first_letter (at + 0) (omega arith) (omega arith) (read_on Letter 0 (f 0 0 (omega arith) (omega arith)))
      ∙ ap (inside line at) (omega arith)
  letters_passed (suc n) h f =
      letters_passed n (omega arith) (λ k d l m. f k d l (omega arith))
      ∙ inside_letter line (at + suc n) (omega arith) at (read_on Letter (suc n) (f (suc n) 0 (omega arith) (omega arith)))
      ∙ ap (inside line at) (omega arith)

-- ---- the next word

module _ (line : List ℕ) (at : ℕ) where
  pub spaces_alone : at ≤ length line → AllWithin Space (drop at line) 0 (length (drop at line)) → outside line at ≡ []
  spaces_alone h f =
      let e : length (drop at line) ≡ length line - at = length-drop at line in
      spaces_passed line at (length (drop at line)) (omega arith) f
      ∙ outside_end line (at + length (drop at line)) (omega arith)

  -- n spaces, and then a word
  module _ (n : ℕ) (h : n < length (drop at line)) (letter : HoldsAt Letter (drop at line) n)
      (spaces : AllWithin Space (drop at line) 0 n) where
    within : at + n < length line
    within = let e : length (drop at line) ≡ length line - at = length-drop at line in omega arith

    -- of m bytes
    module _ (m : ℕ) (k : at + n + m ≤ length line) (letters : AllWithin Letter (drop (at + n) line) 0 m) where
      word_ended : 0 < m → inside line (at + n) (at + n + m) ≡ span (at + n) (at + n + m) ∷ outside line (at + n + m)
          → FirstWord line at (span (at + n) (at + n + m))
      word_ended l e =
          let w = within in
          let one : suc (m - 1) ≡ m = omega arith in
          record {
            later = omega arith;
            order = omega arith;
            most = k;
            parted =
                spaces_passed line at n (omega arith) spaces
                ∙ subst (λ (i : ℕ). outside line (at + n) ≡ inside line (at + n) (at + n + i)) one
                (letters_passed line (at + n) (m - 1) (omega arith) (rw one letters))
                ∙ e;
          }

    no_letter : Space (get_or (drop (at + n) line) 0 0) → ⊥
    no_letter z =
        let same : at + n + 0 ≡ at + n = omega arith in
        read_on line at Letter n (letter 0) (subst (λ (i : ℕ). Space (get_or line i 0)) same (read_on line (at + n) Space 0 z))

    pub word_to_space : (m : ℕ) → m < length (drop (at + n) line) → HoldsAt Space (drop (at + n) line) m
        → AllWithin Letter (drop (at + n) line) 0 m → FirstWord line at (span (at + n) (at + n + m))
    word_to_space m l g f =
        let e : length (drop (at + n) line) ≡ length line - (at + n) = length-drop (at + n) line in
        let some : (m ≡ 0) → ⊥ = λ z. no_letter (subst (λ (i : ℕ). Space (get_or (drop (at + n) line) i 0)) z (g 0)) in
        word_ended m (omega arith) f (omega arith)
        (inside_space line (at + n + m) (omega arith) (at + n) (read_on line (at + n) Space m (g 0)))

    pub word_to_end : AllWithin Letter (drop (at + n) line) 0 (length (drop (at + n) line))
        → FirstWord line at (span (at + n) (length line))
    word_to_end f =
        let w = within in
        let e : length (drop (at + n) line) ≡ length line - (at + n) = length-drop (at + n) line in
        let all : at + n + (length line - (at + n)) ≡ length line = omega arith in
        subst (λ (i : ℕ). FirstWord line at (span (at + n) i)) all
        (word_ended (length line - (at + n)) (omega arith) (rw (← e) f) (omega arith)
        (inside_end line (at + n + (length line - (at + n))) (omega arith) (at + n)))

-- ---- all words

pub record Parted (line : List ℕ) (w : Words) (at : ℕ) : Type 0 where
  pub most : at ≤ length line
  pub same : words_of line ≡ with_words w (outside line at)

pub parted_first : (line : List ℕ) (w : Words) → w ≡ no_words → Parted line w 0
unfolding words_of
parted_first line w e = record { most = omega arith; same = rw e }

pub parted_on : {line : List ℕ} {w : Words} {at : ℕ} (more : Words) (s : Span) → Parted line w at → FirstWord line at s
    → more ≡ with_word w s → Parted line more s.end
unfolding with_words
parted_on {line} {w} more s v p e = record { most = p.most; same = v.same ∙ ap (with_words w) p.parted ∙ rw e }

pub parted_end : {line : List ℕ} {w : Words} {at : ℕ} → Parted line w at → outside line at ≡ [] → w ≡ words_of line
unfolding with_words
parted_end {line} {w} v e = sym (v.same ∙ ap (with_words w) e)
