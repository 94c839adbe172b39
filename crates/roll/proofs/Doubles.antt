-- The search for a name that stands twice: from the last name on, with a mark made for every name passed.
use Rattle.std.proofs.Common.{◌≡◌, ℕ, zero, suc, ◌+◌, ◌-◌, ◌*◌, ◌/◌, ◌<◌, ◌≤◌, Bool, true, false, ◌&&◌, ◌||◌, List, ◌∷◌, ◌++◌, length, take, drop, sym, refl, ap, ◌∙◌, ap₂, arith, lit<, length-drop, length-set, length-take-le, drop-drop}
use mathlib.Core.Bool.{and-false}
use Rattle.bytes_le.specs.Le.{le, bytes_of, Word, word_bytes}
use Rattle.bytes_le.proofs.Laws.{rest}
use Rattle.name.specs.Name.{same, same_equal}
use Rattle.name.proofs.Laws.{Words, words_in}
use Rattle.roll.specs.Directory.{among, twice, name_bytes, names_in}
use Rattle.roll.proofs.Names.{never, or_true, or_false, cut_more}
use Rattle.roll.specs.inner.Marks.{slot_of, slots, digits, mark_words, made, with_mark}
use Rattle.roll.proofs.Marks.{is_set, stays}

-- the number of a name's mark
abbrev mark_of : List ℕ → ℕ
mark_of x = slot_of (le (take word_bytes x)) (le (drop word_bytes x))

-- the name i of a directory, and the part after it
abbrev pub name_at : ℕ → List ℕ → List ℕ
name_at i d = take (name_bytes * i + name_bytes - name_bytes * i) (drop (name_bytes * i) d)

abbrev pub after_name : ℕ → List ℕ → List ℕ
after_name i d = take (length d - (name_bytes * i + name_bytes)) (drop (name_bytes * i + name_bytes) d)

true_false : {X : Type 0} → true ≡ false → X
true_false e = never (cc)

-- of the names from place i on none stands twice, and each has its mark
pub record Marked (d marks : List ℕ) (i : ℕ) : Type 0 where
  pub within : name_bytes * i ≤ length d
  pub kept : length marks ≡ mark_words
  pub single : twice (names_in (drop (name_bytes * i) d)) ≡ false
  pub marked : (x : List ℕ) → among x (names_in (drop (name_bytes * i) d)) ≡ true → made marks (mark_of x) ≡ true

-- one that stands twice further on stands twice
later : (d : List ℕ) (i : ℕ) → name_bytes * i ≤ length d → twice (names_in (drop (name_bytes * i) d)) ≡ true
    → twice (names_in d) ≡ true
later d zero h e = e
later d (suc i) h e =
    let t : List ℕ = drop (name_bytes * i) d in
    let long : name_bytes ≤ length t = rw length-drop (omega arith) in
    let e₁ : name_bytes * i + name_bytes ≡ name_bytes * suc i = omega arith in
    let next : drop (name_bytes * suc i) d ≡ drop name_bytes t =
    sym (drop-drop name_bytes (name_bytes * i) d ∙ ap (λ (n : ℕ). drop n d) e₁) in
    later d i (omega arith)
    (ap twice (cut_more name_bytes t (lit< tt) long) ∙ ap
    (λ (b : Bool). among (take name_bytes t) (names_in (drop name_bytes t)) || b)
    (sym (ap (λ (l : List ℕ). twice (names_in l)) next) ∙ e)
    ∙ or_right (among (take name_bytes t) (names_in (drop name_bytes t))))
  where
    or_right : (a : Bool) → a || true ≡ true
    or_right true = refl
    or_right false = refl

by_mark : (m a b : Bool) → (a ≡ true → m ≡ true) → b ≡ (m && a) → b ≡ false → a ≡ false
by_mark m true b f e g = true_false (sym (e ∙ ap (λ (t : Bool). t && true) (f refl)) ∙ g)
by_mark m false b f e g = refl

by_true : (m a b : Bool) → b ≡ (m && a) → b ≡ true → a ≡ true
by_true m true b e g = refl
by_true m false b e g = true_false (sym g ∙ e ∙ and-false m)

-- a name among those of a longer list is its first or one of the rest
among_cons : {P : Type 0} (x y : List ℕ) (l : List (List ℕ)) (t : Bool) → same x y ≡ t → (t || among x l) ≡ true
    → (x ≡ y → P) → (among x l ≡ true → P) → P
among_cons x y l true e h here there = here (same_equal x y e)
among_cons x y l false e h here there = there h

-- one turn: the name before place i has the words low and high and its mark the number k; found is what looking it
-- up gave
module _ {d marks : List ℕ} {i : ℕ} (v : Marked d marks i) (pos : 0 < i) {low high k : ℕ} {found : Bool}
    (p : Word (name_at (i - 1) d) low) (q : Word (drop word_bytes (name_at (i - 1) d)) high)
    (ek : k ≡ slot_of low high) (hk : k < slots)
    (ef : found ≡ (made marks k
    && among (bytes_of word_bytes low ++ bytes_of word_bytes high) (names_in (after_name (i - 1) d)))) where
  t : List ℕ
  t = drop (name_bytes * (i - 1)) d

  long : name_bytes ≤ length t
  unfolding t
  long = let h = v.within in rw length-drop (omega arith)

  there : name_bytes * (i - 1) + name_bytes ≡ name_bytes * i
  there = omega arith

  next : drop name_bytes t ≡ drop (name_bytes * i) d
  unfolding t
  next = drop-drop name_bytes (name_bytes * (i - 1)) d ∙ ap (λ (n : ℕ). drop n d) there

  x : List ℕ
  x = take name_bytes t

  own : name_at (i - 1) d ≡ x
  unfolding t x
  own =
      let e : name_bytes * (i - 1) + name_bytes - name_bytes * (i - 1) ≡ name_bytes = omega arith in
      ap (λ (n : ℕ). take n (drop (name_bytes * (i - 1)) d)) e

  words : Words x low high
  unfolding x
  words = words_in x (length-take-le name_bytes t long) (rw own at p) (rw own at q)

  is_mark : mark_of x ≡ k
  is_mark = ap₂ slot_of (sym words.low) (sym words.high) ∙ sym ek

  looked : found ≡ (made marks k && among x (names_in (drop (name_bytes * i) d)))
  looked =
      ef ∙ ap₂ (λ (n l : List ℕ). made marks k && among n (names_in l)) (sym words.bytes)
      (rest d (name_bytes * (i - 1) + name_bytes) ∙ ap (λ (n : ℕ). drop n d) there)

  from_here : names_in t ≡ x ∷ names_in (drop (name_bytes * i) d)
  unfolding x
  from_here = cut_more name_bytes t (lit< tt) long ∙ ap (λ (l : List ℕ). take name_bytes t ∷ names_in l) next

  pub marks_twice : found ≡ true → true ≡ twice (names_in d)
  unfolding t
  marks_twice e =
      let a : among x (names_in (drop (name_bytes * i) d)) ≡ true = by_true (made marks k) _ found looked e in
      let h : name_bytes * (i - 1) ≤ length d = let w = v.within in omega arith in
      sym (later d (i - 1) h (ap twice from_here ∙ or_true a _))

  pub marks_more : found ≡ false → Marked d (with_mark marks k) (i - 1)
  unfolding t
  marks_more e =
      let a : among x (names_in (drop (name_bytes * i) d)) ≡ false =
      by_mark (made marks k) _ found (λ h. ap (made marks) (sym is_mark) ∙ v.marked x h) looked e in
      record {
        within = let w = v.within in omega arith;
        kept = length-set marks (k / digits) _ ∙ v.kept;
        single = ap twice from_here ∙ or_false a ∙ v.single;
        marked = λ y h.
            among_cons y x (names_in (drop (name_bytes * i) d)) (same y x) refl
            (sym (ap (among y) from_here) ∙ h)
            (λ f. ap (made (with_mark marks k)) (ap mark_of f ∙ is_mark) ∙ is_set marks k v.kept hk)
            (λ f. stays marks k v.kept hk (mark_of y) (v.marked y f));
      }
