-- The header's tests, and what a header that passes them says.
use mathlib.Core.Path.{◌≡◌, refl, sym, ◌∙◌, ap}
use mathlib.Core.Bool.{Bool, true, false, cond, ◌&&◌}
use mathlib.Core.List.{List}
use mathlib.Core.Logic.{◌⊎◌, inl, inr}
use Prim.Native.Nat.{ℕ, ◌*◌, ◌-◌, ◌<◌, ◌≤◌}
use native.Mathlib.Nat.{mul-le-mul}
use native.Mathlib.Omega.{arith}
use borrow.Author.Tests.{ltb-true, leb-true, eqb-true, le-ltb, ne_eqb}
use lib.Dec.{eqb, leb, ltb}
use lib.ListN.{length, take, drop}
use Rattle.roll.specs.Directory.{name_bytes}
use Rattle.name.proofs.Laws.{and_false}
use Rattle.directory.specs.Format.{header_bytes, most_cards, words_of, records_at, whole_of}
use Rattle.directory.specs.Format.{version, count, directory_offset, records_offset, whole_length}
use Rattle.directory.specs.Format.{agree, headed, directory}
use Rattle.roll.proofs.Names.{never}
use Rattle.directory.specs.Format.{most_words}

-- no record is wider than that, so the words of all cards are few
pub narrow : (v : ℕ) → words_of v ≤ most_words
unfolding words_of
narrow v = by_tests (eqb v 1) (eqb v 2)
  where
    by_tests : (p q : Bool) → cond p (words_of 1) (cond q (words_of 2) 0) ≤ most_words
    by_tests true q = omega arith
    by_tests false true = omega arith
    by_tests false false = omega arith

-- two versions are known
pub known_version : (v : ℕ) → 0 < words_of v → (v ≡ 1) ⊎ (v ≡ 2)
unfolding words_of
known_version v h = by_tests (eqb v 1) (eqb v 2) refl refl h
  where
    by_tests : (p q : Bool) → eqb v 1 ≡ p → eqb v 2 ≡ q → 0 < cond p (words_of 1) (cond q (words_of 2) 0)
        → (v ≡ 1) ⊎ (v ≡ 2)
    by_tests true q e f g = inl (eqb-true v 1 e)
    by_tests false true e f g = inr (eqb-true v 2 f)
    by_tests false false e f g = absurd (omega arith)

-- and no other
pub other_version : (v : ℕ) → (v ≡ 1 → ⊥) → (v ≡ 2 → ⊥) → words_of v ≡ 0
unfolding words_of
other_version v f g =
    ap (λ (t : Bool). cond t (words_of 1) (cond (eqb v 2) (words_of 2) 0)) (ne_eqb v 1 f)
    ∙ ap (λ (t : Bool). cond t (words_of 2) 0) (ne_eqb v 2 g)

pub few : {k n : ℕ} → k ≤ most_words → n ≤ most_cards → k * n ≤ most_words * most_cards
few hk hn = mul-le-mul hk hn

-- ---- a version that is not known

module _ (v n d r w l : ℕ) {k : ℕ} (e : k ≡ words_of v) where
  pub agree_version : k ≡ 0 → false ≡ agree v n d r w l
  unfolding agree
  agree_version z = let h : words_of v ≤ 0 = omega arith in sym (and_false (le-ltb 0 (words_of v) h) _)

-- the header's numbers as they are read
pub headed_by : (s : List ℕ) {v n d r w : ℕ} {b : Bool}
    → v ≡ version s → n ≡ count s → d ≡ directory_offset s → r ≡ records_offset s → w ≡ whole_length s
    → b ≡ agree v n d r w (length s) → b ≡ headed s
headed_by s ev en ed er ew e = e ∙ rw (ev, en, ed, er, ew)

-- ---- what they say

pub both : (a b : Bool) → a && b ≡ true → (a ≡ true) × (b ≡ true)
both true b e = (refl, e)
both false b e = never (cc)

pub record Agreed (v n d r w l : ℕ) : Type 0 where
  pub known : 0 < words_of v
  pub cards : n ≤ most_cards
  pub directory : d ≡ header_bytes
  pub records : r ≡ records_at n
  pub whole : w ≡ whole_of (words_of v) n
  pub long : l ≡ whole_of (words_of v) n

pub agreed : (v n d r w l : ℕ) → agree v n d r w l ≡ true → Agreed v n d r w l
unfolding agree
agreed v n d r w l e =
    let m = whole_of (words_of v) n in
    let e₁ =
    both (ltb 0 (words_of v)) (leb n most_cards && (eqb d header_bytes && (eqb r (records_at n) && (eqb w m && eqb l m))))
    e in
    let e₂ = both (leb n most_cards) (eqb d header_bytes && (eqb r (records_at n) && (eqb w m && eqb l m))) e₁.1 in
    let e₃ = both (eqb d header_bytes) (eqb r (records_at n) && (eqb w m && eqb l m)) e₂.1 in
    let e₄ = both (eqb r (records_at n)) (eqb w m && eqb l m) e₃.1 in
    let e₅ = both (eqb w m) (eqb l m) e₄.1 in
    record {
      known = ltb-true 0 (words_of v) e₁.0;
      cards = leb-true n most_cards e₂.0;
      directory = eqb-true d header_bytes e₃.0;
      records = eqb-true r (records_at n) e₄.0;
      whole = eqb-true w m e₅.0;
      long = eqb-true l m e₅.1;
    }

-- the facts of a right header that concern the length
pub record Sized (s : List ℕ) : Type 0 where
  pub cards : count s ≤ most_cards
  pub long : length s ≡ whole_of (words_of (version s)) (count s)

pub sized : (s : List ℕ) → headed s ≡ true → Sized s
sized s e =
    let a = agreed (version s) (count s) (directory_offset s) (records_offset s) (whole_length s) (length s) e in
    record { cards = a.cards; long = a.long }

-- the part of a library that is its directory
abbrev pub directory_part : List ℕ → ℕ → List ℕ
directory_part s n = take (records_at n - header_bytes) (drop header_bytes s)

pub directory_part_lem : (s : List ℕ) {n : ℕ} → n ≡ count s → directory_part s n ≡ directory s
directory_part_lem s {n} e =
    let f : records_at n - header_bytes ≡ name_bytes * count s = omega arith in
    ap (λ (k : ℕ). take k (drop header_bytes s)) f

-- a right header has a version that is known
pub known_width : (s : List ℕ) → headed s ≡ true → 0 < words_of (version s)
known_width s e = (agreed (version s) (count s) (directory_offset s) (records_offset s) (whole_length s) (length s) e).known
