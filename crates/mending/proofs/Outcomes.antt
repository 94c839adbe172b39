-- Each way out of mending, over plain values: the tests that lead there give the definition's verdict.
use mathlib.Core.Path.{◌≡◌, refl, sym, ◌∙◌, ap, ap₂}
use mathlib.Core.Bool.{Bool}
use mathlib.Core.List.{List, ◌++◌}
use mathlib.Core.Logic.{◌⊎◌, inl, inr}
use Prim.Native.Nat.{ℕ, ◌*◌, ◌-◌, ◌<◌, ◌≤◌}
use native.Mathlib.Omega.{arith}
use borrow.Author.Tests.{lt-ltb, le-ltb}
use lib.Dec.{ltb}
use lib.ListN.{length, take, length-drop}
use lib.Seq.{length-take-le}
use Rattle.refusal.specs.declared.Refusal.{Refusal}
use Rattle.refusal.specs.declared.Refusal.TheVariants.{ShortOutput}
use Rattle.refusal.specs.Order.{Verdict, no, yes, refuse_if, tells}
use Rattle.bytes_le.specs.Buffer.{over}
use Rattle.bytes_le.specs.Le.{word_bytes}
use Rattle.bytes_le.proofs.Laws.{rest}
use Rattle.roll.specs.Directory.{cut}
use Rattle.directory.specs.Format.{words_of, most_words, most_cards, records_at, version}
use Rattle.directory.specs.Judged.{library_judged}
use Rattle.directory.proofs.Headers.{known_version, known_width}
use Rattle.directory.proofs.Inspections.{Inspected}
use Rattle.directory.proofs.Verdicts.{library_yes}
use Rattle.library.specs.Answers.{left}
use Rattle.copying.proofs.BytesWritten.{part_from, part_put, then_part}
use Rattle.library.proofs.Outcomes.{records_part, records_part_lem}
use Rattle.std.proofs.Common.{Result, Ok, Err}
use Rattle.signals.specs.Records.{icss_end, mended_all, signalling}
use Rattle.mending.specs.Mended.{records_in, mended_of, count_of}
use Rattle.mending.specs.Answers.{verdict_mended, mending, Mends}

-- a record of either version has I_CSs
pub has_icss : (u : ℕ) → 0 < words_of u → icss_end ≤ word_bytes * words_of u
unfolding words_of
has_icss u h = by_version (known_version u h)
  where
    by_version : (u ≡ 1) ⊎ (u ≡ 2) → icss_end ≤ word_bytes * words_of u
    by_version (inl e) = rw e (omega arith)
    by_version (inr e) = rw e (omega arith)

module _ {s : List ℕ} {n k : ℕ} (v : Inspected s n k) where
  is_width : k ≡ words_of (version s)
  is_width = sym (ap (λ (p : ℕ × ℕ). p.1) (library_yes s v.judged).1)

  pub wide_enough : icss_end ≤ word_bytes * k
  wide_enough = rw is_width (has_icss (version s) (known_width s (library_yes s v.judged).0.header))

  -- no more cards are set than the records have bytes
  pub set_few : {c : ℕ} → c ≤ length (records_part s n) → c ≤ word_bytes * (most_words * most_cards)
  set_few h =
      let l = v.long in
      let w = v.words in
      let e : length (records_part s n) ≡ length s - records_at n =
      ap length (rest s (records_at n)) ∙ length-drop (records_at n) s in
      omega arith

module _ (s o : List ℕ) where
  mends_by : (v : Verdict ℕ) → mending s (length o) ≡ v → (r : Result ℕ Refusal) → verdict_mended r ≡ v
      → Mends s o r (left v (mended_of s) o)
  mends_by v e r g =
      record { answer = ap tells (g ∙ sym e); output = ap (λ (w : Verdict ℕ). left w (mended_of s) o) (sym e) }

  pub mend_refused : {f : Refusal} → library_judged s ≡ no f → Mends s o (Err f) o
  unfolding mending
  mend_refused {f} e = mends_by (no f) (rw e) (Err f) refl

  module _ {n k : ℕ} (v : Inspected s n k) where
    to_five : {t : Bool} → ltb (length o) (length s) ≡ t
        → mending s (length o) ≡ refuse_if t ShortOutput (yes (count_of s))
    unfolding mending
    to_five e = rw v.judged (ap (λ (b : Bool). refuse_if b ShortOutput (yes (count_of s))) e)

    pub mend_short : length o < length s → Mends s o (Err ShortOutput) o
    mend_short h = mends_by (no ShortOutput) (to_five (lt-ltb (length o) _ h)) (Err ShortOutput) refl

    -- the records as they are handed on
    handed_on : cut (word_bytes * k) (records_part s n) ≡ records_in s
    handed_on =
        ap₂ (λ (w : ℕ) (l : List ℕ). cut (word_bytes * w) l) (is_width v) (records_part_lem v)

    -- l₁ is the buffer after the header and the names; y is what the records' part of it came to
    pub mend_set : length s ≤ length o → (l₁ : List ℕ) → l₁ ≡ over (take (records_at n) s) o
        → (y : List ℕ) → y ≡ over (mended_all (cut (word_bytes * k) (records_part s n))) (part_from (records_at n) l₁)
        → {c : ℕ} → c ≡ signalling (cut (word_bytes * k) (records_part s n))
        → Mends s o (Ok c) (part_put (records_at n) l₁ y)
    unfolding mended_of count_of
    mend_set h l₁ e₁ y ey {c} ec =
        let head : List ℕ = take (records_at n) s in
        let m : List ℕ = mended_all (cut (word_bytes * k) (records_part s n)) in
        let long : length head ≡ records_at n = length-take-le (records_at n) s (let l = v.long in omega arith) in
        let filled = then_part head m o l₁ (records_at n) e₁ long y ey in
        let same : head ++ m ≡ mended_of s =
        ap₂ (λ (i : ℕ) (l : List (List ℕ)). take (records_at i) s ++ mended_all l) v.is_count handed_on in
        let told : c ≡ count_of s = ec ∙ ap signalling handed_on in
        rw (filled, same, told)
        (mends_by (yes (count_of s)) (to_five (le-ltb (length o) _ h)) (Ok (count_of s)) refl)
