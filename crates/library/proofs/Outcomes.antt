-- Each way out of reading, over plain values: the tests that lead there give the definition's verdict.
use mathlib.Core.Path.{◌≡◌, refl, sym, ◌∙◌, ap}
use mathlib.Core.Bool.{Bool, true, ◌||◌}
use mathlib.Core.List.{List}
use Prim.Native.Nat.{ℕ, ◌*◌, ◌-◌, ◌/◌, ◌≤◌}
use native.Mathlib.Omega.{arith}
use borrow.Author.Tests.{le-ltb}
use lib.Dec.{ltb}
use lib.ListN.{length, take, drop, length-drop}
use Rattle.bytes_le.proofs.Laws.{rest}
use Rattle.refusal.specs.declared.Refusal.{Refusal}
use Rattle.refusal.specs.declared.Refusal.TheVariants.{ShortOutput}
use Rattle.refusal.specs.Order.{Verdict, no, yes, refuse_if, tells}
use Rattle.std.proofs.Common.{Result, Ok, Err}
use Rattle.library.specs.declared.Contents.{Contents}
use Rattle.library.specs.Answers.{Reads, left, read, verdict_read}
use Rattle.directory.specs.Judged.{library_judged}
use Rattle.roll.specs.Directory.{name_bytes}
use Rattle.roll.proofs.Names.{or_false}
use Rattle.directory.specs.Format.{version, directory, records, records_at, words_in}
use Rattle.directory.proofs.Headers.{directory_part_lem, directory_part}
use Rattle.directory.proofs.Inspections.{Inspected}
use Rattle.bytes_le.specs.Le.{word_bytes}
use Rattle.bytes_le.specs.Buffer.{over}

-- ---- the records of a library

-- the part of a library that is its records
abbrev pub records_part : List ℕ → ℕ → List ℕ
records_part s n = take (length s - records_at n) (drop (records_at n) s)

pub records_part_lem : {s : List ℕ} {n k : ℕ} → Inspected s n k → records_part s n ≡ records s
records_part_lem {s} {n} v = rest s (records_at n) ∙ ap (λ (m : ℕ). drop (records_at m) s) v.is_count

pub records_words : {s : List ℕ} {n k : ℕ} → Inspected s n k → length (records_part s n) / word_bytes ≡ k * n
records_words {s} {n} v = let l = v.long in rw (rest s (records_at n), length-drop (records_at n) s) (omega arith)

-- ---- the ways out of reading

pub records_room : {s : List ℕ} {n k w : ℕ} → Inspected s n k → k * n ≤ w → length (records_part s n) / word_bytes ≤ w
records_room v h = rw (records_words v) h

module _ (s ns ws : List ℕ) where
  reads_by : (v : Verdict (ℕ × ℕ)) → read s (length ns) (length ws) ≡ v → (r : Result Contents Refusal) → verdict_read r ≡ v
      → Reads s ns ws r (left v (directory s) ns) (left v (words_in (records s)) ws)
  reads_by v e r g =
      record {
        answer = ap tells (g ∙ sym e);
        names = ap (λ (w : Verdict (ℕ × ℕ)). left w (directory s) ns) (sym e);
        words = ap (λ (w : Verdict (ℕ × ℕ)). left w (words_in (records s)) ws) (sym e);
      }

  pub read_refused : {f : Refusal} → library_judged s ≡ no f → Reads s ns ws (Err f) ns ws
  unfolding read
  read_refused {f} e = reads_by (no f) (rw e) (Err f) refl

  module _ {n k : ℕ} (v : Inspected s n k) where
    to_five : {t : Bool} → (ltb (length ns) (name_bytes * n) || ltb (length ws) (k * n)) ≡ t
        → read s (length ns) (length ws) ≡ refuse_if t ShortOutput (yes (n, version s))
    unfolding read
    to_five e = rw v.judged (ap (λ (b : Bool). refuse_if b ShortOutput (yes (n, version s))) e)

    pub read_short : (ltb (length ns) (name_bytes * n) || ltb (length ws) (k * n)) ≡ true
        → Reads s ns ws (Err ShortOutput) ns ws
    read_short e = reads_by (no ShortOutput) (to_five e) (Err ShortOutput) refl

    pub read_yes : name_bytes * n ≤ length ns → k * n ≤ length ws
        → read s (length ns) (length ws) ≡ yes (n, version s)
    read_yes hn hw = to_five (or_false (le-ltb (length ns) (name_bytes * n) hn) ∙ le-ltb (length ws) (k * n) hw)

    -- d and q are what stands in the buffers after the directory's part and the words of the records' part
    pub read_cards : name_bytes * n ≤ length ns → k * n ≤ length ws → {d q : List ℕ} {u : ℕ}
        → d ≡ over (directory_part s n) ns → q ≡ over (words_in (records_part s n)) ws → u ≡ version s
        → Reads s ns ws (Ok (record { cards = n; version = u })) d q
    read_cards hn hw ed eq eu =
        rw (ed, eq, directory_part_lem s v.is_count, records_part_lem v, eu)
        (reads_by (yes (n, version s)) (read_yes hn hw) (Ok (record { cards = n; version = version s })) refl)
