-- Each way out of handing a record out, over plain values; and of a sound library it is the record of the card.
use mathlib.Core.Path.{◌≡◌, sym, ◌∙◌, ap, ap₂}
use mathlib.Core.Bool.{Bool, cond, ◌&&◌}
use mathlib.Core.List.{List, []}
use Prim.Native.Nat.{ℕ, ◌+◌, ◌*◌, ◌-◌, ◌<◌, ◌≤◌, ◌^◌}
use native.Mathlib.Nat.{mul-le-mul, zero-add}
use native.Mathlib.Omega.{arith}
use borrow.Author.Tests.{lt-ltb, le-ltb, le-leb, lt-leb}
use lib.Dec.{ltb, leb}
use lib.ListN.{length, take, drop}
use denote.Ref.{Bor}
use Rattle.name.proofs.Laws.{and_true, and_false}
use Rattle.bytes_le.specs.Le.{word_bytes}
use Rattle.refusal.specs.Order.{yes}
use Rattle.directory.specs.Format.{most_words}
use Rattle.directory.specs.Format.{count, version, words_of}
use Rattle.finding.specs.Answers.{record_of, record_at, handed, standing, HandsOut}
use Rattle.directory.specs.Judged.{Sound, numbers_of}
use Rattle.directory.proofs.Inspections.{inspected}
use Rattle.finding.proofs.Locating.{record_within}

-- a card's number is a half word, so that its place fits
pub words_before : {w k : ℕ} → w ≤ most_words → k ≤ 2 ^ 16 → w * k ≤ most_words * 2 ^ 16
words_before hw hk = mul-le-mul hw hk

module _ (l : Bor (List ℕ)) (k : ℕ) {n w : ℕ} (en : n ≡ count l.now) (ew : w ≡ words_of (version l.now)) where
  by_test : {t : Bool} → (ltb k n && leb ((record_of (n, w) k).0 + (record_of (n, w) k).1) (length l.now)) ≡ t
      → record_at l.now k ≡ cond t (record_of (n, w) k) (0, 0)
  unfolding record_at
  by_test e = rw (sym en, sym ew, e)

  hands : {r : Bor (List ℕ)} (p : ℕ × ℕ) → record_at l.now k ≡ p → r.now ≡ handed (yes p) l.now
      → r.ref_ptr ≡ standing (yes p) l → HandsOut l k r
  hands p e b a =
      record {
        bytes = b ∙ ap (λ (q : ℕ × ℕ). handed (yes q) l.now) (sym e);
        place = a ∙ ap (λ (q : ℕ × ℕ). standing (yes q) l) (sym e);
      }

  nothing : {r : Bor (List ℕ)} → record_at l.now k ≡ (0, 0) → r.now ≡ [] → r.ref_ptr ≡ l.ref_ptr → HandsOut l k r
  nothing e b a = hands (0, 0) e b (a ∙ ap (λ (i : ℕ). (l.ref_ptr.0, i)) (sym (zero-add l.ref_ptr.1)))

  pub hands_none : {r : Bor (List ℕ)} → n ≤ k → r.now ≡ [] → r.ref_ptr ≡ l.ref_ptr → HandsOut l k r
  hands_none h = nothing (by_test (and_false (le-ltb k n h) _))

  module _ (h : k < n) {at end : ℕ} (ea : at ≡ (record_of (n, w) k).0) (ee : end ≡ at + word_bytes * w) where
    pub hands_short : {r : Bor (List ℕ)} → length l.now < end → r.now ≡ [] → r.ref_ptr ≡ l.ref_ptr → HandsOut l k r
    hands_short g = nothing (by_test (and_true (lt-ltb k n h) ∙ lt-leb _ (length l.now) (omega arith)))

    pub hands_record : {r : Bor (List ℕ)} → end ≤ length l.now → r.now ≡ take (end - at) (drop at l.now)
        → r.ref_ptr ≡ (l.ref_ptr.0, at + l.ref_ptr.1) → HandsOut l k r
    hands_record g b a =
        let z : end - at ≡ word_bytes * w = omega arith in
        hands (record_of (n, w) k) (by_test (and_true (lt-ltb k n h) ∙ le-leb _ (length l.now) (omega arith)))
        (b ∙ ap₂ (λ (i j : ℕ). take i (drop j l.now)) z ea)
        (a ∙ ap (λ (i : ℕ). (l.ref_ptr.0, i + l.ref_ptr.1)) ea)

-- ---- of a sound library

-- the place and the size are those of the card, and within the library
pub record_sound : (s : List ℕ) (k : ℕ) → Sound s → k < count s → record_at s k ≡ record_of (numbers_of s) k
unfolding record_at
record_sound s k g h =
    let v = inspected s g in
    let r = record_within (words_of (version s)) h in
    let i : (record_of (numbers_of s) k).0 + (record_of (numbers_of s) k).1 ≤ length s = let l = v.long in omega arith in
    ap (λ (t : Bool). cond t (record_of (numbers_of s) k) (0, 0))
    (and_true (lt-ltb k (count s) h) ∙ le-leb _ (length s) i)
