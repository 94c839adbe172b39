-- The library held, what is kept of some bytes, and a library that is brought.
use mathlib.Core.Path.{◌≡◌, refl, sym, ap, ap₂, ◌∙◌}
use mathlib.Core.List.{List, ◌++◌}
use Prim.Native.Nat.{ℕ, ◌+◌, ◌≤◌}
use native.Mathlib.Nat.{zero-add, sub-zero}
use native.Mathlib.Omega.{arith}
use lib.ListN.{length, take, length-append}
use lib.Seq.{take_all, take_at}
use Rattle.refusal.specs.declared.Refusal.{Refusal}
use Rattle.refusal.specs.Order.{Verdict, no, yes, tells}
use Rattle.bytes_le.specs.Buffer.{over}
use Rattle.words.specs.Words.{part_of}
use Rattle.words.proofs.Parts.{part_there}
use Rattle.page.specs.declared.Page.{Page}
use Rattle.page.specs.Page.{Writes}
use Rattle.directory.specs.Format.{whole_length}
use Rattle.std.proofs.Common.{Result, Ok, Err}
use Rattle.library.specs.declared.Contents.{Contents}
use Rattle.library.specs.Answers.{verdict_read, read, Reads}
use Rattle.library.specs.Unique.{as_reading, reading_told}
use Rattle.answers.specs.declared.Answer.TheVariants as said
use Rattle.answers.specs.Answers.{answer_line}
use Rattle.shelving.specs.Shelf.{shelf_bytes, held_of, kept_over}
use Rattle.shelving.specs.Shelf.{names_room, words_room, judged, library_line, shelf_with}

-- ---- parts from the start on

-- a part whose place is 0 ends at its length
pub from_start : (s : List ℕ) {r : List ℕ} (n : ℕ) → r ≡ part_of s 0 (0 + n) → r ≡ part_of s 0 n
from_start s n p = p ∙ ap (part_of s 0) (zero-add n)

-- the bytes that begin a list, by their length
pub start_part : (a b : List ℕ) {l : List ℕ} {n : ℕ} → l ≡ a ++ b → n ≡ length a → part_of l 0 n ≡ a
start_part a b {l} {n} e k =
    let few : length a ≤ length (a ++ b) = omega (arith, length-append a b) in
    ap₂ (λ (s : List ℕ) (m : ℕ). part_of s 0 m) e k
    ∙ sym (part_there (a ++ b) 0 (length a) (omega arith) few)
    ∙ ap (λ (m : ℕ). take m (a ++ b)) (sub-zero (length a)) ∙ take_at a b (length a) refl

pub held_part : (s : List ℕ) {r : List ℕ} {n : ℕ} → n ≡ whole_length s → r ≡ part_of s 0 (0 + n) → r ≡ held_of s
unfolding held_of
held_part s {n = n} e p = from_start s n p ∙ ap (part_of s 0) e

-- ---- bytes that have room are kept whole

pub kept_whole : (bytes shelf : List ℕ) → length bytes ≤ shelf_bytes → over bytes shelf ≡ kept_over bytes shelf
unfolding kept_over
kept_whole bytes shelf h = ap (λ (l : List ℕ). over l shelf) (sym (take_all shelf_bytes bytes h))

-- ---- a library that is brought

pub judged_told : {s ns ws ns' ws' : List ℕ} {r : Result Contents Refusal} → length ns ≡ names_room → length ws ≡ words_room
    → Reads s ns ws r ns' ws' → r ≡ as_reading (judged s)
judged_told {s} {r = r} e f a =
    reading_told r (judged s) (a.answer ∙ ap₂ (λ (x y : ℕ). tells (read s x y)) e f)

verdict_read_lem : (v : Verdict (ℕ × ℕ)) → verdict_read (as_reading v) ≡ v
verdict_read_lem (no f) = refl
verdict_read_lem (yes p) = refl

-- s is what was brought, as the code has it, and r what judging it gave
module _ {s b : List ℕ} (p : s ≡ b) {r : Result Contents Refusal} (e : r ≡ as_reading (judged s)) where
  verdict_is : {q : Result Contents Refusal} → r ≡ q → judged b ≡ verdict_read q
  verdict_is g = ap judged (sym p) ∙ sym (verdict_read_lem (judged s)) ∙ ap verdict_read (sym e ∙ g)

  module _ {N : ℕ} {out new : Page N} where
    pub library_taken : {c : Contents} → r ≡ Ok c → (old : List ℕ) {shelf : List ℕ} → shelf ≡ kept_over s old
        → Writes (answer_line (said.Library c.cards)) out new
        → Writes (library_line (judged b)) out new × (shelf ≡ shelf_with b old)
    library_taken g old k w =
        rw (verdict_is g) (w, k ∙ ap (λ (l : List ℕ). kept_over l old) p)

    pub library_refused : {f : Refusal} → r ≡ Err f → {shelf : List ℕ}
        → Writes (answer_line (said.Refused f)) out new
        → Writes (library_line (judged b)) out new × (shelf ≡ shelf_with b shelf)
    library_refused g w = rw (verdict_is g) (w, refl)
