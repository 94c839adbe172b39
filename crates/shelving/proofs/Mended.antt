-- What mending made of the library held is a library again, and so it is what is then held.
use mathlib.Core.Path.{◌≡◌, refl, sym, ap, ap₂, ◌∙◌}
use mathlib.Core.List.{List, ◌++◌}
use Prim.Native.Nat.{ℕ, ◌+◌, ◌≤◌}
use native.Mathlib.Nat.{le_of_eq}
use native.Mathlib.Omega.{arith}
use lib.ListN.{length, take, drop, take-append-drop}
use lib.Seq.{take_all}
use Rattle.refusal.specs.declared.Refusal.{Refusal}
use Rattle.refusal.specs.Order.{tells_one}
use Rattle.bytes_le.specs.Le.{le}
use Rattle.page.specs.declared.Page.{Page}
use Rattle.page.specs.Page.{Writes}
use Rattle.directory.specs.Format.{version, count, directory_offset, records_offset, whole_length}
use Rattle.directory.specs.Judged.{Sound}
use Rattle.directory.proofs.Headers.{Agreed, agreed}
use Rattle.directory.proofs.Verdicts.{library_yes}
use Rattle.std.proofs.Common.{Result, Ok, Err}
use Rattle.mending.specs.Mended.{mended_of}
use Rattle.mending.specs.Answers.{verdict_mended, mending, Mends}
use Rattle.mending_laws.proofs.OneRecord.{same_part}
use Rattle.mending_laws.proofs.Libraries.{length_stays, mended_sound}
use Rattle.mending_laws.proofs.Mendings.{leaves}
use Rattle.answers.specs.declared.Answer.TheVariants as said
use Rattle.answers.specs.Answers.{answer_line}
use Rattle.shelving.specs.Shelf.{shelf_bytes, held_of, kept_over, mending_held, mended_line, mended_shelf}
use Rattle.shelving.proofs.Shelves.{start_part}

module _ (s : List ℕ) (g : Sound s) where
  agrees : Agreed (version s) (count s) (directory_offset s) (records_offset s) (whole_length s) (length s)
  agrees = agreed _ _ _ _ _ _ (library_yes s g).0.header

  -- a sound library that begins a buffer is the library held there
  sound_held : (o : List ℕ) → take (length s) o ≡ s → held_of o ≡ s
  unfolding held_of
  sound_held o e =
      let a = agrees in
      let w = a.whole in
      let l = a.long in
      let h : 12 + 4 ≤ length s = omega arith in
      let same : whole_length o ≡ length s =
      ap le (same_part 12 4 (length s) o s h (e ∙ sym (take_all (length s) s (le_of_eq refl)))) ∙ w ∙ sym l in
      start_part s (drop (length s) o)
      (sym (take-append-drop (length s) o) ∙ ap (λ (x : List ℕ). x ++ drop (length s) o) e) same

-- what is held where a library was mended to
mended_held : {s o : List ℕ} {n : ℕ} {o' : List ℕ} → Mends s o (Ok n) o' → held_of o' ≡ mended_of s
mended_held {s} {o' = o'} m =
    let v = leaves m in
    sound_held (mended_of s) (mended_sound s v.sound) o'
    (ap (λ (k : ℕ). take k o') (length_stays s v.sound) ∙ v.start)

-- the library held on the shelf `old` is mended into o, which has room for any
module _ (old : List ℕ) {s o o' : List ℕ} {r : Result ℕ Refusal} (e : s ≡ held_of old) (k : length o ≡ shelf_bytes)
    (m : Mends s o r o') where
  verdict_is : {q : Result ℕ Refusal} → r ≡ q → mending_held old ≡ verdict_mended q
  verdict_is g =
      ap₂ mending (sym e) (sym k) ∙ sym (tells_one (verdict_mended r) (mending s (length o)) m.answer)
      ∙ ap verdict_mended g

  module _ {N : ℕ} {out new : Page N} where
    pub mend_taken : {n : ℕ} → r ≡ Ok n → {t shelf : List ℕ} → t ≡ held_of o' → shelf ≡ kept_over t old
        → Writes (answer_line (said.Mended n)) out new
        → Writes (mended_line (mending_held old)) out new × (shelf ≡ mended_shelf old)
    mend_taken {n} g et ek w =
        let same : held_of o' ≡ mended_of s = mended_held (rw g at m) in
        rw (verdict_is g)
        (w, ek ∙ ap (λ (l : List ℕ). kept_over l old) (et ∙ same ∙ ap mended_of e))

    pub mend_refused : {f : Refusal} → r ≡ Err f → Writes (answer_line (said.Refused f)) out new
        → Writes (mended_line (mending_held old)) out new × (old ≡ mended_shelf old)
    mend_refused g w = rw (verdict_is g) (w, refl)
