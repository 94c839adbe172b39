-- What mending promises, taken at its word: what a mending that was not refused leaves, and a second one after it.
use mathlib.Core.Path.{◌≡◌, refl, sym, ◌∙◌, ap, subst}
use mathlib.Core.List.{List}
use Prim.Native.Nat.{ℕ, ◌≤◌}
use borrow.Author.Tests.{ltb-false, le-ltb}
use lib.Dec.{ltb}
use lib.ListN.{length, take, drop}
use lib.Seq.{take_at, drop_at}
use Rattle.refusal.specs.declared.Refusal.TheVariants.{ShortOutput}
use Rattle.refusal.specs.Order.{Verdict, yes, tells_one}
use Rattle.bytes_le.specs.Buffer.{over}
use Rattle.directory.specs.Judged.{library_judged, Sound}
use Rattle.directory.proofs.Verdicts.{library_yes, library_pass, refuse_yes, then_yes}
use Rattle.library.specs.Answers.{left}
use Rattle.std.proofs.Common.{Result, Ok}
use Rattle.refusal.specs.declared.Refusal.{Refusal}
use Rattle.mending.specs.Mended.{mended_of, count_of}
use Rattle.mending.specs.Answers.{mending, Mends}
use Rattle.mending.specs.Unique.{as_mending, mending_told}
use Rattle.mending_laws.proofs.Libraries.{length_stays, mended_sound, none_left, nothing_to_mend, mended_again}

-- a sound library that has room is mended
sound_mending : (s : List ℕ) (a : ℕ) → Sound s → length s ≤ a → mending s a ≡ yes (count_of s)
unfolding mending
sound_mending s a g h = rw (g, le-ltb a (length s) h) refl

same_number : {n m : ℕ} → yes n ≡ yes m → n ≡ m
same_number e = cc

-- what a mending that tells a count leaves
pub record Leaves (s o : List ℕ) (n : ℕ) (o' : List ℕ) : Type 0 where
  pub sound : Sound s
  pub room : length s ≤ length o
  pub told : n ≡ count_of s
  pub start : take (length s) o' ≡ mended_of s
  pub beyond : drop (length s) o' ≡ drop (length s) o

module _ {s o : List ℕ} {n : ℕ} {o' : List ℕ} (m : Mends s o (Ok n) o') where
  answered : mending s (length o) ≡ yes n
  answered = sym (tells_one (yes n) (mending s (length o)) m.answer)

  out : o' ≡ over (mended_of s) o
  out = m.output ∙ ap (λ (v : Verdict ℕ). left v (mended_of s) o) answered

  pub leaves : Leaves s o n o'
  unfolding mending
  leaves =
      let t = then_yes (library_judged s) _ answered in
      let p = refuse_yes (ltb (length o) (length s)) ShortOutput t.after in
      let g = library_pass (library_yes s t.first).0 in
      let l = length_stays s g in
      let beyond = drop (length (mended_of s)) o in
      record {
        sound = g;
        room = ltb-false (length o) (length s) p.0;
        told = sym (same_number p.1);
        start = ap (take (length s)) out ∙ take_at (mended_of s) beyond (length s) l;
        beyond =
            ap (drop (length s)) out ∙ drop_at (mended_of s) beyond (length s) l ∙ ap (λ (k : ℕ). drop k o) l;
      }

  -- what comes out is a sound library
  pub mend_sound : Sound (take (length s) o')
  mend_sound = subst Sound (sym leaves.start) (mended_sound s leaves.sound)

  -- where nothing was set it is the library itself
  pub mend_nothing : n ≡ 0 → o' ≡ over s o
  mend_nothing z =
      out ∙ ap (λ (l : List ℕ). over l o) (nothing_to_mend s leaves.sound (sym leaves.told ∙ z))

  -- mended again it tells 0, and comes out as it is
  pub mend_again : {p : List ℕ} {r : Result ℕ Refusal} {p' : List ℕ} → length s ≤ length p
      → Mends (take (length s) o') p r p' → (r ≡ Ok 0) × (p' ≡ over (take (length s) o') p)
  mend_again {p} {r} h w =
      let t : List ℕ = take (length s) o' in
      let g = leaves.sound in
      let e : t ≡ mended_of s = leaves.start in
      let long : length (mended_of s) ≤ length p = rw (length_stays s g) h in
      let k : mending t (length p) ≡ yes 0 =
      ap (λ (l : List ℕ). mending l (length p)) e
      ∙ sound_mending (mended_of s) (length p) (mended_sound s g) long ∙ ap yes (none_left s g) in
      let same : mended_of t ≡ t = ap mended_of e ∙ mended_again s g ∙ sym e in (
        mending_told r (mending t (length p)) w.answer ∙ ap as_mending k,
        w.output ∙ ap (λ (v : Verdict ℕ). left v (mended_of t) p) k ∙ ap (λ (l : List ℕ). over l p) same,
      )
