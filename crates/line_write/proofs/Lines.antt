-- The head of a line, the whole line, and what is left in the buffer.
use mathlib.Core.Path.{◌≡◌, refl, sym, ap, ◌∙◌, subst}
use mathlib.Core.Bool.{Bool, true, false, not, ◌&&◌}
use mathlib.Core.List.{List, ◌++◌}
use Prim.Native.Nat.{ℕ, ◌≤◌}
use lib.Dec.{eqb, leb, ltb}
use lib.ListN.{length, take}
use lib.Seq.{length-take-le}
use borrow.Author.Tests.{leb-true}
use Rattle.refusal.specs.declared.Refusal.{Refusal}
use Rattle.refusal.specs.declared.Refusal.TheVariants.{Malformed, BadName, BadExsub, BadNumber}
use Rattle.refusal.specs.Order.{Verdict, no, yes, refuse_if, and_then}
use Rattle.name.specs.Name.{name_length, run, asked}
use Rattle.packing.proofs.Packs.{both}
use Rattle.clip.specs.Numbers.{polarity}
use Rattle.clip.specs.Record.{is_wide, word_at}
use Rattle.decimal_write.specs.Added.{Added}
use Rattle.decimal_write.proofs.Puts.{then}
use Rattle.keys.specs.Keys.{key_count, minus_one}
use Rattle.std.proofs.Common.{Result, Err}
use Rattle.keyed.specs.Keyed.{forms_up, keys_up}
use Rattle.line_write.specs.Text.{settled, line_text, text_of}
use Rattle.line_write.specs.Answers.{room_for, writing_of, Leaves}
use Rattle.keyed.specs.inner.Parts.{KeysPut}
use Rattle.line_write.specs.inner.Parts.{head_of, good_text}

-- ---- the head

module _ (name : List ℕ) (pnp : Bool) where
  pub head_pnp : pnp ≡ true → head_of name true ≡ head_of name pnp
  head_pnp e = ap (head_of name) (sym e)

  pub head_npn : pnp ≡ false → head_of name false ≡ head_of name pnp
  head_npn e = ap (head_of name) (sym e)

-- ---- the line of a good card

module _ (name rec line : List ℕ) where
  pub good_text_lem : {text : List ℕ} → text ≡ line_text name rec → forms_up rec key_count ≡ true
      → room_for line text ≡ good_text name rec line
  good_text_lem t e =
      ap (room_for line) t
      ∙ sym (ap (λ (t : Bool). and_then (refuse_if (not t) BadNumber (yes (line_text name rec))) (room_for line)) e)

pub whole_line : (name rec : List ℕ) {old mid new : List ℕ} {sign at to : ℕ} → sign ≡ word_at rec polarity
    → Added old 0 mid at (head_of name (eqb sign minus_one)) → KeysPut rec mid at new key_count to → take to new ≡ line_text name rec
unfolding line_text
whole_line name rec e h k =
    (then h k.added).same ∙ ap (λ (s : ℕ). head_of name (eqb s minus_one) ++ keys_up rec key_count) e

-- ---- the buffer

pub refused_leaves : {v : Verdict (List ℕ)} (line : List ℕ) {f : Refusal} → no f ≡ v
    → Leaves v line (Err f) line
refused_leaves line {f} e =
    subst (λ (v : Verdict (List ℕ)). Leaves v line (Err f) line) e (record { told = refl; left = refl })

module _ (room : List ℕ) (n : ℕ) (line : List ℕ) (h : n ≤ length room) where
  long : length (take n room) ≡ n
  long = length-take-le n room h

pub same_verdict : {v w : Verdict (List ℕ)} {line : List ℕ} {r : Result ℕ Refusal} {line' : List ℕ} → v ≡ w
    → Leaves v line r line' → Leaves w line r line'
same_verdict {line = line} {r} {line'} e l = subst (λ (v : Verdict (List ℕ)). Leaves v line r line') e l

-- ---- the tests in their order

pub asked_few : (x : List ℕ) → true ≡ asked x → length x ≤ name_length
unfolding asked
asked_few x e =
    let some = ltb 0 (length x) in
    let few = leb (length x) name_length in
    let all = eqb (run x) (length x) in
    leb-true (length x) name_length (both few all (both some (few && all) (sym e)).1).0

module _ (name rec line : List ℕ) where
  pub not_wide : false ≡ is_wide rec → no Malformed ≡ writing_of name rec line
  unfolding writing_of text_of
  not_wide e = rw (← e) refl

  module _ (w : true ≡ is_wide rec) where
    pub not_named : false ≡ asked name → no BadName ≡ writing_of name rec line
    unfolding writing_of text_of
    not_named e = rw (← w, ← e) refl

    module _ (a : true ≡ asked name) where
      pub not_settled : false ≡ settled rec → no BadExsub ≡ writing_of name rec line
      unfolding writing_of text_of
      not_settled e = rw (← w, ← a, ← e) refl

      pub good_card : true ≡ settled rec → good_text name rec line ≡ writing_of name rec line
      unfolding writing_of text_of
      good_card e = rw (← w, ← a, ← e) refl
