-- The lines of a record: clipped, and written as a model.
use mathlib.Core.Path.{◌≡◌, sym, ap, ◌∙◌}
use mathlib.Core.Bool.{Bool}
use mathlib.Core.List.{List}
use Prim.Native.Nat.{ℕ, ◌+◌}
use lib.ListN.{length, take, drop}
use lib.Seq.{take_at}
use Rattle.refusal.specs.declared.Refusal.{Refusal}
use Rattle.refusal.specs.Clash.{clash}
use Rattle.refusal.specs.Order.{Verdict, no, yes, tells_one}
use Rattle.words.specs.Words.{part_of}
use Rattle.std.specs.Prelude.{Result, Ok, Err}
use Rattle.clip.specs.declared.Clipping.{Clipping}
use Rattle.clip.specs.Record.{is_wide, width_of}
use Rattle.clip.specs.Clip.{clipped_up, mask_up, clip_of, Clips}
use Rattle.clip.specs.laws.Unique.{clip_taken, clip_refused}
use Rattle.loading.proofs.Clipped.{long}
use Rattle.clipped.specs.Clipped.{clip_line}
use Rattle.line_write.specs.Answers.{told_answer, answered, line_left, Leaves}
use Rattle.quoting.specs.Quotes.{model_line}
use Rattle.answers.specs.declared.Answer.TheVariants as said
use Rattle.answers.specs.Answers.{answer_line}
use Rattle.shelving.specs.Shelf.{words_if, clip_said, written_line}
use Rattle.shelving.proofs.Shelves.{from_start, start_part}

-- ---- clipped

module _ {s : List ℕ} {r : Result Clipping Refusal} (k : Clips s r) where
  pub clipping_taken : {c : Clipping} {b : Bool} → r ≡ Ok c → b ≡ is_wide s
      → clip_line c.mask b (take (words_if b) c.numbers) ≡ clip_said s
  unfolding clip_said
  clipping_taken a e =
      let t = clip_taken (clip_of s) k.answer a in
      let mask = rw a at k.mask in
      let numbers = rw a at k.numbers in
      rw (mask, numbers, e, t)
      (ap (clip_line (mask_up s (width_of s)) (is_wide s))
      (take_at (clipped_up s (width_of s)) _ (width_of s) (long s (width_of s))))

  pub clipping_refused : {f : Refusal} → r ≡ Err f → answer_line (said.Refused f) ≡ clip_said s
  unfolding clip_said
  clipping_refused a = rw (clip_refused (clip_of s) k.answer a)

-- ---- written as a model

-- a text that was written begins the buffer
text_there : (v : Verdict (List ℕ)) (line : List ℕ) {line' p : List ℕ} {n : ℕ} → answered v ≡ yes n
    → line' ≡ line_left v line → p ≡ part_of line' 0 n → model_line p ≡ written_line v
text_there (no f) line e l p = clash cc
text_there (yes text) line {n = n} e l p =
    let k : n ≡ length text = cc in
    ap model_line (p ∙ start_part text (drop (length text) line) l k)

text_refused : (v : Verdict (List ℕ)) {f : Refusal} → answered v ≡ no f → answer_line (said.Refused f) ≡ written_line v
text_refused (no g) e = cc
text_refused (yes text) e = clash cc

module _ {v : Verdict (List ℕ)} {line line' : List ℕ} {r : Result ℕ Refusal} (l : Leaves v line r line') where
  pub model_taken : {n : ℕ} {p : List ℕ} → r ≡ Ok n → p ≡ part_of line' 0 (0 + n)
      → model_line p ≡ written_line v
  model_taken {n} e p =
      text_there v line (sym (tells_one (yes n) (answered v) (ap told_answer (sym e) ∙ l.told))) l.left
      (from_start line' n p)

  pub model_refused : {f : Refusal} → r ≡ Err f → answer_line (said.Refused f) ≡ written_line v
  model_refused {f} e = text_refused v (sym (tells_one (no f) (answered v) (ap told_answer (sym e) ∙ l.told)))
