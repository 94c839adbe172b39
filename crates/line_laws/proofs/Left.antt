-- The same of what the two calls leave in lent buffers.
use mathlib.Core.Path.{◌≡◌, refl, sym, ap, ◌∙◌}
use mathlib.Core.Bool.{Bool, true, false}
use mathlib.Core.List.{List, []}
use Prim.Native.Nat.{ℕ, ◌≤◌}
use borrow.Author.Tests.{le-ltb, ltb-false}
use lib.Dec.{ltb}
use lib.ListN.{length, take, drop}
use lib.Seq.{take_at}
use Rattle.refusal.specs.Clash.{clash}
use Rattle.refusal.specs.declared.Refusal.TheVariants.{ShortOutput}
use Rattle.refusal.specs.Order.{Verdict, no, yes, Answer, refused, given, tells}
use Rattle.bytes_le.specs.Le.{Below}
use Rattle.bytes_le.specs.Buffer.{over}
use Rattle.name.specs.Name.{name_length, padded}
use Rattle.directory.specs.Format.{bytes_of_all}
use Rattle.line.specs.Line.{Model, line_of}
use Rattle.std.proofs.Common.{Result, Ok, Err}
use Rattle.refusal.specs.declared.Refusal.{Refusal}
use Rattle.line.specs.Answers as read
use Rattle.line.specs.Answers.{record_bytes, reading_of, Reads}
use Rattle.line_write.specs.Text.{line_text, text_of}
use Rattle.line_write.specs.Answers as write
use Rattle.line_write.specs.Answers.{writing_of, Writes}
use Rattle.line_laws.proofs.Taking.{words_up}
use Rattle.line_laws.proofs.Back.{line_after_record}
use Rattle.line_laws.proofs.Again.{record_after_line}

-- ---- a line that was written

-- the text, and that the buffer starts with it
record Wrote (name rec new : List ℕ) (n : ℕ) : Type 0 where
  text : List ℕ
  is_text : text_of name rec ≡ yes text
  starts : take n new ≡ text

text_in : Verdict (List ℕ) → List ℕ
text_in (no f) = []
text_in (yes text) = text

number_in : Answer ℕ → ℕ
number_in (given n) = n
number_in (refused l) = 0

module _ (name rec old : List ℕ) {new : List ℕ} {n : ℕ} (w : Writes name rec old (Ok n) new) where
  wrote : Wrote name rec new n
  unfolding writing_of number_in
  wrote = by (text_of name rec) refl
    where
      room : (text : List ℕ) → text_of name rec ≡ yes text → (t : Bool) → ltb (length old) (length text) ≡ t
          → Wrote name rec new n
      room text e true f =
          let z : given n ≡ tells (write.answered (writing_of name rec old)) = w.told in
          let v : writing_of name rec old ≡ no ShortOutput = rw (e, f) in
          clash cc
      room text e false f =
          let v : writing_of name rec old ≡ yes text = rw (e, f) in
          let long : n ≡ length text =
          ap number_in (w.told ∙ ap (λ (x : Verdict (List ℕ)). tells (write.answered x)) v) in
          let left : new ≡ over text old = w.left ∙ ap (λ (x : Verdict (List ℕ)). write.line_left x old) v in
          record {
            text = text;
            is_text = e;
            starts = ap (take n) left ∙ take_at text (drop (length text) old) n (sym long);
          }

      by : (v : Verdict (List ℕ)) → text_of name rec ≡ v → Wrote name rec new n
      by (no f) e =
          let z : given n ≡ tells (write.answered (writing_of name rec old)) = w.told in
          let v : writing_of name rec old ≡ no f = rw e in
          clash cc
      by (yes text) e = room text e (ltb (length old) (length text)) refl

-- a text that has room is written
pub wrote_all : (name rec old : List ℕ) {new text : List ℕ} {r : Result ℕ Refusal} → text_of name rec ≡ yes text →
    length text ≤ length old
    → Writes name rec old r new → r ≡ Ok (length text)
unfolding writing_of
wrote_all name rec old {new} {text} {r} e h w =
    by r (w.told ∙ ap (λ (x : Verdict (List ℕ)). tells (write.answered x)) v)
  where
    v : writing_of name rec old ≡ yes text
    v = rw (e, le-ltb (length old) (length text) h)

    by : (r : Result ℕ Refusal) → write.told_answer r ≡ given (length text) → r ≡ Ok (length text)
    by (Ok n) e = cc
    by (Err f) e = clash cc

-- ---- a line that is read

module _ (t nb rb : List ℕ) {nb' rb' : List ℕ} {r : Result (Unit {0}) Refusal} (m : Model) (e : reading_of t nb rb ≡ yes m)
    (g : Reads t nb rb r nb' rb') where
  taken : r ≡ Ok tt
  taken = by r (g.told ∙ ap (λ (x : Verdict Model). tells (read.answered x)) e)
    where
      by : (r : Result (Unit {0}) Refusal) → read.told_answer r ≡ given tt → r ≡ Ok tt
      by (Ok t) e = refl
      by (Err f) e = clash cc

  name_left : nb' ≡ over (padded m.name) nb
  name_left = g.named ∙ ap (λ (x : Verdict Model). read.name_left x nb) e

  record_left : rb' ≡ over (bytes_of_all m.words) rb
  record_left = g.worded ∙ ap (λ (x : Verdict Model). read.record_left x rb) e

has_room : (t nb rb : List ℕ) (m : Model) → line_of t ≡ yes m → name_length ≤ length nb → record_bytes ≤ length rb
    → reading_of t nb rb ≡ yes m
unfolding reading_of
has_room t nb rb m e p q =
    rw (e, le-ltb (length nb) name_length p, le-ltb (length rb) record_bytes q)

-- reading what writing a card left gives the card's name and record, where both buffers have room
pub line_after_record_left : (name rec old nb rb : List ℕ) {new nb' rb' : List ℕ} {n : ℕ} {r : Result (Unit {0}) Refusal}
    → Below 256 rec → Writes name rec old (Ok n) new → Reads (take n new) nb rb r nb' rb'
    → name_length ≤ length nb → record_bytes ≤ length rb
    → (r ≡ Ok tt) × (nb' ≡ over (padded name) nb) × (rb' ≡ over rec rb)
line_after_record_left name rec old nb rb {new} {n = n} b w g p q =
    let v = wrote name rec old w in
    let l = line_after_record name rec v.text v.is_text b in
    let t = take n new in
    let m : Model = record { name = name; words = words_up rec 24 } in
    let e : reading_of t nb rb ≡ yes m = has_room t nb rb m (ap line_of v.starts ∙ l.0) p q in
    (taken t nb rb m e g, name_left t nb rb m e g, record_left t nb rb m e g ∙ ap (λ (x : List ℕ). over x rb) l.1)

-- what reading a line left: a name and a record that are written whatever they are, where there is room for their line,
-- and reading that leaves the same again
pub record Again (nb rb nb' rb' : List ℕ) : Type 0 where
  pub name : List ℕ
  pub rec : List ℕ
  pub named : nb' ≡ over (padded name) nb
  pub worded : rb' ≡ over rec rb
  pub long : ℕ
  pub writes : (old new : List ℕ) (r : Result ℕ Refusal) → long ≤ length old → Writes name rec old r new → r ≡ Ok long
  pub reads : (old new nb'' rb'' : List ℕ) (s : Result (Unit {0}) Refusal) → Writes name rec old (Ok long) new
      → Reads (take long new) nb rb s nb'' rb'' → (s ≡ Ok tt) × (nb'' ≡ nb') × (rb'' ≡ rb')

module _ (line nb rb nb' rb' : List ℕ) (g : Reads line nb rb (Ok tt) nb' rb') where
  again : (m : Model) → line_of line ≡ yes m → name_length ≤ length nb → record_bytes ≤ length rb → Again nb rb nb' rb'
  unfolding text_in
  again m e p q =
      let l = record_after_line line m e in
      let rec = bytes_of_all m.words in
      let text = line_text m.name rec in
      let f = has_room line nb rb m e p q in
      record {
        name = m.name;
        rec = rec;
        named = name_left line nb rb m f g;
        worded = record_left line nb rb m f g;
        long = length text;
        writes = λ old new r h w. wrote_all m.name rec old l.0 h w;
        reads = λ old new nb'' rb'' s w k.
            let v = wrote m.name rec old w in
            let t = take (length text) new in
            let same : v.text ≡ text = ap text_in (sym v.is_text ∙ l.0) in
            let z = has_room t nb rb m (ap line_of (v.starts ∙ same) ∙ l.1) p q in (
              taken t nb rb m z k,
              name_left t nb rb m z k ∙ sym (name_left line nb rb m f g),
              record_left t nb rb m z k ∙ sym (record_left line nb rb m f g),
            );
      }

  -- a line that was taken: it is one, and both buffers had room
  pub record_after_line_left : Again nb rb nb' rb'
  unfolding reading_of
  record_after_line_left = by (line_of line) refl
    where
      told : given tt ≡ tells (read.answered (reading_of line nb rb))
      told = g.told

      room : (m : Model) → line_of line ≡ yes m → (s t : Bool) → ltb (length nb) name_length ≡ s
          → ltb (length rb) record_bytes ≡ t → Again nb rb nb' rb'
      room m e false false a b = again m e (ltb-false _ _ a) (ltb-false _ _ b)
      room m e true t a b =
          let v : reading_of line nb rb ≡ no ShortOutput = rw (e, a) in clash cc
      room m e false true a b =
          let v : reading_of line nb rb ≡ no ShortOutput = rw (e, a, b) in clash cc

      by : (v : Verdict Model) → line_of line ≡ v → Again nb rb nb' rb'
      by (no f) e = let v : reading_of line nb rb ≡ no f = rw e in clash cc
      by (yes m) e = room m e (ltb (length nb) name_length) (ltb (length rb) record_bytes) refl refl
