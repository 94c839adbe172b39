-- Each way out of filing a card, and of filing a line, over plain values.
use mathlib.Core.Path.{◌≡◌, refl, sym, ap, ap₂, ◌∙◌, subst}
use mathlib.Core.Bool.{Bool, true, false}
use mathlib.Core.List.{List, [], ◌++◌, append-nil}
use Prim.Native.Nat.{ℕ, ◌-◌, ◌*◌, ◌≤◌, ◌<◌}
use native.Mathlib.Nat.{le_of_eq}
use native.Mathlib.Omega.{arith}
use borrow.Author.Tests.{lt-ltb, le-ltb, le-leb, lt-leb}
use lib.Dec.{leb}
use lib.ListN.{length, take, drop, length-drop, drop_of_length-le}
use Rattle.refusal.specs.Clash.{clash}
use Rattle.refusal.specs.declared.Refusal.{Refusal}
use Rattle.refusal.specs.declared.Refusal.TheVariants.{Malformed, NameTwice, BadLine}
use Rattle.refusal.specs.Order.{Verdict, no, yes, refuse_if, and_then, tells, tells_one}
use Rattle.bytes_le.specs.Le.{word_bytes}
use Rattle.bytes_le.specs.Buffer.{over}
use Rattle.bytes_le.proofs.Laws.{rest}
use Rattle.name.specs.Name.{name_length, padded}
use Rattle.name.proofs.Laws.{padded_long}
use Rattle.roll.specs.Directory.{names_in, among}
use Rattle.directory.specs.Format.{most_cards, bytes_of_all}
use Rattle.copying.proofs.BytesWritten.{part_from, part_put, length_all}
use Rattle.line.specs.Line.{Model, line_of}
use Rattle.std.proofs.Common.{Result, Ok, Err}
use Rattle.line.specs.Answers as read
use Rattle.line.specs.Answers.{record_bytes, told_answer, answered}
use Rattle.line_laws.proofs.Sound.{line_good}
use Rattle.trimming.specs.Trimmed.{trimmed}
use Rattle.joining.specs.Lines.{longest_line}
use Rattle.filing.specs.Filed.{besides, filing_of, over_at, Leaves, Files}
use Rattle.filing.specs.inner.Cards.{FilesCard}

-- ---- the names so far

-- ---- one card

refused_leaves : {v : Verdict Model} {f : Refusal} (n : ℕ) (names records : List ℕ) → no f ≡ v
    → Leaves v n names records (Err f) names records
refused_leaves {f = f} n names records e =
    subst (λ (v : Verdict Model). Leaves v n names records (Err f) names records) e
    (record { told = refl; named = refl; worded = refl })

-- new bytes written to the start of a part
part_over : (at : ℕ) (new old y : List ℕ) → y ≡ over new (part_from at old) → part_put at old y ≡ over_at at new old
part_over at new old y e =
    let none : drop (length old - at) (drop at old) ≡ [] = drop_of_length-le (drop at old)
    (le_of_eq (length-drop at old)) in
    ap (λ (t : List ℕ). take at old ++ t)
    (ap₂ ◌++◌ (e ∙ ap (over new) (rest old at)) none ∙ append-nil (over new (drop at old)))

module _ (rec names records : List ℕ) (n : ℕ) {name x d : List ℕ} {b : Bool} (w : name ≡ x)
    (f : d ≡ take (name_length * n) names) (r : b ≡ among x (names_in d)) where
  twice_if : (t : Bool) → b ≡ t → (m : Model) → padded m.name ≡ name
      → refuse_if t NameTwice (refuse_if (leb most_cards n) Malformed (yes m)) ≡ besides names n m
  twice_if t h m e =
      ap (λ (u : Bool). refuse_if u NameTwice (refuse_if (leb most_cards n) Malformed (yes m)))
      (sym h ∙ r ∙ ap₂ (λ (y : List ℕ) (l : List ℕ). among y (names_in l)) (sym (e ∙ w)) f)

  pub card_twice : b ≡ true → FilesCard name rec n names records (Err NameTwice) names records
  card_twice h m e g = refused_leaves n names records (twice_if true h m e)

  module _ (h : b ≡ false) where
    pub card_many : most_cards ≤ n → FilesCard name rec n names records (Err Malformed) names records
    card_many k m e g =
        refused_leaves n names records
        (sym (ap (λ (t : Bool). refuse_if t Malformed (yes m)) (le-leb most_cards n k)) ∙ twice_if false h m e)

    pub card_filed : n < most_cards → {y z : List ℕ} → y ≡ over name (part_from (name_length * n) names)
        → z ≡ over rec (part_from (record_bytes * n) records)
        → FilesCard name rec n names records (Ok tt) (part_put (name_length * n) names y)
        (part_put (record_bytes * n) records z)
    card_filed k {y} {z} p q m e g =
        subst (λ (v : Verdict Model). Leaves v n names records (Ok tt) (part_put (name_length * n) names y)
        (part_put (record_bytes * n) records z))
        (sym (ap (λ (t : Bool). refuse_if t Malformed (yes m)) (lt-leb most_cards n k)) ∙ twice_if false h m e)
        (record {
          told = refl;
          named =
              part_over (name_length * n) name names y p ∙ ap (λ (l : List ℕ). over_at (name_length * n) l names) (sym e);
          worded =
              part_over (record_bytes * n) rec records z q
              ∙ ap (λ (l : List ℕ). over_at (record_bytes * n) l records) (sym g);
        })

-- ---- one line

-- new bytes that fill a buffer
over_all : (new old : List ℕ) → length old ≤ length new → over new old ≡ new
over_all new old h = ap (λ (t : List ℕ). new ++ t) (drop_of_length-le old h) ∙ append-nil new

pub line_long : (line : List ℕ) (n : ℕ) (names records : List ℕ) → longest_line < length line
    → Files line n names records (Err BadLine) names records
unfolding filing_of
line_long line n names records h =
    refused_leaves n names records
    (sym (ap (λ (t : Bool). refuse_if t BadLine (and_then (line_of (trimmed line)) (besides names n)))
    (lt-ltb longest_line (length line) h)))

module _ (line : List ℕ) (n : ℕ) (names records : List ℕ) (h : length line ≤ longest_line) where
  not_long : filing_of line names n ≡ and_then (line_of (trimmed line)) (besides names n)
  unfolding filing_of
  not_long = ap (λ (t : Bool). refuse_if t BadLine (and_then (line_of (trimmed line)) (besides names n)))
      (le-ltb longest_line (length line) h)

  -- the reader's two buffers, and what it left in them
  module _ {nb rb nb' rb' : List ℕ} {t : List ℕ} {r : Result (Unit {0}) Refusal} (e : t ≡ trimmed line)
      (p : length nb ≡ name_length) (q : length rb ≡ record_bytes) (g : read.Reads t nb rb r nb' rb') where
    -- both have room, so that what is read is what the line says
    said : (v : Verdict Model) → line_of t ≡ v → read.reading_of t nb rb ≡ v
    unfolding read.reading_of
    said (no f) k = rw k
    said (yes m) k =
        rw (k, le-ltb (length nb) name_length (omega arith), le-ltb (length rb) record_bytes (omega arith))

    pub line_refused : {f : Refusal} → r ≡ Err f
        → Files line n names records (Err f) names records
    line_refused {f} k = by (line_of t) refl
      where
        told : (v : Verdict Model) → line_of t ≡ v → no f ≡ answered v
        told v l =
            tells_one (no f) (answered v)
            (ap told_answer (sym k) ∙ g.told ∙ ap (λ (x : Verdict Model). tells (answered x)) (said v l))

        by : (v : Verdict Model) → line_of t ≡ v → Files line n names records (Err f) names records
        by (no h) l =
            let z : ◌≡◌ {A = Verdict (Unit {0})} (no f) (no h) = told (no h) l in
            let y : f ≡ h = cc in
            refused_leaves n names records
            (sym (not_long ∙ ap (λ (x : List ℕ). and_then (line_of x) (besides names n)) (sym e)
            ∙ ap (λ (x : Verdict Model). and_then x (besides names n)) l ∙ ap no (sym y)))
        by (yes m) l = let z : ◌≡◌ {A = Verdict (Unit {0})} (no f) (yes tt) = told (yes m) l in clash cc

    pub line_filed : r ≡ (Ok tt) → {s : Result (Unit {0}) Refusal} {names' records' : List ℕ}
        → FilesCard nb' rb' n names records s names' records' → Files line n names records s names' records'
    line_filed k {s} {names'} {records'} c = by (line_of t) refl
      where
        told : (v : Verdict Model) → line_of t ≡ v → yes tt ≡ answered v
        told v l =
            tells_one (yes tt) (answered v)
            (ap told_answer (sym k) ∙ g.told ∙ ap (λ (x : Verdict Model). tells (answered x)) (said v l))

        by : (v : Verdict Model) → line_of t ≡ v → Files line n names records s names' records'
        by (no h) l = let z : ◌≡◌ {A = Verdict (Unit {0})} (yes tt) (no h) = told (no h) l in clash cc
        by (yes m) l =
            let whole : length (bytes_of_all m.words) ≡ record_bytes =
            length_all m.words ∙ ap (λ (x : ℕ). word_bytes * x) (line_good t m l).sound.long in
            let named : nb' ≡ padded m.name =
            g.named ∙ ap (λ (v : Verdict Model). read.name_left v nb) (said (yes m) l)
            ∙ over_all (padded m.name) nb (let z = padded_long m.name in omega arith) in
            let worded : rb' ≡ bytes_of_all m.words =
            g.worded ∙ ap (λ (v : Verdict Model). read.record_left v rb) (said (yes m) l)
            ∙ over_all (bytes_of_all m.words) rb (omega arith) in
            subst (λ (v : Verdict Model). Leaves v n names records s names' records')
            (sym (not_long ∙ ap (λ (x : List ℕ). and_then (line_of x) (besides names n)) (sym e)
            ∙ ap (λ (x : Verdict Model). and_then x (besides names n)) l))
            (c m (sym named) (sym worded))
