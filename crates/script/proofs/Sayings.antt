-- What a line says, from the steps that read it.
use mathlib.Core.Path.{◌≡◌, ◌∙◌}
use mathlib.Core.Bool.{Bool, true, false, ◌||◌}
use mathlib.Core.List.{List}
use Prim.Native.Nat.{ℕ, ◌<◌, ◌≤◌}
use borrow.Author.Tests.{eq-eqb, ne_eqb, lt-ltb, le-ltb}
use lib.Dec.{eqb}
use lib.ListN.{length}
use Rattle.std.specs.Prelude.{Option, Some, None}
use Rattle.hex_bytes.specs.Hex.{ReadsHex}
use Rattle.words.specs.declared.Words.{Words}
use Rattle.script.specs.declared.Command.{Command}
use Rattle.verbs.specs.declared.Row.{Row}
use Rattle.verbs.specs.declared.Verb.{Verb}
use Rattle.verbs.specs.declared.Verb.TheVariants.{Nothing, TooLong, Error}
use Rattle.verbs.specs.declared.Wants.{Wants}
use Rattle.verbs.specs.declared.Wants.TheVariants.{Texts, Numbers, Either, Pairs, NameAndHex, Anything}
use Rattle.words.specs.Words.{no_words, words_of, word_at}
use Rattle.verbs.specs.Table.{row_named}
use Rattle.script.specs.Command.{longest_line, most_bytes, passed_over, said, has_numbers, said_pairs, verb_if, hex_of}
use Rattle.script.specs.Command.{said_to, spelled_to, SaysTo, command_of, buffer_of, Says}

-- ---- to a row

module _ (line : List ℕ) (w : Words) {old : List ℕ} {v : Verb} {r : Command} where
  pub said_texts : {want : Wants} {u : Verb} {n : ℕ} → want ≡ Texts n → u ≡ verb_if (eqb w.count n) v
      → r ≡ said line w u 0 → SaysTo line w v want old r old
  unfolding said_to spelled_to
  said_texts e f g = record { command = rw (e, ← f) g; buffer = rw e }

  pub said_numbers : {want : Wants} {u : Verb} {n : ℕ} {b : Bool} → want ≡ Numbers n
      → b ≡ has_numbers line w n → u ≡ verb_if b v → r ≡ said line w u 0
      → SaysTo line w v want old r old
  unfolding said_to spelled_to
  said_numbers e h f g = record { command = rw (e, ← h, ← f) g; buffer = rw e }

  pub said_either : {want : Wants} {u : Verb} {m n : ℕ} {b : Bool} → want ≡ Either m n
      → b ≡ has_numbers line w m || has_numbers line w n → u ≡ verb_if b v → r ≡ said line w u 0
      → SaysTo line w v want old r old
  unfolding said_to spelled_to
  said_either e h f g = record { command = rw (e, ← h, ← f) g; buffer = rw e }

  pub said_list : {want : Wants} → want ≡ Pairs → r ≡ said_pairs line w v → SaysTo line w v want old r old
  unfolding said_to spelled_to
  said_list e g = record { command = rw e g; buffer = rw e }

  pub said_any : {want : Wants} → want ≡ Anything → r ≡ said line w v 0 → SaysTo line w v want old r old
  unfolding said_to spelled_to
  said_any e g = record { command = rw e g; buffer = rw e }

  pub said_other : (w.count ≡ 3 → ⊥) → r ≡ said line w Error 0 → SaysTo line w v NameAndHex old r old
  unfolding said_to spelled_to
  said_other n e = record { command = rw (ne_eqb w.count 3 n) e; buffer = rw (ne_eqb w.count 3 n) }

module _ (line : List ℕ) (w : Words) {x old new : List ℕ} {h : Option ℕ} (c : w.count ≡ 3) (e : x ≡ word_at line w 2)
    (g : length old ≡ most_bytes) (q : ReadsHex x old h new) where
  is_hex_lem : h ≡ hex_of line w
  unfolding hex_of
  is_hex_lem = q.answer ∙ rw (g, e)

  spelled : new ≡ spelled_to line w NameAndHex old
  unfolding spelled_to
  spelled = q.bytes ∙ rw (g, e, eq-eqb w.count 3 c)

  pub said_bytes : {v : Verb} {r : Command} {n : ℕ} → h ≡ Some n → r ≡ said line w v n
      → SaysTo line w v NameAndHex old r new
  unfolding said_to
  said_bytes f p = record { command = rw (eq-eqb w.count 3 c, ← is_hex_lem, f) p; buffer = spelled }

  pub said_bad : {v : Verb} {r : Command} → h ≡ None → r ≡ said line w Error 0 → SaysTo line w v NameAndHex old r new
  unfolding said_to
  said_bad f p = record { command = rw (eq-eqb w.count 3 c, ← is_hex_lem, f) p; buffer = spelled }

-- ---- the whole line

module _ {line old : List ℕ} {r : Command} {w : Words} where
  pub says_long : longest_line < length line → w ≡ no_words → r ≡ said line w TooLong 0 → Says line old r old
  unfolding command_of buffer_of
  says_long h f e =
      let t = lt-ltb longest_line (length line) h in record { command = rw (t, ← f) e; buffer = rw t }

  module _ (h : length line ≤ longest_line) (p : w ≡ words_of line) where
    pub says_nothing : true ≡ passed_over (word_at line w 0) → r ≡ said line w Nothing 0 → Says line old r old
    unfolding command_of buffer_of
    says_nothing t e =
        let s = le-ltb longest_line (length line) h in
        record { command = rw (s, ← p, ← t) e; buffer = rw (s, ← p, ← t) }

    pub says_row : {new : List ℕ} {row : Row} → false ≡ passed_over (word_at line w 0) → row ≡ row_named (word_at line w 0)
        → SaysTo line w row.verb row.wants old r new → Says line old r new
    unfolding command_of buffer_of
    says_row t f v =
        let s = le-ltb longest_line (length line) h in
        record { command = rw (s, ← p, ← t, ← f) v.command; buffer = rw (s, ← p, ← t, ← f) v.buffer }
