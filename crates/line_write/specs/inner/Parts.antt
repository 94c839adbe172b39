-- A line as it is put together: its head, and the line of a good card.
use Rattle.std.specs.Prelude.{Bool, not, List, ◌++◌, ℕ}
use Rattle.refusal.specs.declared.Refusal.TheVariants.{BadNumber}
use Rattle.refusal.specs.Order.{Verdict, yes, refuse_if, and_then}
use Rattle.spelling.specs.Bytes.{bytes}
use Rattle.keys.specs.Keys.{key_count}
use Rattle.keyed.specs.Keyed.{forms_up}
use Rattle.line_write.specs.Text.{type_of, line_text}
use Rattle.line_write.specs.Answers.{room_for}

abbrev pub head_of : List ℕ → Bool → List ℕ
head_of name pnp = bytes ".model " ++ (name ++ type_of pnp)

-- a card of which nothing but a number without a form can be wrong
abbrev pub good_text : List ℕ → List ℕ → List ℕ → Verdict (List ℕ)
good_text name rec line =
    and_then (refuse_if (not (forms_up rec key_count)) BadNumber (yes (line_text name rec))) (room_for line)
