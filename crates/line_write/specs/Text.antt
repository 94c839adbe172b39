-- The line of a card: `.model`, its name, its type, then every key with its number, in the record's order, one space
-- before each.
use Rattle.std.specs.Prelude.{Bool, not, ◌&&◌, ◌||◌, cond, List, ◌++◌, ℕ, ◌+◌, eqb}
use Rattle.refusal.specs.declared.Refusal.TheVariants.{Malformed, BadName, BadExsub, BadNumber}
use Rattle.refusal.specs.Order.{Verdict, yes, refuse_if}
use Rattle.name.specs.Name.{asked}
use Rattle.clip.specs.Numbers.{polarity, spare}
use Rattle.clip.specs.Record.{is_wide, word_at}
use Rattle.spelling.specs.Bytes.{bytes}
use Rattle.keys.specs.Keys.{key_count, plus_one, minus_one}
use Rattle.keyed.specs.Keyed.{forms_up, keys_up}

-- the words that no key has: a polarity that is one, and spare words that are +0
unfoldable pub settled : List ℕ → Bool
settled rec =
    (eqb (word_at rec polarity) plus_one || eqb (word_at rec polarity) minus_one)
    && (eqb (word_at rec spare) 0 && eqb (word_at rec (spare + 1)) 0)

abbrev pub type_of : Bool → List ℕ
type_of pnp = cond pnp (bytes " pnp") (bytes " npn")

abbrev pub type_text : ℕ → List ℕ
type_text p = type_of (eqb p minus_one)

abbrev pub head_text : List ℕ → List ℕ → List ℕ
head_text name rec = bytes ".model " ++ (name ++ type_text (word_at rec polarity))

unfoldable pub line_text : List ℕ → List ℕ → List ℕ
line_text name rec = head_text name rec ++ keys_up rec key_count

-- 1 for another length, 2 for the name, 8 for polarity and spare words, 21 for a number without a form
unfoldable pub text_of : List ℕ → List ℕ → Verdict (List ℕ)
text_of name rec =
    refuse_if (not (is_wide rec)) Malformed
    (refuse_if (not (asked name)) BadName
    (refuse_if (not (settled rec)) BadExsub
    (refuse_if (not (forms_up rec key_count)) BadNumber (yes (line_text name rec)))))
