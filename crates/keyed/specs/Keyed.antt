-- Every key with its number, in the record's order, one space before each; and whether each number has a form.
use Rattle.std.specs.Prelude.{Bool, true, false, ◌&&◌, List, [], ◌∷◌, ◌++◌, Option, Some, None, ℕ, zero, suc}
use Rattle.clip.specs.Record.{word_at}
use Rattle.spelling.specs.Bytes.{space}
use Rattle.decimal.specs.declared.Decimal.{Decimal}
use Rattle.shortest.specs.Form.{form_of}
use Rattle.decimal_write.specs.Written.{form_text}
use Rattle.keys.specs.Keys.{key_word}

-- whether a word has a form, and whether each of the first n has
abbrev pub is_form : Option Decimal → Bool
is_form (Some x) = true
is_form None = false

unfoldable pub forms_up : List ℕ → ℕ → Bool
forms_up rec zero = true
forms_up rec (suc n) = forms_up rec n && is_form (form_of (word_at rec n))

-- a key with its number
abbrev pub key_text : ℕ → ℕ → List ℕ
key_text k w = space ∷ (key_word k ++ (61 ∷ form_text (form_of w)))

-- the first n of them
unfoldable pub keys_up : List ℕ → ℕ → List ℕ
keys_up rec zero = []
keys_up rec (suc n) = keys_up rec n ++ key_text n (word_at rec n)
