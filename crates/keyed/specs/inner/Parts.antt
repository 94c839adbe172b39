-- Keys as they are put: one without and with its number, and all of them.
use Rattle.std.specs.Prelude.{◌≡◌, true, false, List, [], ◌∷◌, ◌++◌, Option, Some, None, ℕ, ◌+◌, ◌*◌, ◌≤◌}
use Rattle.spelling.specs.Bytes.{space}
use Rattle.shortest.specs.Form.{form_of}
use Rattle.decimal_write.specs.Added.{Added}
use Rattle.keys.specs.Keys.{key_count, key_word}
use Rattle.keyed.specs.Keyed.{is_form, forms_up, key_text, keys_up}

abbrev pub key_start : ℕ → List ℕ
key_start k = space ∷ (key_word k ++ (61 ∷ []))

-- the key k with the word w was put, up to a place
pub record KeyPut (old : List ℕ) (at : ℕ) (new : List ℕ) (k w to : ℕ) : Type 0 where
  pub most : to ≤ at + 28
  pub added : Added old at new to (key_text k w)
  pub form : is_form (form_of w) ≡ true

abbrev pub PutKey : List ℕ → ℕ → List ℕ → ℕ → ℕ → Option ℕ → Type 0
PutKey old at new k w (Some to) = KeyPut old at new k w to
PutKey old at new k w None = is_form (form_of w) ≡ false

-- the first n keys were
pub record KeysPut (rec old : List ℕ) (from : ℕ) (new : List ℕ) (n to : ℕ) : Type 0 where
  pub most : to ≤ from + n * 28
  pub added : Added old from new to (keys_up rec n)
  pub forms : forms_up rec n ≡ true

abbrev pub PutKeys : List ℕ → List ℕ → ℕ → List ℕ → Option ℕ → Type 0
PutKeys rec old from new (Some to) = KeysPut rec old from new key_count to
PutKeys rec old from new None = forms_up rec key_count ≡ false
