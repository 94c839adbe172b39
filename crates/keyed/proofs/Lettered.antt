-- A key's letters from its number, and a key with its number's text.
use mathlib.Core.Path.{◌≡◌, refl, sym, ap, subst, ◌∙◌}
use mathlib.Core.Bool.{Bool, true, false, ◌&&◌}
use mathlib.Core.List.{List, [], ◌∷◌, ◌++◌, append_assoc}
use Prim.Native.Nat.{ℕ, ◌-◌, ◌≤◌, ◌<◌}
use native.Mathlib.Nat.{sub-zero}
use native.Mathlib.Omega.{arith}
use lib.Dec.{T, leb, leb→le}
use lib.ListN.{length, take, get_or, length-take}
use mir.Facts.{and_yes}
use Rattle.bytes_le.specs.Le.{bytes_of}
use Rattle.name.specs.Name.{same, same_equal}
use Rattle.whole.specs.laws.Every.{at_each}
use Rattle.spelling.specs.Bytes.{space}
use Rattle.std.specs.Prelude.{Option, Some, None}
use Rattle.decimal.specs.declared.Decimal.{Decimal}
use Rattle.decimal.specs.Decimal.{digits_end, powers_end}
use Rattle.shortest.specs.Form.{form_of}
use Rattle.shortest.proofs.Fewest.{formed}
use Rattle.decimal_write.specs.Written.{number_text, form_text}
use Rattle.keys.specs.Keys.{key_count, key_word, packed_keys, key_lengths}
use Rattle.keyed.specs.Keyed.{is_form, key_text}
use Rattle.keyed.specs.inner.Parts.{key_start, PutKey}

-- ---- the letters, by a test of all keys

abbrev letters_at : ℕ → List ℕ
letters_at k = take (get_or key_lengths k 0) (bytes_of 8 (get_or packed_keys k 0))

true_of : (b : Bool) → T b → b ≡ true
true_of true t = refl
true_of false t = absurd t

tested : (k : ℕ) → k < key_count → T (same (letters_at k) (key_word k) && leb (get_or key_lengths k 0) 6)
tested k h = at_each (λ i. same (letters_at i) (key_word i) && leb (get_or key_lengths i 0) 6) key_count tt k h

module _ {packed lengths : List ℕ} (p : packed ≡ packed_keys) (l : lengths ≡ key_lengths) (k : ℕ) (h : k < key_count) where
  pub short_key : get_or lengths k 0 ≤ 6
  short_key =
      rw l (leb→le _ _ (and_yes (same (letters_at k) (key_word k)) (leb (get_or key_lengths k 0) 6) (tested k h)).1)

  pub letters_few : length (take (get_or lengths k 0 - 0) (bytes_of 8 (get_or packed k 0))) ≤ 6
  letters_few = let s = short_key in rw length-take (omega arith)

  pub letters : take (get_or lengths k 0 - 0) (bytes_of 8 (get_or packed k 0)) ≡ key_word k
  letters =
      rw (p, l, sub-zero)
      (same_equal (letters_at k) (key_word k)
      (true_of _ (and_yes (same (letters_at k) (key_word k)) (leb (get_or key_lengths k 0) 6) (tested k h)).0))

-- ---- a key with its number

module _ (w : ℕ) {x : Decimal} (e : Some x ≡ form_of w) where
  pub has_form : is_form (form_of w) ≡ true
  has_form = ap is_form (sym e)

  pub form_range : (x.digits < digits_end) × (x.power < powers_end)
  form_range = let s = rw (sym e) at (formed w) in (s.form.digits, s.form.power)

  pub keyed_text : (k : ℕ) → key_start k ++ number_text x.minus x.digits x.power ≡ key_text k w
  unfolding form_text
  keyed_text k =
      ap (λ (t : List ℕ). space ∷ t) (append_assoc (key_word k) (61 ∷ []) (number_text x.minus x.digits x.power))
      ∙ ap (λ (y : Option Decimal). space ∷ (key_word k ++ (61 ∷ form_text y))) e

pub no_form : (old : List ℕ) (at : ℕ) (new : List ℕ) (k w : ℕ) (r : Option ℕ) → r ≡ None → None ≡ form_of w
    → PutKey old at new k w r
no_form old at new k w r e f = subst (PutKey old at new k w) (sym e) (ap is_form (sym f))
