-- All keys put one after the other.
use mathlib.Core.Path.{◌≡◌, refl, sym, ap, ap₂, ◌∙◌, subst}
use mathlib.Core.Logic.{◌⊎◌, inl, inr}
use mathlib.Core.Bool.{Bool, false, ◌&&◌}
use mathlib.Core.List.{List, ◌++◌, append-nil}
use Prim.Native.Nat.{ℕ, zero, suc, ◌+◌, ◌≤◌, ◌<◌}
use native.Mathlib.Nat.{eq-or-lt_of_le, le_of_suc-le-suc}
use native.Mathlib.Numerals.{add-one}
use native.Mathlib.Omega.{arith}
use lib.ListN.{take}
use Rattle.clip.specs.Record.{word_at}
use Rattle.shortest.specs.Form.{form_of}
use Rattle.decimal_write.specs.Added.{Added}
use Rattle.decimal_write.proofs.Puts.{then}
use Rattle.keys.specs.Keys.{key_count}
use Rattle.keyed.specs.Keyed.{is_form, forms_up, key_text, keys_up}
use Rattle.std.specs.Prelude.{Option, None}
use Rattle.keyed.specs.inner.Parts.{KeyPut, KeysPut, PutKeys}

pub keys_begun : (rec room : List ℕ) (from : ℕ) → KeysPut rec room from room 0 from
unfolding keys_up forms_up
keys_begun rec room from = record {
  most = omega arith;
  added = record { same = sym (append-nil (take from room)); kept = refl };
  forms = refl;
}

pub keys_more : {rec old mid new : List ℕ} {from n at w to : ℕ} → KeysPut rec old from mid n at → w ≡ word_at rec n
    → KeyPut mid at new n w to → KeysPut rec old from new (n + 1) to
unfolding keys_up forms_up
keys_more {rec} {old} {mid} {new} {from} {n} {at} {w} {to} v e k =
    let a = v.most in
    let b = k.most in
    subst (λ (m : ℕ). KeysPut rec old from new m to) (sym (add-one n))
    (record {
      most = omega arith;
      added =
          subst (λ (x : ℕ). Added old from new to (keys_up rec n ++ key_text n x)) e (then v.added k.added);
      forms = ap₂ ◌&&◌ v.forms (ap (λ (x : ℕ). is_form (form_of x)) (sym e) ∙ k.form);
    })

-- one that has no form leaves all of them without
stays : (rec : List ℕ) (n m : ℕ) → n ≤ m → forms_up rec n ≡ false → forms_up rec m ≡ false
unfolding forms_up
stays rec n zero h e = let z : n ≡ 0 = omega arith in rw z at e
stays rec n (suc m) h e = by (eq-or-lt_of_le h) (λ l. stays rec n m l e)
  where
    by : (n ≡ suc m) ⊎ (n < suc m) → (n ≤ m → forms_up rec m ≡ false) → forms_up rec (suc m) ≡ false
    by (inl z) f = rw z at e
    by (inr l) f = ap (λ (t : Bool). t && is_form (form_of (word_at rec m))) (f (le_of_suc-le-suc l))

pub keys_fail : {rec old mid : List ℕ} (new : List ℕ) {from n at w : ℕ} {r : Option ℕ} → KeysPut rec old from mid n at
    → w ≡ word_at rec n → n < key_count → is_form (form_of w) ≡ false → r ≡ None → PutKeys rec old from new r
unfolding forms_up
keys_fail {rec} {old} new {from} {n} v e h f z =
    subst (PutKeys rec old from new) (sym z)
    (stays rec (suc n) key_count h (ap₂ ◌&&◌ v.forms (ap (λ (x : ℕ). is_form (form_of x)) (sym e) ∙ f)))
