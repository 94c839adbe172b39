-- Polarity and spare words, test after test.
use mathlib.Core.Path.{◌≡◌, sym, ap, ◌∙◌}
use mathlib.Core.Bool.{Bool, true, false, ◌&&◌, ◌||◌}
use mathlib.Core.List.{List}
use Prim.Native.Nat.{ℕ, ◌+◌}
use lib.Dec.{eqb}
use borrow.Author.Tests.{eq-eqb, ne_eqb}
use Rattle.clip.specs.Numbers.{polarity, spare}
use Rattle.clip.specs.Record.{word_at}
use Rattle.keys.specs.Keys.{plus_one, minus_one}
use Rattle.line_write.specs.Text.{settled}

module _ (rec : List ℕ) {p : ℕ} where
  pub not_signed : false ≡ (eqb p plus_one || eqb p minus_one) → p ≡ word_at rec polarity → false ≡ settled rec
  unfolding settled
  not_signed e f =
      ap (λ (t : Bool). t && (eqb (word_at rec spare) 0 && eqb (word_at rec (spare + 1)) 0))
      (e ∙ ap (λ (x : ℕ). eqb x plus_one || eqb x minus_one) f)

  module _ (e : true ≡ (eqb p plus_one || eqb p minus_one)) (f : p ≡ word_at rec polarity) where
    spares : eqb (word_at rec spare) 0 && eqb (word_at rec (spare + 1)) 0 ≡ settled rec
    unfolding settled
    spares =
        ap (λ (t : Bool). t && (eqb (word_at rec spare) 0 && eqb (word_at rec (spare + 1)) 0))
        (e ∙ ap (λ (x : ℕ). eqb x plus_one || eqb x minus_one) f)

    pub first_spare : {a : ℕ} → a ≡ word_at rec spare → (a ≡ 0 → ⊥) → false ≡ settled rec
    first_spare g n =
        sym (ap (λ (t : Bool). t && eqb (word_at rec (spare + 1)) 0) (ne_eqb (word_at rec spare) 0 (λ h. n (g ∙ h))))
        ∙ spares

    pub second_spare : {a b : ℕ} → a ≡ word_at rec spare → a ≡ 0 → b ≡ word_at rec (spare + 1) → eqb b 0 ≡ settled rec
    second_spare g z h =
        ap (λ (x : ℕ). eqb x 0) h
        ∙ sym (ap (λ (t : Bool). t && eqb (word_at rec (spare + 1)) 0) (eq-eqb (word_at rec spare) 0 (sym g ∙ z)))
        ∙ spares
