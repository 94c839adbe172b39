-- Marks as binary digits: the one that is made is set, and those made before stay.
use Rattle.std.proofs.Common.{◌≡◌, ℕ, zero, suc, ◌/◌, ◌%◌, ◌^◌, ◌<◌, Bool, true, false, eqb, List, length, get_or, refl, ap, ◌∙◌, mod-lt, arith, get_or-set_other, get_or-set_same, pow_pos, eq-eqb, eqb-true}
use native.Mathlib.Nat.{div_self}
use borrow.Author.Tests.{eqb-false}
use lib.Bits.{bit_or, or_comm, or_shr, or_mod}
use Rattle.roll.specs.inner.Marks.{slots, digits, mark_words, made, with_mark}

-- a digit set in one of two numbers is set in both taken together
digit_left : (a b i : ℕ) → a / 2 ^ i % 2 ≡ 1 → bit_or a b / 2 ^ i % 2 ≡ 1
digit_left a b i e =
    ap (λ (x : ℕ). x % 2) (or_shr a b i)
    ∙ or_mod (a / 2 ^ i) (b / 2 ^ i) 1
    ∙ ap (λ (x : ℕ). bit_or x (b / 2 ^ i % 2)) e
    ∙ one_or (b / 2 ^ i % 2) (mod-lt (b / 2 ^ i) (omega arith))
  where
    one_or : (x : ℕ) → x < 2 → bit_or 1 x ≡ 1
    one_or zero h = refl
    one_or (suc zero) h = refl
    one_or (suc (suc x)) h = absurd (omega arith)

digit_own : (a i : ℕ) → bit_or a (2 ^ i) / 2 ^ i % 2 ≡ 1
digit_own a i =
    let own : 2 ^ i / 2 ^ i % 2 ≡ 1 = ap (λ (x : ℕ). x % 2) (div_self (pow_pos i)) in
    ap (λ (x : ℕ). x / 2 ^ i % 2) (or_comm a (2 ^ i)) ∙ digit_left (2 ^ i) a i own

module _ (marks : List ℕ) (k : ℕ) (l : length marks ≡ mark_words) (h : k < slots) where
  -- the word in which the mark k stands, once it is made
  word_made : get_or (with_mark marks k) (k / digits) 0 ≡ bit_or (get_or marks (k / digits) 0) (2 ^ (k % digits))
  word_made = get_or-set_same marks (k / digits) _ 0 (omega arith)

  pub is_set : made (with_mark marks k) k ≡ true
  is_set =
      eq-eqb _ 1
      (ap (λ (x : ℕ). x / 2 ^ (k % digits) % 2) word_made ∙ digit_own (get_or marks (k / digits) 0) (k % digits))

  pub stays : (j : ℕ) → made marks j ≡ true → made (with_mark marks k) j ≡ true
  stays j e = go (eqb (j / digits) (k / digits)) refl
    where
      go : (t : Bool) → eqb (j / digits) (k / digits) ≡ t → made (with_mark marks k) j ≡ true
      go true f =
          let s : j / digits ≡ k / digits = eqb-true _ _ f in
          let own : get_or marks (j / digits) 0 / 2 ^ (j % digits) % 2 ≡ 1 = eqb-true _ 1 e in
          let old : get_or marks (k / digits) 0 / 2 ^ (j % digits) % 2 ≡ 1 = rw s at own in
          eq-eqb _ 1
          (ap (λ (x : ℕ). x / 2 ^ (j % digits) % 2) (ap (λ (n : ℕ). get_or (with_mark marks k) n 0) s ∙ word_made)
          ∙ digit_left (get_or marks (k / digits) 0) (2 ^ (k % digits)) (j % digits) old)
      go false f =
          ap (λ (x : ℕ). eqb (x / 2 ^ (j % digits) % 2) 1)
          (get_or-set_other marks (k / digits) (j / digits) _ 0 (eqb-false _ _ f))
          ∙ e
