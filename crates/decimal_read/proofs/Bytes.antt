-- A byte as a digit, and one or two of them, case by case.
use mathlib.Core.Path.{◌≡◌, refl, sym, ap, ap₂, ◌∙◌, subst}
use mathlib.Core.Logic.{◌⊎◌, inl, inr}
use mathlib.Core.Bool.{Bool, true, false, ◌&&◌, cond}
use mathlib.Core.List.{List, [], ◌∷◌}
use Prim.Native.Nat.{ℕ, ◌+◌, ◌-◌, ◌*◌, ◌≤◌, ◌<◌}
use native.Mathlib.Omega.{arith}
use lib.Dec.{leb, ltb}
use lib.ListN.{length, get_or}
use borrow.Author.Tests.{le-leb, lt-leb, lt-ltb}
use Rattle.std.specs.Prelude.{Option, Some, None}
use Rattle.std.specs.Char.{IsDigitOf, NotDecimalDigitIn}
use Rattle.std.proofs.Math.Decide.{dec_lt}
use Rattle.decimal_read.specs.Text.{figure_of, pair_of}
use Rattle.decimal_read.specs.inner.Told.{Told}

pub and_false : (b : Bool) → b && false ≡ false
and_false true = refl
and_false false = refl

-- a call that told of none
pub told_none : (end x : ℕ) (r : Option ℕ) → r ≡ None → x ≡ end → Told end r x
told_none end x r e h = subst (λ (y : Option ℕ). Told end y x) (sym e) h

pub digit_in : (b : ℕ) → 48 ≤ b → b ≤ 57 → b - 48 ≡ figure_of b
unfolding figure_of
digit_in b h k = sym (ap₂ (λ (x y : Bool). cond (x && y) (b - 48) 10) (le-leb 48 b h) (le-leb b 57 k))

pub digit_out : (b : ℕ) → (b < 48) ⊎ (57 < b) → figure_of b ≡ 10
unfolding figure_of
digit_out b (inl h) = ap (λ (x : Bool). cond (x && leb b 57) (b - 48) 10) (lt-leb 48 b h)
digit_out b (inr h) =
    ap (λ (x : Bool). cond (leb 48 b && x) (b - 48) 10) (lt-leb b 57 h)
    ∙ ap (λ (x : Bool). cond x (b - 48) 10) (and_false (leb 48 b))

-- the library's digit below ten, and none
pub digit_told : (b d : ℕ) → d < 10 → IsDigitOf b d → d ≡ figure_of b
digit_told b d l (inl h) =
    let r = h.0 in
    let e : b - 48 ≡ d = omega (arith, h.1) in sym e ∙ digit_in b r.0 r.1
digit_told b d l (inr (inl h)) = absurd (omega (arith, h.1, h.0))
digit_told b d l (inr (inr h)) = absurd (omega (arith, h.1, h.0))

pub digit_not : (b : ℕ) → NotDecimalDigitIn 10 b → figure_of b ≡ 10
digit_not b h = split (dec_lt b 48) (dec_lt 57 b)
  where
    split : Dec (b < 48) → Dec (57 < b) → figure_of b ≡ 10
    split (yes l) k = digit_out b (inl l)
    split (no l) (yes k) = digit_out b (inr k)
    split (no l) (no k) = let m = h (omega arith) (omega arith) in absurd (omega arith)

-- ---- one or two
one_is : (s : List ℕ) → length s ≡ 1 → pair_of s ≡ cond (ltb (figure_of (get_or s 0 0)) 10) (figure_of (get_or s 0 0)) 100
unfolding pair_of
one_is [] h = absurd (omega arith)
one_is (a ∷ []) h = refl
one_is (a ∷ b ∷ s) h = absurd (omega arith)

pair_is : (s : List ℕ) → length s ≡ 2
    → pair_of s ≡ cond (ltb (figure_of (get_or s 0 0)) 10 && ltb (figure_of (get_or s 1 0)) 10)
    (figure_of (get_or s 0 0) * 10 + figure_of (get_or s 1 0)) 100
unfolding pair_of
pair_is [] h = absurd (omega arith)
pair_is (a ∷ []) h = absurd (omega arith)
pair_is (a ∷ b ∷ []) h = refl
pair_is (a ∷ b ∷ c ∷ s) h = absurd (omega arith)

pub neither : (s : List ℕ) → (length s ≡ 1 → ⊥) → (length s ≡ 2 → ⊥) → pair_of s ≡ 100
unfolding pair_of
neither [] h k = refl
neither (a ∷ []) h k = absurd (h (omega arith))
neither (a ∷ b ∷ []) h k = absurd (k (omega arith))
neither (a ∷ b ∷ c ∷ s) h k = refl

pub one : (s : List ℕ) (r : Option ℕ) → length s ≡ 1 → Told 10 r (figure_of (get_or s 0 0)) → Told 100 r (pair_of s)
one s (Some a) h e =
    let l = e.1 in (
      sym (one_is s h ∙ ap (λ (x : ℕ). cond (ltb x 10) x 100) (sym e.0)
          ∙ ap (λ (t : Bool). cond t a 100) (lt-ltb a 10 l)),
      omega arith,
    )
one s None h e = one_is s h ∙ ap (λ (x : ℕ). cond (ltb x 10) x 100) e

module _ (s : List ℕ) (h : length s ≡ 2) where
  pub pair_first : figure_of (get_or s 0 0) ≡ 10 → pair_of s ≡ 100
  pair_first e =
      pair_is s h ∙ ap (λ (x : ℕ). cond (ltb x 10 && ltb (figure_of (get_or s 1 0)) 10)
      (x * 10 + figure_of (get_or s 1 0)) 100) e

  pub pair_second : figure_of (get_or s 1 0) ≡ 10 → pair_of s ≡ 100
  pair_second e =
      let a = figure_of (get_or s 0 0) in
      pair_is s h ∙ ap (λ (x : ℕ). cond (ltb a 10 && ltb x 10) (a * 10 + x) 100) e
      ∙ ap (λ (x : Bool). cond x (a * 10 + 10) 100) (and_false (ltb a 10))

  pub pair_yes : (a b : ℕ) → a ≡ figure_of (get_or s 0 0) → b ≡ figure_of (get_or s 1 0) → a < 10 → b < 10
      → a * 10 + b ≡ pair_of s
  pair_yes a b e f l m =
      sym (pair_is s h
      ∙ ap₂ (λ (x y : ℕ). cond (ltb x 10 && ltb y 10) (x * 10 + y) 100) (sym e) (sym f)
      ∙ ap₂ (λ (x y : Bool). cond (x && y) (a * 10 + b) 100) (lt-ltb a 10 l) (lt-ltb b 10 m))
