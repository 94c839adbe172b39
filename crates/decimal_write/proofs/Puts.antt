-- Texts put one after the other, and what the digits and the parts of a number are.
use mathlib.Core.Path.{◌≡◌, sym, ap, ◌∙◌, subst}
use mathlib.Core.Bool.{Bool, true, false}
use mathlib.Core.List.{List, [], ◌∷◌, ◌++◌, append_assoc}
use Prim.Native.Nat.{ℕ, zero, suc, ◌+◌, ◌-◌, ◌/◌, ◌%◌, ◌≤◌, ◌<◌}
use native.Mathlib.Omega.{arith}
use lib.ListN.{take}
use borrow.Author.Tests.{lt-ltb, le-ltb}
use Rattle.spelling.specs.Digits.{plain_digits, sign_of}
use Rattle.decimal_write.specs.Written.{power_if, power_text, number_text}
use Rattle.decimal_write.specs.Added.{Added}

-- one text after the other
pub then : {o m n : List ℕ} {a r s : ℕ} {x y : List ℕ} → Added o a m r x → Added m r n s y → Added o a n s (x ++ y)
then {o} {a = a} {x = x} {y = y} e f = record {
  same = f.same ∙ ap (λ (u : List ℕ). u ++ y) e.same ∙ append_assoc (take a o) x y;
  kept = f.kept ∙ e.kept;
}

-- the same bytes by another name
pub made : {o n : List ℕ} {a s : ℕ} {x y : List ℕ} → Added o a n s x → x ≡ y → Added o a n s y
made {o} {n} {a} {s} e h = subst (Added o a n s) h e

-- ---- digits

pub one_digit : (k d : ℕ) → d < 10 → plain_digits (suc k) d ≡ (48 + d) ∷ []
unfolding plain_digits
one_digit k d h = rw (lt-ltb d 10 h)

pub more_digits : (k d : ℕ) → 10 ≤ d → plain_digits (suc k) d ≡ plain_digits k (d / 10) ++ (48 + d % 10) ∷ []
unfolding plain_digits
more_digits k d h = let l : d % 10 < 10 = omega arith in rw (le-ltb d 10 h, lt-ltb (d % 10) 10 l)

pub last_put : (k d : ℕ) → 0 < k → d < 10 → (48 + d) ∷ [] ≡ plain_digits k d
last_put zero d h l = absurd (omega arith)
last_put (suc k) d h l = sym (one_digit k d l)

pub more_put : (k d : ℕ) → 0 < k → 10 ≤ d → plain_digits (k - 1) (d / 10) ++ ((48 + d % 10) ∷ []) ≡ plain_digits k d
more_put zero d h l = absurd (omega arith)
more_put (suc k) d h l =
    let z : suc k - 1 ≡ k = omega arith in
    ap (λ (n : ℕ). plain_digits n (d / 10) ++ ((48 + d % 10) ∷ [])) z ∙ sym (more_digits k d l)

-- ---- the power, and the number

pub power_under : (q : ℕ) → q < 22 → (45 ∷ []) ++ plain_digits 2 (22 - q) ≡ power_text q
unfolding power_text
power_under q h = ap (λ (t : Bool). power_if t q) (sym (lt-ltb q 22 h))

pub power_over : (q : ℕ) → 22 ≤ q → plain_digits 2 (q - 22) ≡ power_text q
unfolding power_text
power_over q h = ap (λ (t : Bool). power_if t q) (sym (le-ltb q 22 h))

module _ (minus : Bool) (d q : ℕ) where
  signed : Bool → List ℕ
  signed t = sign_of t ++ (plain_digits 15 d ++ (101 ∷ power_text q))

  pub number_plain : minus ≡ false → (plain_digits 15 d ++ (101 ∷ [])) ++ power_text q ≡ number_text minus d q
  unfolding number_text signed
  number_plain m = append_assoc (plain_digits 15 d) (101 ∷ []) (power_text q) ∙ ap signed (sym m)

  pub number_minus : minus ≡ true
      → (((45 ∷ []) ++ plain_digits 15 d) ++ (101 ∷ [])) ++ power_text q ≡ number_text minus d q
  unfolding number_text signed
  number_minus m =
      ap (λ (u : List ℕ). 45 ∷ u) (append_assoc (plain_digits 15 d) (101 ∷ []) (power_text q)) ∙ ap signed (sym m)
