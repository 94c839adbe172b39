-- Digits added to a text, and signed numbers taken apart.
use mathlib.Core.Path.{◌≡◌, refl, ap, subst}
use mathlib.Core.List.{List, [], ◌∷◌, ◌++◌}
use mathlib.Core.Bool.{Bool, ◌&&◌}
use Prim.Native.Nat.{ℕ, zero, suc, ◌-◌, ◌/◌, ◌%◌, ◌^◌, ◌<◌, ◌≤◌}
use native.Mathlib.Nat.{not-suc-le-zero}
use native.Mathlib.Omega.{arith}
use borrow.Author.Tests.{lt-ltb, le-ltb}
use Rattle.sheet.specs.declared.Text.{Text}
use Rattle.current.specs.declared.Opened.{Opened}
use Rattle.sheet.specs.Text.{Adds}
use lib.Dec.{ltb}
use mir.Syntax.{w64}
use mir.Val.{SFits, to_z, of_z}
use Rattle.whole.proofs.Halves.{back}
use lib.IntN.{ℤ, pos, negsuc, nat_abs}
use lib.Signed.{lt_z}
use Rattle.current.specs.Current.{decimals, below_zero, opened_of, pico_of}
use Rattle.sheet.specs.Digits.{glyph_of, digits_of, plain_digits, decimal_of, sign_of, signed_digits, ampere_digits}
use Rattle.sheet.specs.Lines.{reading_of}
use Rattle.sheet.proofs.Texts.{then}

-- ---- a digit after those before it

digits_more : (b k x : ℕ) → 0 < k → digits_of b k x ≡ digits_of b (k - 1) (x / b) ++ glyph_of (x % b) ∷ []
unfolding digits_of
digits_more b zero x h = absurd (not-suc-le-zero h)
digits_more b (suc k) x h =
    let e : k ≡ suc k - 1 = omega arith in
    ap (λ (n : ℕ). digits_of b n (x / b) ++ glyph_of (x % b) ∷ []) e

plain_one : (k x : ℕ) → 0 < k → x < 10 → plain_digits k x ≡ glyph_of x ∷ []
unfolding plain_digits
plain_one zero x h l = absurd (not-suc-le-zero h)
plain_one (suc k) x h l = rw (lt-ltb x 10 l)

plain_more : (k x : ℕ) → 0 < k → 10 ≤ x → plain_digits k x ≡ plain_digits (k - 1) (x / 10) ++ glyph_of (x % 10) ∷ []
unfolding plain_digits
plain_more zero x h l = absurd (not-suc-le-zero h)
plain_more (suc k) x h l =
    let e : k ≡ suc k - 1 = omega arith in
    rw (le-ltb x 10 l) (ap (λ (n : ℕ). plain_digits n (x / 10) ++ glyph_of (x % 10) ∷ []) e)

module _ {t r s : Text} {g : ℕ} (k x : ℕ) (h : 0 < k) where
  pub spell_on : (b : ℕ) → Adds t (digits_of b (k - 1) (x / b)) r → g ≡ glyph_of (x % b) → Adds r (g ∷ []) s
      → Adds t (digits_of b k x) s
  spell_on b p e q = rw (digits_more b k x h) (then p (rw e at q))

  pub plain_on : 10 ≤ x → Adds t (plain_digits (k - 1) (x / 10)) r → g ≡ glyph_of (x % 10) → Adds r (g ∷ []) s
      → Adds t (plain_digits k x) s
  plain_on l p e q = rw (plain_more k x h l) (then p (rw e at q))

pub plain_last : {t s : Text} {g : ℕ} (k x : ℕ) → 0 < k → x < 10 → g ≡ glyph_of x → Adds t (g ∷ []) s
    → Adds t (plain_digits k x) s
plain_last k x h l e q = rw (plain_one k x h l) (rw e at q)

-- ---- signed numbers in digits

module _ {t r : Text} (v : ℤ) (h : SFits w64 v) where
  -- a signed number that a word holds is that number
  pub as_given : (f : ℤ → List ℕ) → Adds t (f (to_z w64 (of_z w64 v))) r → Adds t (f v) r
  as_given f a = subst (λ (z : ℤ). Adds t (f z) r) (back v h) a

  pub as_read : (n : ℕ) (w : ℤ) → SFits w64 w → Adds t (reading_of n (to_z w64 (of_z w64 v)) (to_z w64 (of_z w64 w))) r
      → Adds t (reading_of n v w) r
  as_read n w k a = rw (back v h, back w k) at a

pub below_is : (z : ℤ) → lt_z z (pos 0) ≡ below_zero z
below_is (pos n) = le-ltb n 0 (omega arith)
below_is (negsuc n) = refl

pub signed_done : {t r s : Text} {below : Bool} {size : ℕ} (z : ℤ) → below ≡ below_zero z → size ≡ nat_abs z
    → Adds t (sign_of below) r → Adds r (decimal_of size) s → Adds t (signed_digits z) s
signed_done z e f p q = then (rw e at p) (rw f at q)

module _ {t r s : Text} {o : Opened} (z : ℤ) (e : o ≡ opened_of z) where
  -- the steps of a current: its picoamperes, whether a sign is shown, the sign, then the rest
  pub amperes_done : {n : ℕ} {m : Bool} → n ≡ pico_of o.size → m ≡ (o.below && ltb 0 n) → Adds t (sign_of m) r
      → Adds r (decimal_of (n / 10 ^ decimals) ++ 46 ∷ digits_of 10 decimals n) s → Adds t (ampere_digits z) s
  amperes_done f g p q =
      let size : o.size ≡ nat_abs z = ap (λ (u : Opened). u.size) e in
      let below : o.below ≡ below_zero z = ap (λ (u : Opened). u.below) e in
      then (rw (g, f, size, below) at p) (rw (f, size) at q)
