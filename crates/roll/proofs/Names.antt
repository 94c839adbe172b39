-- The pieces of a list, and tests on plain values.
use Rattle.std.proofs.Common.{◌≡◌, ℕ, zero, suc, ◌/◌, ◌<◌, ◌≤◌, Bool, true, false, ◌||◌, List, [], ◌∷◌, length, take, drop, sym, refl, ap, ◌∙◌, add-one, arith, length-drop}
use native.Mathlib.Nat.{div-eq-sub-div, div-eq_of_lt}
use Rattle.roll.specs.Directory.{pieces, cut}

-- what is not so
pub never : {X : Type 0} → ◌≡◌ {A = ℕ} 0 1 → X
never e = absurd (omega arith)

pub or_true : {a : Bool} → a ≡ true → (b : Bool) → a || b ≡ true
or_true e b = ap (λ (t : Bool). t || b) e

pub or_false : {a b : Bool} → a ≡ false → a || b ≡ b
or_false {a} {b} e = ap (λ (t : Bool). t || b) e

pub length_pieces : (w n : ℕ) (s : List ℕ) → length (pieces w n s) ≡ n
length_pieces w zero s = refl
length_pieces w (suc n) s = ap suc (length_pieces w n (drop w s))

pub cut_none : (w : ℕ) (s : List ℕ) → length s < w → cut w s ≡ []
cut_none w s h = ap (λ (n : ℕ). pieces w n s) (div-eq_of_lt h)

pub cut_more : (w : ℕ) (s : List ℕ) → 0 < w → w ≤ length s → cut w s ≡ take w s ∷ cut w (drop w s)
cut_more w s p h =
    ap (λ (n : ℕ). pieces w n s) (div-eq-sub-div p h ∙ add-one _ ∙ ap (λ (m : ℕ). suc (m / w)) (sym (length-drop w s)))
