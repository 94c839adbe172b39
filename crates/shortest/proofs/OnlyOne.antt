-- A word has no two shortest forms.
use mathlib.Core.Path.{◌≡◌, refl, sym, ap, subst, ◌∙◌}
use mathlib.Core.Logic.{inl, inr}
use mathlib.Core.Bool.{Bool, true, false, cond, ◌&&◌}
use Prim.Native.Nat.{ℕ, ◌+◌, ◌%◌, ◌<◌}
use native.Mathlib.Nat.{le_antisymm, eq-zero-or-pos, eq-or-lt_of_le}
use native.Mathlib.Omega.{arith}
use borrow.Author.Tests.{lt-ltb}
use Rattle.decimal.specs.Decimal.{sign_weight, size_bits}
use Rattle.shortest.specs.inner.Search.{Reads}
use Rattle.shortest.specs.laws.Least.{ReadsBack, Shortest}
use Rattle.decimal.proofs.Order.{size_pos, size_under}
use Rattle.shortest.proofs.Powers.{one_power, less_or_not}
use Rattle.shortest.proofs.Forms.{form_reads, form_is}

-- two numbers with digits that are one word have one sign
same_sign : (w s t : ℕ) (m n : Bool) → s < sign_weight → t < sign_weight → w ≡ cond (m && true) sign_weight 0 + s
    → w ≡ cond (n && true) sign_weight 0 + t → m ≡ n
same_sign w s t true true a b e f = refl
same_sign w s t true false a b e f = absurd (omega arith)
same_sign w s t false true a b e f = absurd (omega arith)
same_sign w s t false false a b e f = refl

module _ (w : ℕ) (m n : Bool) (d e q p : ℕ) (x : Shortest w m d q) (y : Shortest w n e p) where
  digits : d ≡ e
  digits = le_antisymm (x.smallest n e p y.form) (y.smallest m d q x.form)

  module _ (z : 0 < d) where
    signed : {k : Bool} {a b : ℕ} → 0 < a → ReadsBack w k a b → w ≡ cond (k && true) sign_weight 0 + size_bits a b
    signed {k} {a} {b} h f = form_is f ∙ ap (λ (t : Bool). cond (k && t) sign_weight 0 + size_bits a b) (lt-ltb 0 a h)

    some_size : 0 < w % sign_weight
    some_size = let a = (form_reads x.form).bits in let b = size_pos d q z x.form.digits x.form.power in
        omega arith

    other : Reads (w % sign_weight) d p
    other = subst (λ (k : ℕ). Reads (w % sign_weight) k p) (sym digits) (form_reads y.form)

    power : q ≡ p
    power = elim (less_or_not q p) [
      | inl h ↦ absurd (one_power some_size (form_reads x.form) other h)
      | inr h ↦ elim (eq-or-lt_of_le h) [
        | inl k ↦ sym k
        | inr k ↦ absurd (one_power some_size other
            (form_reads x.form) k)
      ]
    ]

    sign : m ≡ n
    sign =
        same_sign w (size_bits d q) (size_bits e p) m n
        (size_under d q x.form.digits x.form.power) (size_under e p y.form.digits y.form.power)
        (signed z x.form) (signed (subst (λ (k : ℕ). 0 < k) digits z) y.form)

  pub only_one : (m ≡ n) × (d ≡ e) × (q ≡ p)
  only_one = elim (eq-zero-or-pos d) [
    | inl z ↦ let u : e ≡ 0 = sym digits ∙ z in (x.plain z ∙ sym (y.plain u), digits, x.zero z ∙ sym (y.zero u))
    | inr z ↦ (sign z, digits, power z)
  ]
