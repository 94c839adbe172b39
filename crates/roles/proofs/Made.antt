-- An array that a closure makes, number by number.
use Rattle.std.proofs.Common.{◌≡◌, subst, ◌∙◌, ℕ, ◌+◌, ◌<◌, ◌≤◌, zero, suc, List, slice_index_or, map, refl, inl, inr, arith}
use Rattle.std.proofs.lemmas.Bool.{cases_lt}
use Rattle.std.proofs.lemmas.List.FromFn.{fill_by_all}
use Rattle.std.specs.Array.{IsFromFnResultFrom, IsFromFnResult}
use Rattle.std.specs.Fn.{Called, Mut}
use Rattle.std.specs.List.{range_with_len}

-- the closure stays as it is, and gives a value for each number
module _ {F B : Type 0} (g : Mut F (ℕ × Unit {0}) B) (f : F) (value : ℕ → B)
    (told : (a : ℕ) (y : B) (q : F) → Called g f (a, tt) y q → (q ≡ f) × (y ≡ value a)) (ys : List B) (d : B) where
  made_from : (i n : ℕ) (p : F) → p ≡ f → IsFromFnResultFrom g p ys i n → (k : ℕ) → i ≤ k → k < i + n
      → slice_index_or ys k d ≡ value k
  made_from i zero p e r k a b = absurd (omega arith)
  made_from i (suc n) p e r k a b =
      let now = told i r.1 r.0 (subst (λ (z : F). Called g z (i, tt) r.1 r.0) e r.3) in
      elim (cases_lt i k) [
        | inl l ↦ made_from (i + 1) n r.0 now.0 r.4 k (omega arith) (omega arith)
        | inr l ↦ subst (λ (j : ℕ). slice_index_or ys j d ≡ value j) (omega arith) (r.2.1 d ∙ now.1)
      ]

  pub made : (n : ℕ) → IsFromFnResult g f ys n → ys ≡ map value (range_with_len 0 n)
  made n r = fill_by_all value ys n d r.long (λ k h. made_from 0 n f refl r.each k (omega arith) (omega arith))
