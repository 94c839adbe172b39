-- A list made up by a function from place to element: its length, its elements, and one element set.
use Rattle.std.specs.Prelude.{◌≡◌, Bool, true, false, ◌∷◌, eqb, length, get_or, set, replicate}
use Rattle.std.proofs.Math.Path.{refl, ap}
use Rattle.std.proofs.Common.{sym, ◌∙◌, le_refl, length-set, get_or-set_same, get_or-set_other, eqb-true}
use Prim.Native.Nat.{ℕ, zero, suc, ◌+◌, ◌<◌}
use native.Mathlib.Omega.{arith}
use Rattle.std.proofs.lemmas.Bool.{eqb-false}
use Rattle.rows.specs.inner.FromTerms.{list_up}
use Rattle.rows.specs.laws.Filled.{filled_all}

module _ {A : Type 0} where
  pub length_up : (f : ℕ → A) (n k : ℕ) → length (list_up f n k) ≡ n
  unfolding list_up
  length_up f zero k = refl
  length_up f (suc n) k = ap suc (length_up f n (suc k))

  pub get_or_up : (f : ℕ → A) (n k i : ℕ) (d : A) → i < n → get_or (list_up f n k) i d ≡ f (k + i)
  unfolding list_up
  get_or_up f zero k i d h = absurd (omega arith)
  get_or_up f (suc n) k zero d h = let e : k ≡ k + 0 = omega arith in ap f e
  get_or_up f (suc n) k (suc i) d h =
      let e : suc k + i ≡ k + suc i = omega arith in get_or_up f n (suc k) i d (omega arith) ∙ ap f e

  -- two functions that agree at n places from k on
  pub up_same : (f g : ℕ → A) (n k : ℕ) → ((i : ℕ) → i < n → f (k + i) ≡ g (k + i)) → list_up f n k ≡ list_up g n k
  unfolding list_up
  up_same f g zero k h = refl
  up_same f g (suc n) k h =
      let z : k + 0 ≡ k = omega arith in
      let here : f k ≡ g k = rw z at (h 0 (omega arith)) in
      let rest = up_same f g n (suc k) (λ i q. moved i (h (suc i) (omega arith))) in
      λ j. here j ∷ rest j
    where
      moved : (i : ℕ) → f (k + suc i) ≡ g (k + suc i) → f (suc k + i) ≡ g (suc k + i)
      moved i e = let m : k + suc i ≡ suc k + i = omega arith in rw m at e

  pub up_all : (f : ℕ → A) (a : A) (n k : ℕ) → ((i : ℕ) → f i ≡ a) → list_up f n k ≡ replicate n a
  unfolding list_up
  up_all f a zero k h = refl
  up_all f a (suc n) k h = let rest = up_all f a n (suc k) h in λ j. h k j ∷ rest j

  -- functions that agree everywhere but at i
  pub up_set : (d : A) (f g : ℕ → A) (n i : ℕ) → i < n → ((j : ℕ) → j < n → (j ≡ i → ⊥) → g j ≡ f j) →
      list_up g n 0 ≡ set (list_up f n 0) i (g i)
  up_set d f g n i h other =
      sym (filled_all {d = d} (le_refl n)
      (record { long = length-set (list_up f n 0) i (g i) ∙ length_up f n 0; at = λ j q. go j q (eqb j i) refl }))
    where
      go : (j : ℕ) → j < n → (t : Bool) → eqb j i ≡ t → get_or (set (list_up f n 0) i (g i)) j d ≡ g j
      go j q true p = let e = eqb-true j i p in rw e (get_or-set_same (list_up f n 0) i (g i) d (rw (length_up f n 0) h))
      go j q false p =
          let e = eqb-false j i p in
          let z : 0 + j ≡ j = omega arith in
          get_or-set_other (list_up f n 0) i j (g i) d e ∙ get_or_up f n 0 j d q ∙ ap f z ∙ sym (other j q e)
