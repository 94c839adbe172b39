-- What is held after places are worked anew: as many numbers, and place by place its new currents or what it held.
use Rattle.std.specs.Prelude.{◌≡◌, Bool, cond, List, eqb, ℤ, pos}
use Rattle.std.proofs.Math.Path.{refl}
use Rattle.std.proofs.Common.{◌∙◌, mul-le-mul_left, eqb-true}
use Rattle.std.proofs.Math.Bool.{true, false}
use Prim.Native.Nat.{ℕ, zero, suc, ◌+◌, ◌*◌, ◌≤◌, ◌<◌}
use native.Mathlib.Omega.{arith}
use Rattle.std.proofs.Math.ListN.{length}
use Rattle.std.proofs.lemmas.Bool.{eqb-false}
use Rattle.flows.specs.OfTerms.Rows.{branches}
use Rattle.places.specs.OfDeck.Stretch.{stretch, written}
use Rattle.places.specs.OfDeck.laws.Stretches.{length_written, stretch_written, stretch_apart}
use Rattle.settle.specs.Renewed.{renewed}

module _ (worked : ℕ → Bool) (new : ℕ → List ℤ) (held : List ℤ) where
  pub renewed_long : (n i : ℕ) → length (renewed worked new held n i) ≡ length held
  unfolding renewed
  renewed_long zero i = refl
  renewed_long (suc n) i = go (worked i) (renewed_long n (suc i))
    where
      go : (t : Bool) → length (renewed worked new held n (suc i)) ≡ length held →
          length
          (cond t (written (pos 0) (renewed worked new held n (suc i)) (branches * i) (new i) branches)
          (renewed worked new held n (suc i))) ≡ length held
      go true e = length_written (pos 0) (renewed worked new held n (suc i)) (branches * i) (new i) branches ∙ e
      go false e = e

  -- the places before i keep what they hold
  before : (n i j : ℕ) → j < i →
      stretch (pos 0) (renewed worked new held n i) (branches * j) branches
      ≡ stretch (pos 0) held (branches * j) branches
  unfolding renewed
  before zero i j h = refl
  before (suc n) i j h = go (worked i) (before n (suc i) j (omega arith))
    where
      go : (t : Bool) →
          stretch (pos 0) (renewed worked new held n (suc i)) (branches * j) branches ≡
          stretch (pos 0) held (branches * j) branches →
          stretch (pos 0)
          (cond t (written (pos 0) (renewed worked new held n (suc i)) (branches * i) (new i) branches)
          (renewed worked new held n (suc i))) (branches * j) branches ≡ stretch (pos 0) held (branches * j) branches
      go true e =
          stretch_apart (pos 0) (renewed worked new held n (suc i)) (new i) branches i j (λ q. omega arith) ∙ e
      go false e = e

  pub renewed_at : (m : ℕ) → length held ≡ branches * m → ((i : ℕ) → length (new i) ≡ branches) → (n i j : ℕ) →
      i + n ≡ m → i ≤ j → j < m →
      stretch (pos 0) (renewed worked new held n i) (branches * j) branches ≡
      cond (worked j) (new j) (stretch (pos 0) held (branches * j) branches)
  unfolding renewed
  renewed_at m long sized zero i j e a b = absurd (omega arith)
  renewed_at m long sized (suc n) i j e a b =
      go (worked i) refl (eqb j i) refl (λ h. renewed_at m long sized n (suc i) j (omega arith) h b)
    where
      later : (q : j ≡ i → ⊥) → suc i ≤ j
      later q = omega arith

      go : (t : Bool) → worked i ≡ t → (u : Bool) → eqb j i ≡ u →
          (suc i ≤ j → stretch (pos 0) (renewed worked new held n (suc i)) (branches * j) branches ≡
          cond (worked j) (new j) (stretch (pos 0) held (branches * j) branches)) →
          stretch (pos 0)
          (cond t (written (pos 0) (renewed worked new held n (suc i)) (branches * i) (new i) branches)
          (renewed worked new held n (suc i))) (branches * j) branches ≡
          cond (worked j) (new j) (stretch (pos 0) held (branches * j) branches)
      go true w true q next =
          let same = eqb-true j i q in
          let more = mul-le-mul_left branches b in
          let size = renewed_long n (suc i) in
          rw (same, w)
          (stretch_written (pos 0) (renewed worked new held n (suc i)) (branches * i) (new i) branches (omega arith)
          (sized i))
      go true w false q next =
          let other = eqb-false j i q in
          stretch_apart (pos 0) (renewed worked new held n (suc i)) (new i) branches i j (λ p. omega arith)
          ∙ next (later other)
      go false w true q next = rw (eqb-true j i q, w) (before n (suc i) i (omega arith))
      go false w false q next = next (later (eqb-false j i q))

-- the same places worked, each with the same new currents, hold the same
pub renewed_same : (p q : ℕ → Bool) (a b : ℕ → List ℤ) (held : List ℤ) (n i : ℕ) →
    ((j : ℕ) → j < i + n → p j ≡ q j) → ((j : ℕ) → j < i + n → q j ≡ true → a j ≡ b j) →
    renewed p a held n i ≡ renewed q b held n i
unfolding renewed
renewed_same p q a b held zero i s t = refl
renewed_same p q a b held (suc n) i s t =
    go (q i) refl (renewed_same p q a b held n (suc i) (λ j h. s j (omega arith)) (λ j h. t j (omega arith)))
  where
    go : (x : Bool) → q i ≡ x → renewed p a held n (suc i) ≡ renewed q b held n (suc i) →
        cond (p i) (written (pos 0) (renewed p a held n (suc i)) (branches * i) (a i) branches)
        (renewed p a held n (suc i))
        ≡ cond (q i) (written (pos 0) (renewed q b held n (suc i)) (branches * i) (b i) branches)
        (renewed q b held n (suc i))
    go true e rest = rw (s i (omega arith), e, t i (omega arith) e, rest)
    go false e rest = rw (s i (omega arith), e, rest)

-- places that are not worked are passed over
pub renewed_past : (worked : ℕ → Bool) (new : ℕ → List ℤ) (held : List ℤ) (k n i : ℕ) →
    ((j : ℕ) → i ≤ j → j < i + k → worked j ≡ false) →
    renewed worked new held (k + n) i ≡ renewed worked new held n (i + k)
unfolding renewed
renewed_past worked new held zero n i h =
    let a : 0 + n ≡ n = omega arith in
    let b : i + 0 ≡ i = omega arith in rw (a, b)
renewed_past worked new held (suc k) n i h =
    let a : suc k + n ≡ suc (k + n) = omega arith in
    let b : i + suc k ≡ suc i + k = omega arith in
    rw (a, b, h i (omega arith) (omega arith))
    (renewed_past worked new held k n (suc i) (λ j p q. h j (omega arith) (omega arith)))
