-- A place found, or none: what follows of where it was looked for.
use Rattle.std.specs.Prelude.{◌≡◌, refl, Option, Some, None, Bool, true, false, cond, ℕ, ◌≤◌, ◌<◌, ltb}
use Rattle.std.proofs.Common.{sym, ap, subst, ◌∙◌, arith, ltb-true, ltb-false}
use Rattle.refusal.specs.Clash.{clash}
use Rattle.given.specs.Arguments.{Found, none, some}
use Rattle.places.specs.Finding.{found_at}
use Rattle.places.specs.inner.Parts.{place_or, found}

-- a place found lies below the number of places
abbrev Below : ℕ → Found ℕ → Type 0
Below most none = Unit {0}
Below most (some i) = i < most

below : (most i : ℕ) (t : Bool) → Below most (cond t none (found_at most i))
below most i true = tt
below most i false = go (ltb i most) refl
  where
    go : (u : Bool) → ltb i most ≡ u → Below most (cond u (some i) none)
    go true e = ltb-true i most e
    go false e = tt

-- as a number a place found tells whether there was one
pub not_there : (most i : ℕ) (t : Bool) → most ≤ place_or most (cond t none (found_at most i)) →
    cond t none (found_at most i) ≡ none
not_there most i t h = go (cond t none (found_at most i)) (below most i t) h
  where
    go : (f : Found ℕ) → Below most f → most ≤ place_or most f → f ≡ none
    go none b k = refl
    go (some j) b k = absurd (omega arith)

pub is_there : (most : ℕ) (f : Found ℕ) → place_or most f < most → f ≡ some (place_or most f)
is_there most none h = absurd (omega arith)
is_there most (some i) h = refl

-- an issue number's place, or none
pub not_found : {r : Option ℕ} {f : Found ℕ} → found r ≡ f → r ≡ None → f ≡ none
not_found e p = sym e ∙ ap found p

pub is_found : {r : Option ℕ} {f : Found ℕ} {i : ℕ} → found r ≡ f → r ≡ Some i → f ≡ some i
is_found e p = sym e ∙ ap found p

pub there_below : {r : Option ℕ} (most k : ℕ) (t : Bool) {i : ℕ} → found r ≡ cond t none (found_at most k) → r ≡ Some i →
    i < most
there_below most k t e p = subst (Below most) (is_found e p) (below most k t)

-- the first place of a number, or none
pub none_first : {r : Option ℕ} (most k : ℕ) → found r ≡ found_at most k → r ≡ None → most ≤ k
none_first most k e p = go (ltb k most) refl (not_found e p)
  where
    go : (u : Bool) → ltb k most ≡ u → cond u (some k) none ≡ none → most ≤ k
    go true q h = clash cc
    go false q h = ltb-false k most q

pub first_found : {r : Option ℕ} (most k : ℕ) {i : ℕ} → found r ≡ found_at most k → r ≡ Some i → (i ≡ k) × (i < most)
first_found most k {i} e p = go (ltb k most) refl (is_found e p)
  where
    go : (u : Bool) → ltb k most ≡ u → cond u (some k) none ≡ some i → (i ≡ k) × (i < most)
    go true q h = let s : k ≡ i = cc in (sym s, subst (λ (j : ℕ). j < most) s (ltb-true k most q))
    go false q h = clash cc
