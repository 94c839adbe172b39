-- A name up to its first zero: what the first i bytes say of it.
use mathlib.Core.Path.{◌≡◌, refl, sym, ap, ap₂, subst, ◌∙◌}
use mathlib.Core.Bool.{Bool, cond}
use mathlib.Core.List.{List, [], ◌∷◌, ◌++◌, append-nil}
use Prim.Native.Nat.{ℕ, zero, suc, ◌+◌, ◌<◌, ◌≤◌}
use native.Mathlib.Numerals.{add-one}
use native.Mathlib.Omega.{arith}
use borrow.Author.Tests.{eq-eqb, ne_eqb}
use lib.Dec.{eqb}
use lib.ListN.{length, take, drop, get_or}
use lib.Seq.{take_all, take-suc, append_snoc}
use Rattle.spelling.proofs.ByteLoops.{split, none_left}
use Rattle.std.specs.List.{AllWithin, HoldsAt}
use Rattle.listed.specs.Listed.{unpadded}

record Bare (s : List ℕ) (i : ℕ) : Type 0 where
  within : i ≤ length s
  so_far : unpadded s ≡ take i s ++ unpadded (drop i s)

module _ {s : List ℕ} {i : ℕ} (v : Bare s i) where
  bare_step : i < length s → {t : Bool} → eqb (get_or s i 0) 0 ≡ t
      → unpadded s ≡ take i s ++ cond t [] (get_or s i 0 ∷ unpadded (drop (i + 1) s))
  unfolding unpadded
  bare_step h e =
      v.so_far ∙ ap (λ (l : List ℕ). take i s ++ unpadded l) (split s i h)
      ∙ ap (λ (t : Bool). take i s ++ cond t [] (get_or s i 0 ∷ unpadded (drop (i + 1) s))) e

  bare_on : i < length s → (get_or s i 0 ≡ 0 → ⊥) → Bare s (i + 1)
  bare_on h n = record {
    within = omega arith;
    so_far =
        bare_step h (ne_eqb (get_or s i 0) 0 n) ∙ sym (append_snoc (take i s) (get_or s i 0) (unpadded (drop (i + 1) s)))
        ∙ ap (λ (l : List ℕ). l ++ unpadded (drop (i + 1) s))
        (sym (ap (λ (n : ℕ). take n s) (add-one i) ∙ take-suc s i 0 h));
  }

  bare_stop : i < length s → get_or s i 0 ≡ 0 → take i s ≡ unpadded s
  bare_stop h z = sym (bare_step h (eq-eqb (get_or s i 0) 0 z) ∙ append-nil (take i s))

  bare_end : length s ≤ i → s ≡ unpadded s
  unfolding unpadded
  bare_end h =
      sym (v.so_far ∙ ap₂ (λ (a b : List ℕ). a ++ unpadded b) (take_all i s h) (none_left s i h) ∙ append-nil s)

module _ (s : List ℕ) where
  bare_up : (i : ℕ) → i ≤ length s → ((j : ℕ) → j < i → get_or s j 0 ≡ 0 → ⊥) → Bare s i
  bare_up zero h f = record { within = omega arith; so_far = refl }
  bare_up (suc i) h f =
      subst (Bare s) (add-one i)
      (bare_on (bare_up i (omega arith) (λ j l. f j (omega arith))) (omega arith) (f i (omega arith)))

  -- the part before the first zero, and all where there is none
  pub bare_first : {i : ℕ} → (i < length s) × HoldsAt (λ b. b ≡ 0) s i × AllWithin (λ b. b ≡ 0 → ⊥) s 0 i
      → take i s ≡ unpadded s
  bare_first {i} f = bare_stop (bare_up i (omega arith) (λ j l. f.2 j 0 (omega arith) l)) f.0 (f.1 0)

  pub bare_whole : AllWithin (λ b. b ≡ 0 → ⊥) s 0 (length s) → s ≡ unpadded s
  bare_whole f = bare_end (bare_up (length s) (omega arith) (λ j l. f j 0 (omega arith) l)) (omega arith)
