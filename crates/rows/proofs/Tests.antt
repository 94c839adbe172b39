-- Tests against a limit, and what follows where one fails.
use mathlib.Core.Path.{◌≡◌, refl}
use mathlib.Core.Bool.{Bool, true, false, ◌||◌}
use mathlib.Core.List.{[], ◌∷◌}
use Prim.Native.Nat.{ℕ, ◌≤◌, ◌<◌}
use native.Mathlib.Omega.{arith}
use lib.Dec.{ltb}
use borrow.Author.Tests.{ltb-false, le-ltb, lt-ltb}
use Rattle.std.specs.Prelude.{Option, None}
use Rattle.rows.specs.declared.Over.{Over}
use Rattle.rows.specs.Outcome.{some_above, over_at}

-- what two different truths prove
pub never : {X : Type 0} → true ≡ false → X
never e = let z : ◌≡◌ {A = ℕ} 0 1 = cc in absurd (omega arith)

-- nothing that overloads is within
pub record Passes (a b : Bool) (n : Option Over) : Type 0 where
  pub ticks : a ≡ false
  pub ratio : b ≡ false
  pub later : n ≡ None

pub passes : (a b : Bool) (k : ℕ) (n : Option Over) → over_at a b k n ≡ None → Passes a b n
passes true b k n e = let z : ◌≡◌ {A = ℕ} 0 1 = cc in absurd (omega arith)
passes false true k n e = let z : ◌≡◌ {A = ℕ} 0 1 = cc in absurd (omega arith)
passes false false k n e = record { ticks = refl; ratio = refl; later = e }

-- two tests that are both false
pub neither : (a b : Bool) → a || b ≡ false → (a ≡ false) × (b ≡ false)
neither true b e = never e
neither false b e = (refl, e)

-- neither of two is above the limit
pub record BothWithin (limit x y : ℕ) : Type 0 where
  pub first : x ≤ limit
  pub second : y ≤ limit

pub both_within : (limit x y : ℕ) → some_above limit (x ∷ y ∷ []) ≡ false → BothWithin limit x y
both_within limit x y e = go (ltb limit x) (ltb limit y) refl refl e
  where
    go : (s t : Bool) → ltb limit x ≡ s → ltb limit y ≡ t → s || (t || false) ≡ false → BothWithin limit x y
    go true t p q f = never f
    go false true p q f = never f
    go false false p q f = record { first = ltb-false limit x p; second = ltb-false limit y q }

pub none_above : (limit x y : ℕ) → x ≤ limit → y ≤ limit → some_above limit (x ∷ y ∷ []) ≡ false
none_above limit x y h k = rw (le-ltb limit x h, le-ltb limit y k)

pub first_above : (limit x y : ℕ) → limit < x → some_above limit (x ∷ y ∷ []) ≡ true
first_above limit x y h = rw (lt-ltb limit x h)

pub second_above : (limit x y : ℕ) → x ≤ limit → limit < y → some_above limit (x ∷ y ∷ []) ≡ true
second_above limit x y h k = rw (le-ltb limit x h, lt-ltb limit y k)
