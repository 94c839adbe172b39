-- What one transistor gives is small, and so is nothing.
use mathlib.Core.Path.{◌≡◌, ap, ◌∙◌}
use mathlib.Core.List.{List}
use Prim.Native.Nat.{ℕ, ◌≤◌, ◌<◌, zero-le}
use native.Mathlib.Omega.{arith}
use lib.ListN.{get_or, replicate}
use lib.IntN.{ℤ, pos, nat_abs, ◌+ℤ◌, +ℤ_idl}
use Rattle.scaling.specs.Scaled.{tick_limit}
use Rattle.places.specs.OfTotals.Gives.{nodes_most}
use Rattle.places.specs.OfTotals.Flow.{ticks_give}
use Rattle.places.specs.OfTotals.inner.Sums.{More, Within}
use Rattle.places.specs.OfDeck.laws.Stretches.{get_or_none}
use Rattle.small.specs.inner.Small.{small_most, EachSmall}
use Rattle.flows.proofs.Currents.{ticks_small_give}

pub none_small : EachSmall (replicate nodes_most (pos 0))
none_small = record { each = λ k h. record { size = rw (get_or_none (pos 0) nodes_most k) zero-le } }

pub one_small : {l : List ℤ} (on : List ℕ) {ticks : List ℤ} →
    More nodes_most (replicate nodes_most (pos 0)) l (ticks_give on ticks) → Within tick_limit ticks → EachSmall l
one_small {l} on {ticks} m w = record { each = λ k h. record { size = go k h } }
  where
    is : (k : ℕ) → k < nodes_most → get_or l k (pos 0) ≡ ticks_give on ticks k
    is k h =
        m.at k h ∙ ap (λ (z : ℤ). z +ℤ ticks_give on ticks k) (get_or_none (pos 0) nodes_most k)
        ∙ +ℤ_idl (ticks_give on ticks k)

    go : (k : ℕ) → k < nodes_most → nat_abs (get_or l k (pos 0)) ≤ small_most
    go k h = let a = ticks_small_give on ticks w k in rw (is k h) (omega arith)
