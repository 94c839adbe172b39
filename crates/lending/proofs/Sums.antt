-- Totals as they would stand where all that comes in, or goes out, is of one transistor: sums that begin at zero.
use mathlib.Core.Path.{◌≡◌, ◌∙◌}
use mathlib.Core.List.{List}
use Prim.Native.Nat.{ℕ, ◌<◌, zero-le}
use lib.ListN.{get_or, replicate, length-replicate}
use lib.IntN.{ℤ, pos, neg_ℤ, ◌-ℤ◌, +ℤ_idl, +ℤ_idr}
use Rattle.model.specs.OfTotals.Gives.{nodes_most}
use Rattle.model.specs.OfTotals.Flow.{ticks_give, with_more}
use Rattle.model.specs.OfTotals.inner.Sums.{More, Room}
use Rattle.model.specs.OfTotals.inner.Sizes.{room_most}
use Rattle.deck.specs.laws.Stretches.{get_or_none}
use Rattle.model.specs.OfSlices.Slices.{changed}
use Rattle.model.specs.OfFlows.Back.{ticks_back}
use Rattle.model.proofs.Gains.{same_more}

-- nothing at any node
abbrev pub none : List ℤ
none = replicate nodes_most (pos 0)

pub none_room : Room nodes_most room_most none
none_room =
    record {
      long = length-replicate nodes_most (pos 0);
      within = λ n. rw (get_or_none (pos 0) nodes_most n) zero-le;
    }

module _ (totals : List ℤ) where
  pub only_comes : {coming : List ℤ} (f g : ℕ → ℤ) → More nodes_most none coming f →
      ((n : ℕ) → n < nodes_most → f n ≡ g n) → changed totals coming none ≡ with_more totals g
  only_comes {coming} f g more same =
      same_more totals (λ (n : ℕ). get_or coming n (pos 0) -ℤ get_or none n (pos 0)) g
      (λ n h. rw (more.at n h, get_or_none (pos 0) nodes_most n) (+ℤ_idr _ ∙ +ℤ_idl (f n) ∙ same n h))

  pub only_goes : {going : List ℤ} (on : List ℕ) (own : List ℤ) → More nodes_most none going (ticks_give on own) →
      changed totals none going ≡ with_more totals (ticks_back on own)
  unfolding ticks_back
  only_goes {going} on own more =
      same_more totals (λ (n : ℕ). get_or none n (pos 0) -ℤ get_or going n (pos 0)) (ticks_back on own)
      (λ n h. rw (more.at n h, get_or_none (pos 0) nodes_most n, +ℤ_idl (ticks_give on own n))
      (+ℤ_idl (neg_ℤ (ticks_give on own n))))
