-- What a branch over a sum adds and takes away, as the code has it, and what that says of the branch.
use Rattle.std.specs.Prelude.{◌≡◌, Bool, false, cond, ◌||◌, ℕ, suc, ◌-◌, ◌^◌, ◌<◌, eqb, ltb}
use Rattle.std.proofs.Math.IntN.{sub_ℕ}
use Rattle.whole.specs.Scale.{held_at}
use Rattle.scaling.specs.OfQuotients.Quotient.{shifted_quotient}
use Rattle.scaling.specs.Scaled.{part_places, tick_limit}
use Rattle.reverse.specs.declared.Pair.{Pair}
use Rattle.reverse.specs.Sum.{sum_limit, over_sum, sum_over}

-- more than a branch may have
abbrev pub over_pair : Pair
over_pair = record { plus = suc tick_limit; minus = 0 }

abbrev pub size_over : ℕ → ℕ → ℕ
size_over n sum = held_at (suc tick_limit) (shifted_quotient n part_places sum)

-- the larger less the smaller over the sum, on the side of the larger
abbrev pub difference_over : ℕ → ℕ → ℕ → Pair
difference_over plus minus sum =
    cond (ltb plus minus) (record { plus = 0; minus = size_over (minus - plus) sum })
    (record { plus = size_over (plus - minus) sum; minus = 0 })

-- the code's way
unfoldable pub pair_of : ℕ → ℕ → ℕ → Pair
pair_of plus minus sum =
    cond (ltb tick_limit plus) over_pair
    (cond (ltb tick_limit minus) over_pair
    (cond (eqb sum 0) over_pair
    (cond (ltb sum_limit sum) over_pair (difference_over plus minus sum))))

-- one of two T's is above the limit
abbrev pub either_over : ℕ → ℕ → Bool
either_over p m = ltb tick_limit p || (ltb tick_limit m || false)

-- the pair overloads where T's p and m over y do, and else its difference is the branch's ticks
pub record Stands (p m y : ℕ) (r : Pair) : Type 0 where
  pub over : either_over r.plus r.minus ≡ either_over p m || sum_over (sub_ℕ p m) y
  pub ticks : either_over p m || sum_over (sub_ℕ p m) y ≡ false → sub_ℕ r.plus r.minus ≡ over_sum (sub_ℕ p m) y
  pub plus_small : r.plus < 2 ^ 62
  pub minus_small : r.minus < 2 ^ 62
