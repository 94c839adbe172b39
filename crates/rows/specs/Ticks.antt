-- The ticks of a row: the difference of its two T's, over its divisor where it has one.
use Rattle.std.specs.Prelude.{ℕ, suc, ◌+◌, ◌*◌, ◌^◌, ℤ}
use Rattle.std.proofs.Math.IntN.{sub_ℕ}
use Rattle.roots.specs.Root.{root_of}
use Rattle.quotients.specs.Quotient.{quotient_of}
use Rattle.terms.specs.OfCard.WorkedCard.{WorkedCard}
use Rattle.terms.specs.Rows.{Role, Summand, unit, root, Divisor, undivided, sum_of, exps, Row}
use Rattle.terms.specs.OfScaling.Scaled.{part_places}
use Rattle.terms.specs.Values.{tick_of, ratio_of, exps_ticks}

-- 1 in the parts of 2^-20 that ratios count
abbrev pub one_unit : ℕ
one_unit = 2 ^ part_places

-- the greatest R with R^2 <= (2^20 + floor) * 2^20
unfoldable pub root_for : ℕ → ℕ
root_for ratio = root_of ((one_unit + ratio) * one_unit)

-- 2^20, or the root for a ratio
abbrev pub summand_of : WorkedCard → (Role → Role → ℤ) → Summand → ℕ
summand_of c v unit = one_unit
summand_of c v (root x p q) = root_for (ratio_of c v (root x p q))

-- Q's shift: a divisor of two units changes nothing
abbrev pub quotient_shift : ℕ
quotient_shift = suc part_places

-- Q(N, D) = N * 2^21 / D, where there is something to divide by; or N * 2^20 / Y over a sum of exponentials
abbrev pub divided_by : WorkedCard → (Role → Role → ℤ) → Divisor → ℤ → ℤ
divided_by c v undivided n = n
divided_by c v (sum_of s t) n = quotient_of n quotient_shift (summand_of c v s + summand_of c v t)
divided_by c v (exps x p q) n = exps_ticks c v x p q n

-- the ticks of a row
abbrev pub row_ticks : WorkedCard → (Role → Role → ℤ) → Row → ℤ
row_ticks c v r = divided_by c v r.divisor (sub_ℕ (tick_of c v r.plus) (tick_of c v r.minus))
