-- A number digits * 2^power as a fraction of whole numbers, and what it is to be less than one away from a product.
use Rattle.std.specs.Prelude.{ℕ, suc, ◌*◌, ◌^◌, ◌<◌, ℤ, pos, negsuc, nat_abs, ◌+ℤ◌, ◌-ℤ◌, ◌*ℤ◌}
use Rattle.std.proofs.Math.IntN.{sub_ℕ}
use Rattle.scaling.specs.Scaled.{Scaled, tick_places}

-- a power's size where it is not negative, and where it is
abbrev pub raised : ℤ → ℕ
raised (pos n) = n
raised (negsuc n) = 0

abbrev pub lowered : ℤ → ℕ
lowered (pos n) = 0
lowered (negsuc n) = suc n

-- the fraction's two numbers
abbrev pub top : Scaled → ℕ
top x = x.digits * 2 ^ raised x.power

abbrev pub bottom : Scaled → ℕ
bottom x = 2 ^ lowered x.power

-- a number of amperes in ticks
abbrev pub in_ticks : Scaled → Scaled
in_ticks x = record { digits = x.digits; power = x.power +ℤ pos tick_places }

-- t is less than one from x * (g - 1), all multiplied by both denominators
pub record WithinOne (t : ℤ) (x g : Scaled) : Type 0 where
  pub near : nat_abs (t *ℤ pos (bottom x * bottom g) -ℤ pos (top x) *ℤ sub_ℕ (top g) (bottom g)) < bottom x * bottom g
