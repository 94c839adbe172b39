-- What the machine holds of a signed number, and the size of one turned over.
use Rattle.std.specs.Prelude.{◌≡◌, refl, zero, suc, ◌^◌, ◌<◌, ℤ, pos, negsuc, nat_abs, neg_ℤ}
use Rattle.std.proofs.Common.{le_of_lt, SFits, to_z, of_z}
use Rattle.std.specs.Int.{w64}
use Rattle.std.proofs.lemmas.Int.{to_z-of_z}

pub abs_neg : (z : ℤ) → nat_abs (neg_ℤ z) ≡ nat_abs z
abs_neg (pos zero) = refl
abs_neg (pos (suc n)) = refl
abs_neg (negsuc n) = refl

abbrev pub held : ℤ → ℤ
held z = to_z w64 (of_z w64 z)

pub fits : (z : ℤ) → nat_abs z < 2 ^ 63 → SFits w64 z
fits (pos n) h = record { sfits = h }
fits (negsuc n) h = record { sfits = le_of_lt h }

pub held_is : (z : ℤ) → nat_abs z < 2 ^ 63 → held z ≡ z
held_is z h = to_z-of_z w64 z (fits z h)
