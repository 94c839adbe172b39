-- A size below 2^63 with either sign, as a signed word holds it.
use mathlib.Core.Path.{◌≡◌, refl, sym, ap, ◌∙◌, subst}
use Prim.Native.Nat.{ℕ, zero, suc, ◌^◌, ◌<◌}
use lib.IntN.{ℤ, pos, neg_ℤ, ◌-ℤ◌}
use mir.Syntax.{w64}
use mir.Val.{SFits, to_z, of_z}
use mir.ValLaws.{to_z-of_z, to_z_pos}
use Rattle.whole.specs.laws.Machine.{fits}
use Rattle.whole.specs.laws.Biased.{sub_from_zero}

turned : (n : ℕ) → pos 0 -ℤ pos n ≡ neg_ℤ (pos n)
turned zero = refl
turned (suc n) = sub_from_zero (suc n)

neg_fits : (n : ℕ) → n < 2 ^ 63 → SFits w64 (neg_ℤ (pos n))
neg_fits zero h = fits (pos 0) h
neg_fits (suc n) h = fits (neg_ℤ (pos (suc n))) h

module _ (n : ℕ) (h : n < 2 ^ 63) where
  pub plus_fits : SFits w64 (pos n)
  plus_fits = fits (pos n) h

  pub plus_is : to_z w64 n ≡ pos n
  plus_is = to_z_pos w64 n h

  less : pos 0 -ℤ to_z w64 n ≡ neg_ℤ (pos n)
  less = ap (λ (z : ℤ). pos 0 -ℤ z) plus_is ∙ turned n

  pub minus_fits : SFits w64 (pos 0 -ℤ to_z w64 n)
  minus_fits = subst (SFits w64) (sym less) (neg_fits n h)

  pub minus_is : to_z w64 (of_z w64 (pos 0 -ℤ to_z w64 n)) ≡ neg_ℤ (pos n)
  minus_is = to_z-of_z w64 _ minus_fits ∙ less
