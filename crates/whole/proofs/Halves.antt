-- What a signed word reads back as.
use mathlib.Core.Path.{◌≡◌}
use lib.IntN.{ℤ}
use mir.Syntax.{w64}
use mir.Val.{SFits, to_z, of_z}
use mir.ValLaws.{to_z-of_z}

pub back : (v : ℤ) → SFits w64 v → to_z w64 (of_z w64 v) ≡ v
back v h = to_z-of_z w64 v h
