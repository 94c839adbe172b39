-- Lines written on a page, their parts by another name.
use mathlib.Core.Path.{◌≡◌}
use mathlib.Core.List.{List, ◌∷◌}
use Prim.Native.Nat.{ℕ}
use lib.IntN.{ℤ}
use Rattle.sheet.specs.Lines.{told_line, node_line}
use Rattle.page.specs.declared.Page.{Page}
use Rattle.page.specs.Page.{Writes}

pub as_told : {N x y : ℕ} {l m : List ℕ} {old new : Page N} → x ≡ y → l ≡ m → Writes (told_line (x ∷ l)) old new
    → Writes (told_line (y ∷ m)) old new
as_told e f w = rw (e, f) at w

pub as_node : {N : ℕ} {v v' t t' : ℤ} {old new : Page N} (n : ℕ) → v ≡ v' → t ≡ t'
    → Writes (node_line n v t) old new → Writes (node_line n v' t') old new
as_node n e f w = rw (e, f) at w
