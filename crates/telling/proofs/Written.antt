-- Lines of a node that is read, its numbers by other names.
use mathlib.Core.Path.{◌≡◌}
use Prim.Native.Nat.{ℕ}
use lib.IntN.{ℤ}
use Rattle.page.specs.declared.Page.{Page}
use Rattle.page.specs.Page.{Writes}
use Rattle.sheet.specs.Lines.{sheet_line}
use Rattle.answers.specs.declared.Answer.TheVariants.{Reading}
use Rattle.answers.specs.Answers.{answer_line}

module _ {N : ℕ} {v v' t t' : ℤ} {old new : Page N} (e : v ≡ v') (f : t ≡ t') where
  pub as_row : (n : ℕ) → Writes (sheet_line n v t) old new → Writes (sheet_line n v' t') old new
  as_row n w = rw (e, f) at w

  pub as_reading_lem : {n n' : ℕ} → n ≡ n' → Writes (answer_line (Reading n v t)) old new
      → Writes (answer_line (Reading n' v' t')) old new
  as_reading_lem d w = rw (d, e, f) at w
