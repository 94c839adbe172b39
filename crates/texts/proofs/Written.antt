-- Texts written on a page.
use mathlib.Core.Path.{◌≡◌}
use mathlib.Core.List.{List}
use Prim.Native.Nat.{ℕ}
use Rattle.sheet.specs.declared.Text.{Text}
use Rattle.sheet.specs.Text.{text_of, shown}
use Rattle.page.specs.declared.Page.{Page}
use Rattle.page.specs.Page.{Writes}

pub text_written : {N : ℕ} {l : List ℕ} {old new : Page N} {t : Text} → t ≡ text_of l → shown (text_of l) ≡ l
    → Writes (shown t) old new → Writes l old new
text_written e f w = rw (e, f) at w
