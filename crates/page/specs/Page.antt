-- A page: bytes that are filled from their start, and how many of them are used.
use Rattle.std.specs.Prelude.{◌≡◌, Bool, true, false, List, [], ◌∷◌, ℕ, ◌+◌, ltb, length, set}
use Rattle.page.specs.declared.Page.{Page}

abbrev pub page : {N : ℕ} → List ℕ → ℕ → Page N
page l n = record { bytes = l; used = n }

-- a byte more, where there is room for it (`page_whole` in specs/laws/PageFits: each line has room)
abbrev pub byte_if : {N : ℕ} → Bool → Page N → ℕ → Page N
byte_if true p b = page (set p.bytes p.used b) (p.used + 1)
byte_if false p b = p

unfoldable pub with_byte : {N : ℕ} → Page N → ℕ → Page N
with_byte p b = byte_if (ltb p.used (length p.bytes)) p b

unfoldable pub with_bytes : {N : ℕ} → Page N → List ℕ → Page N
with_bytes p [] = p
with_bytes p (b ∷ l) = with_bytes (with_byte p b) l

-- l is written on the page old, after the bytes that are used there; it is then new
pub record Writes {N : ℕ} (l : List ℕ) (old new : Page N) : Type 0 where
  pub written : new ≡ with_bytes old l

-- l is written in a lent buffer after the first `at` bytes of old, which is then new, with `end` bytes used
pub record WritesAfter (l old : List ℕ) (at : ℕ) (new : List ℕ) (end : ℕ) : Type 0 where
  pub on_page : (n : ℕ) → Writes {N = n} l (page old at) (page new end)
