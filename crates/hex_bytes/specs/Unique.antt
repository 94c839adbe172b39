-- One input has one result: any two that a contract permits are equal.
use Rattle.std.specs.Prelude.{◌≡◌, List, Option, ℕ}
use Rattle.refusal.specs.Unique.{unique_by_equation}
use Rattle.hex_bytes.specs.Hex.{ReadsHex}

-- the answer, and every byte of the buffer
pub unique_hex_bytes : {w old : List ℕ} {r r' : Option ℕ} {new new' : List ℕ} → ReadsHex w old r new
    → ReadsHex w old r' new' → (r ≡ r') × (new ≡ new')
unique_hex_bytes a b = (unique_by_equation a.answer b.answer, unique_by_equation a.bytes b.bytes)
