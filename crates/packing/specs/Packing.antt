-- A word of one to eight bytes as a number, its first byte the lowest; 0 where it is no such word. No two words have
-- one number (`packed_same` in proofs/Packs).
use Rattle.std.specs.Prelude.{cond, ◌&&◌, List, ℕ, leb, length}
use Rattle.bytes_le.specs.Le.{le, word_bytes}
use Rattle.name.specs.Name.{asked}

unfoldable pub packed_of : List ℕ → ℕ
packed_of w = cond (leb (length w) word_bytes && asked w) (le w) 0
