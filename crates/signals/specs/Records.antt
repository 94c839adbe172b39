-- Records mended: each finite I_CSs below zero is +0, and everything else stays.
use Rattle.std.specs.Prelude.{Bool, cond, ◌&&◌, List, [], ◌∷◌, ◌++◌, ℕ, ◌+◌, ◌*◌, take, drop, replicate}
use Rattle.std.specs.Float.Ieee.{lt}
use Rattle.std.specs.Float.Ieee.Scale.{finite}
use Rattle.bytes_le.specs.Le.{word_bytes}
use Rattle.clip.specs.Numbers as number
use Rattle.clip.specs.Limits.{zero}
use Rattle.clip.specs.Record.{number_at}

-- ---- a record

-- its I_CSs is a finite number below zero, the signal that is dropped: -0 is none, nor an infinity, nor no number
abbrev pub signals : List ℕ → Bool
signals r = finite (number_at r number.icss) && lt (number_at r number.icss) zero

-- where the bytes of I_CSs start, and where they end
abbrev pub icss_at : ℕ
icss_at = word_bytes * number.icss

abbrev pub icss_end : ℕ
icss_end = icss_at + word_bytes

-- the record with the bytes of +0 there
abbrev pub cleared : List ℕ → List ℕ
cleared r = take icss_at r ++ replicate word_bytes 0 ++ drop icss_end r

abbrev pub mended_record : List ℕ → List ℕ
mended_record r = cond (signals r) (cleared r) r

-- ---- records, one after the other

abbrev pub mended_all : List (List ℕ) → List ℕ
mended_all [] = []
mended_all (r ∷ rs) = mended_record r ++ mended_all rs

-- how many of them are changed
abbrev pub signalling : List (List ℕ) → ℕ
signalling [] = 0
signalling (r ∷ rs) = cond (signals r) 1 0 + signalling rs
