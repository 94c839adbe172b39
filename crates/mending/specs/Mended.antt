-- A library mended: its records are, and everything else stays.
use Rattle.std.specs.Prelude.{List, ◌++◌, ℕ, ◌*◌, take}
use Rattle.bytes_le.specs.Le.{word_bytes}
use Rattle.roll.specs.Directory.{cut}
use Rattle.directory.specs.Format.{words_of, records_at, version, count, records}
use Rattle.signals.specs.Records.{mended_all, signalling}

-- its records, each of as many words as its version says
abbrev pub records_in : List ℕ → List (List ℕ)
records_in s = cut (word_bytes * words_of (version s)) (records s)

-- the header and the names as they are, then the records mended
unfoldable pub mended_of : List ℕ → List ℕ
mended_of s = take (records_at (count s)) s ++ mended_all (records_in s)

unfoldable pub count_of : List ℕ → ℕ
count_of s = signalling (records_in s)
