-- The shelf: the library held on it, how it is replaced, and what is said of it and of its cards.
use Rattle.std.specs.Prelude.{Bool, cond, List, ℕ, take, replicate}
use Rattle.refusal.specs.Order.{Verdict, no, yes}
use Rattle.bytes_le.specs.Buffer.{over}
use Rattle.words.specs.Words.{part_of}
use Rattle.directory.specs.Format.{whole_length}
use Rattle.finding.specs.Answers.{locating, handed}
use Rattle.library.specs.Answers.{read}
use Rattle.mending.specs.Mended.{mended_of}
use Rattle.mending.specs.Answers.{mending}
use Rattle.clip.specs.Limits.{wide, narrow}
use Rattle.clip.specs.Record.{is_wide, width_of}
use Rattle.clip.specs.Clip.{clipped_up, mask_up, clip_of}
use Rattle.clipped.specs.Clipped.{clip_line}
use Rattle.line_write.specs.Answers.{writing_of}
use Rattle.quoting.specs.Quotes.{model_line}
use Rattle.answers.specs.declared.Answer.TheVariants.{Library, Offset, Mended, Refused}
use Rattle.answers.specs.Answers.{answer_line}

-- one byte more than the longest library
abbrev pub shelf_bytes : ℕ
shelf_bytes = 53265

-- the library held begins the shelf, and its header says how long it is; none where that is longer than the shelf
unfoldable pub held_of : List ℕ → List ℕ
held_of shelf = part_of shelf 0 (whole_length shelf)

-- bytes put at the start of the shelf, as many as have room; what stands after them stays
unfoldable pub kept_over : List ℕ → List ℕ → List ℕ
kept_over bytes shelf = over (take shelf_bytes bytes) shelf

-- only what was taken is kept
abbrev pub kept_if : {A : Type 0} → Verdict A → List ℕ → List ℕ → List ℕ
kept_if (no f) bytes shelf = shelf
kept_if (yes a) bytes shelf = kept_over bytes shelf

-- ---- a library brought

-- the bytes and the words that the names and the records of the most cards take
abbrev pub names_room : ℕ
names_room = 4096

abbrev pub words_room : ℕ
words_room = 6144

-- the first n of the bytes that were read; none where there are not so many
abbrev pub brought : ℕ → List ℕ → List ℕ
brought n bytes = part_of bytes 0 n

-- its count of cards and its version, or the first refusal that reading it draws
abbrev pub judged : List ℕ → Verdict (ℕ × ℕ)
judged bytes = read bytes names_room words_room

-- how many cards it has, or why it is none
abbrev pub library_line : Verdict (ℕ × ℕ) → List ℕ
library_line (no f) = answer_line (Refused f)
library_line (yes p) = answer_line (Library p.0)

-- what is none leaves the shelf as it was
abbrev pub shelf_with : List ℕ → List ℕ → List ℕ
shelf_with bytes shelf = kept_if (judged bytes) bytes shelf

-- ---- the library held mended

-- into a room as large as the shelf
abbrev pub mending_held : List ℕ → Verdict ℕ
mending_held shelf = mending (held_of shelf) shelf_bytes

-- how many cards were set, or why none could be
abbrev pub mended_line : Verdict ℕ → List ℕ
mended_line (no f) = answer_line (Refused f)
mended_line (yes n) = answer_line (Mended n)

-- the mended library takes the place of the one that was held
abbrev pub mended_shelf : List ℕ → List ℕ
mended_shelf shelf = kept_if (mending_held shelf) (mended_of (held_of shelf)) shelf

-- ---- a card of a library

-- where its record begins, or why it is not found
abbrev pub place_line : Verdict (ℕ × ℕ) → List ℕ
place_line (no f) = answer_line (Refused f)
place_line (yes p) = answer_line (Offset p.0)

-- what is said of its record, or why it is not found
abbrev pub record_line : Verdict (ℕ × ℕ) → (List ℕ → List ℕ) → List ℕ → List ℕ
record_line (no f) line library = answer_line (Refused f)
record_line (yes p) line library = line (handed (yes p) library)

-- how many words a record has, by whether it is of version 2
abbrev pub words_if : Bool → ℕ
words_if wider = cond wider wide narrow

-- a record clipped: the mask and the numbers of as many words as it has, or why it is not taken
abbrev pub clipping_line : Verdict (Unit {0}) → List ℕ → List ℕ
clipping_line (no f) rec = answer_line (Refused f)
clipping_line (yes t) rec = clip_line (mask_up rec (width_of rec)) (is_wide rec) (clipped_up rec (width_of rec))

-- room for the longest model line
abbrev pub model_room : ℕ
model_room = 640

-- a model line that was written, or why it was not
abbrev pub written_line : Verdict (List ℕ) → List ℕ
written_line (no f) = answer_line (Refused f)
written_line (yes text) = model_line text

-- ---- what is said of a record, and of a card by its name

-- a search for the card
unfoldable pub card_place : List ℕ → List ℕ → List ℕ
card_place name library = place_line (locating library name)

-- a record clipped
unfoldable pub clip_said : List ℕ → List ℕ
clip_said rec = clipping_line (clip_of rec) rec

-- the card's record clipped
unfoldable pub card_clipped : List ℕ → List ℕ → List ℕ
card_clipped name library = record_line (locating library name) clip_said library

-- a record as a model line of this name
unfoldable pub model_said : List ℕ → List ℕ → List ℕ
model_said name rec = written_line (writing_of name rec (replicate model_room 0))

-- the card as a model line
unfoldable pub card_model : List ℕ → List ℕ → List ℕ
card_model name library = record_line (locating library name) (model_said name) library
