-- A text: the bytes that are printed, in a struct with room for 104.
use Rattle.std.specs.Prelude.{◌≡◌, Bool, true, false, List, [], ◌∷◌, ◌++◌, ℕ, ◌+◌, ◌-◌, ltb, length, take, set, replicate}
use Rattle.sheet.specs.declared.Text.{Text}

abbrev pub room : ℕ
room = 104

-- the text of a list of bytes: those that there is room for, and zeros after them (`text_whole` in
-- specs/laws/LinesFit: each line has room)
unfoldable pub text_of : List ℕ → Text
text_of l = record { bytes = take room l ++ replicate (room - length l) 0; len = length (take room l) }

-- the bytes of a text
abbrev pub shown : Text → List ℕ
shown t = take t.len t.bytes

abbrev pub empty_text : Text
empty_text = record { bytes = replicate room 0; len = 0 }

-- a text with a byte more, where there is room for it
abbrev pub push_if : Bool → Text → ℕ → Text
push_if true t b = record { bytes = set t.bytes t.len b; len = t.len + 1 }
push_if false t b = t

unfoldable pub pushed : Text → ℕ → Text
pushed t b = push_if (ltb t.len room) t b

-- with more bytes, in their order
unfoldable pub appended : Text → List ℕ → Text
appended t [] = t
appended t (b ∷ l) = appended (pushed t b) l

-- r is t with the bytes of l added
pub record Adds (t : Text) (l : List ℕ) (r : Text) : Type 0 where
  pub sum : r ≡ appended t l
