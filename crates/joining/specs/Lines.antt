-- The lines of a file of models: comments and blank lines, model lines, and those that go on with the one before.
use Rattle.std.specs.Prelude.{Bool, true, false, cond, List, [], ◌∷◌, ◌++◌, ℕ, suc, ◌-◌, eqb, ltb, length, take, get_or}
use Rattle.spelling.specs.Bytes.{space}
use Rattle.trimming.specs.Trimmed.{trimmed}
use Rattle.joining.specs.declared.Line.{Line}
use Rattle.joining.specs.declared.Kind.{Kind}
use Rattle.joining.specs.declared.Kind.TheVariants.{Passed, Model, More}

-- the most bytes of a model line, the spaces at its ends counted
abbrev pub longest_line : ℕ
longest_line = 4096

-- how much is kept of a line: a byte more than the longest, and a carriage return
abbrev pub line_room : ℕ
line_room = 4098

-- the bytes that have a meaning
abbrev pub star_byte : ℕ
star_byte = 42

abbrev pub plus_byte : ℕ
plus_byte = 43

abbrev pub return_byte : ℕ
return_byte = 13

-- ---- a line byte by byte

-- the bytes that are kept of it
abbrev pub kept_of : Line → List ℕ
kept_of l = take l.used l.bytes

-- of two bytes the later one, if it is no space
abbrev pub marked : ℕ → ℕ → ℕ
marked a b = cond (eqb b space) a b

-- a byte more. Of a line that is longer than the room its first bytes are kept, its last one, and before that a byte
-- that is no space, where there was one: so its kind stays, and it stays too long
abbrev pub kept_if : Bool → List ℕ → ℕ → List ℕ
kept_if true l b = l ++ (b ∷ [])
kept_if false l b = take longest_line l ++ (marked (get_or l longest_line 0) (get_or l (suc longest_line) 0) ∷ b ∷ [])

unfoldable pub with_byte : List ℕ → ℕ → List ℕ
with_byte l b = kept_if (ltb (length l) line_room) l b

-- a text more, as far as there is room
unfoldable pub with_text : List ℕ → List ℕ → List ℕ
with_text l text = take line_room (l ++ text)

-- without the carriage return at its end
unfoldable pub bare_of : List ℕ → List ℕ
bare_of line = cond (eqb (get_or line (length line - 1) 0) return_byte) (take (length line - 1) line) line

-- ---- what a line is

-- by its first byte: a comment, a line that goes on with the one before, or a model line
abbrev pub first_if : Bool → Bool → Kind
first_if true p = Passed
first_if false true = More
first_if false false = Model

-- a blank line is passed over too
abbrev pub kind_if : Bool → ℕ → Kind
kind_if true b = Passed
kind_if false b = first_if (eqb b star_byte) (eqb b plus_byte)

unfoldable pub kind_of : List ℕ → Kind
kind_of line = kind_if (eqb (length (trimmed line)) 0) (get_or line 0 0)
