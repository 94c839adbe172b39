-- The head and the keys as the code has them, and what reading comes to from either on.
use Rattle.std.specs.Prelude.{Result, Ok, Err, Bool, List, ℕ, ◌≤◌, length}
use Rattle.refusal.specs.Order.{Verdict, no, yes, and_then}
use Rattle.refusal.specs.declared.Refusal.{Refusal}
use Rattle.line.specs.declared.Head as found
use Rattle.line.specs.Line.{Head, Taken, Model, taken, words_from, closed}
use Rattle.line.specs.Answers.{room_for}
use Rattle.line.specs.Signs.{sign_of}

-- the head with a name and a sign, whose type ends at a place
abbrev pub head_at : List ℕ → List ℕ → ℕ → ℕ → Head
head_at line name at sign = record { name = name; sign = sign; rest = words_from line at }

-- what was found of the first words
abbrev pub head_told : List ℕ → Result found.Head Refusal → Verdict Head
head_told line (Ok h) = yes (head_at line h.name.now h.at (sign_of h.polarity))
head_told line (Err f) = no f

-- its place is in the line
abbrev pub Within : List ℕ → Result found.Head Refusal → Type 0
Within line (Ok h) = h.at ≤ length line
Within line (Err f) = Unit

-- what was taken: the lent arrays, where nothing was refused
abbrev pub keys_told : Result (Unit {0}) Refusal → List ℕ → List Bool → Verdict Taken
keys_told (Ok t) w g = yes (taken w g)
keys_told (Err f) w g = no f

-- reading from the end of the line on
abbrev pub after_keys : List ℕ → Head → Taken → List ℕ → List ℕ → Verdict Model
after_keys line h s name rec = and_then (closed line h s) (room_for name rec)

-- reading from the keys on
abbrev pub from_keys : List ℕ → Head → Verdict Taken → List ℕ → List ℕ → Verdict Model
from_keys line h v name rec = and_then v (λ (s : Taken). after_keys line h s name rec)
