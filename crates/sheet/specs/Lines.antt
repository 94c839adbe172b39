-- The lines that are printed, each with the newline that ends it.
use Rattle.std.specs.Prelude.{List, [], ◌∷◌, ◌++◌, ℕ, ℤ}
use Rattle.refusal.specs.Order.{number_told}
use Rattle.clip.specs.Record.{is_wide}
use Rattle.clip.specs.Clip.{mask_of}
use Rattle.card.specs.Judge.{judge_of}
use Rattle.spelling.specs.Bytes.{space, newline, bytes}
use Rattle.listed.specs.Listed.{listed_mask}
use Rattle.sheet.specs.Digits.{mask_digits, hex_digits, decimal_of, signed_digits, ampere_digits}

-- numbers with a space before each, and the newline
unfoldable pub numbers_line : List ℕ → List ℕ
numbers_line [] = newline ∷ []
numbers_line (n ∷ l) = space ∷ (decimal_of n ++ numbers_line l)

-- a word and a number
unfoldable pub label_line : List ℕ → ℕ → List ℕ
label_line label n = label ++ numbers_line (n ∷ [])

-- a refusal, by all that it tells
unfoldable pub told_line : List ℕ → List ℕ
told_line told = bytes "refused" ++ numbers_line told

-- a card's name, which has no padding, its mask in so many digits and its number
abbrev pub card_line : List ℕ → ℕ → ℕ → ℕ → List ℕ
card_line name digits mask number =
    name ++ (space ∷ (hex_digits digits (listed_mask number mask) ++ (space ∷ (decimal_of number ++ newline ∷ []))))

-- the listing of a card: the mask that clipping its record gives, and 0 or the number by which loading refuses it
unfoldable pub listing_line : List ℕ → List ℕ → List ℕ
listing_line name bytes = card_line name (mask_digits (is_wide bytes)) (mask_of bytes) (number_told (judge_of bytes))

-- a node's number, its microvolts and its ticks
unfoldable pub reading_of : ℕ → ℤ → ℤ → List ℕ
reading_of node v ticks = decimal_of node ++ (space ∷ (signed_digits v ++ (space ∷ signed_digits ticks)))

-- the answer to a node that is read: `node` before these
unfoldable pub node_line : ℕ → ℤ → ℤ → List ℕ
node_line node v ticks = (110 ∷ 111 ∷ 100 ∷ 101 ∷ space ∷ []) ++ (reading_of node v ticks ++ newline ∷ [])

-- a line of the bias sheet: its current in amperes after these
unfoldable pub sheet_line : ℕ → ℤ → ℤ → List ℕ
sheet_line node v ticks = reading_of node v ticks ++ (space ∷ (ampere_digits ticks ++ newline ∷ []))
