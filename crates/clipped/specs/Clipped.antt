-- The line of a clipped record, with the newline that ends it.
use Rattle.std.specs.Prelude.{Bool, cond, List, ◌++◌, ℕ, Float}
use Rattle.std.specs.Float.{binary64}
use Rattle.std.specs.Float.Ieee.{to_bits, eq}
use Rattle.sheet.specs.Digits.{mask_digits, word_digits, hex_digits}
use Rattle.spelling.specs.Bytes.{bytes}
use Rattle.spaced.specs.Spaced.{spaced_line}

-- the bits of a number; one without a value has none
unfoldable pub bits_of : Float → ℕ
bits_of x = cond (eq x x) (to_bits binary64 x) 0

abbrev pub word_of : Float → List ℕ
word_of x = hex_digits word_digits (bits_of x)

unfoldable pub clip_line : ℕ → Bool → List Float → List ℕ
clip_line mask wide numbers = bytes "clip " ++ (hex_digits (mask_digits wide) mask ++ spaced_line word_of numbers)
