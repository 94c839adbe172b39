-- Every line has room in a text, so that what a text shows is the whole line.
use Rattle.std.specs.Prelude.{◌≡◌, Bool, true, false, cond, ◌&&◌, List, [], ◌∷◌, ◌++◌, ℕ, zero, suc, ◌+◌, ◌-◌, ◌*◌, ◌/◌, ◌%◌, ◌^◌, ◌≤◌, ltb, ℤ, nat_abs, length, take, replicate}
use Rattle.std.proofs.Common.{◌∙◌, arith, lit≤, length-append, take_all}
use Rattle.std.proofs.Math.Seq.{take-append_seam}
use Rattle.refusal.specs.Order.{number_told}
use Rattle.name.specs.Name.{name_length}
use Rattle.clip.specs.Record.{is_wide}
use Rattle.clip.specs.Clip.{mask_of}
use Rattle.card.specs.Judge.{judge_of}
use Rattle.spelling.specs.Bytes.{newline}
use Rattle.sheet.specs.Text.{room, text_of, shown}
use Rattle.current.specs.Current.{decimals, below_zero, pico_of}
use Rattle.listed.specs.Listed.{listed_mask}
use Rattle.sheet.specs.Digits.{decimal_of, glyph_of, digits_of, hex_digits, plain_digits, sign_of, signed_digits}
use Rattle.sheet.specs.Digits.{ampere_digits}
use Rattle.sheet.specs.Digits.{mask_digits, most_digits, word_digits}
use Rattle.sheet.specs.Lines.{numbers_line, label_line, told_line, listing_line, reading_of, node_line, sheet_line}

pub text_whole : (l : List ℕ) → length l ≤ room → shown (text_of l) ≡ l
unfolding text_of
text_whole l h = take-append_seam (take room l) (replicate (room - length l) 0) ∙ take_all room l h

-- ---- how many bytes

digits_long : (b k n : ℕ) → length (digits_of b k n) ≤ k
unfolding digits_of
digits_long b zero n = omega arith
digits_long b (suc k) n = let h = digits_long b k (n / b) in rw length-append (omega arith)

one_or_more : (t : Bool) (x : ℕ) (l : List ℕ) (k : ℕ) → length l ≤ suc k → length (cond t (x ∷ []) l) ≤ suc k
one_or_more true x l k h = omega arith
one_or_more false x l k h = h

plain_long : (k n : ℕ) → length (plain_digits k n) ≤ k
unfolding plain_digits
plain_long zero n = omega arith
plain_long (suc k) n =
    let h = plain_long k (n / 10) in
    one_or_more (ltb n 10) (glyph_of n) (plain_digits k (n / 10) ++ glyph_of (n % 10) ∷ []) k
    (rw length-append (omega arith))

sign_long : (b : Bool) → length (sign_of b) ≤ 1
sign_long true = omega arith
sign_long false = omega arith

ampere_long : (z : ℤ) → length (ampere_digits z) ≤ 34
ampere_long z =
    let n = pico_of (nat_abs z) in
    let h = sign_long (below_zero z && ltb 0 n) in
    let k = plain_long most_digits (n / 10 ^ decimals) in
    let d = digits_long 10 decimals n in
    simp length-append (omega arith)

numbers_long : (l : List ℕ) → length (numbers_line l) ≤ 1 + 21 * length l
unfolding numbers_line
numbers_long [] = omega arith
numbers_long (n ∷ l) =
    let h = plain_long most_digits n in
    let k = numbers_long l in
    rw length-append (omega arith)

reading_long : (node : ℕ) (v ticks : ℤ) → length (reading_of node v ticks) ≤ 64
unfolding reading_of
reading_long node v ticks =
    let n = plain_long most_digits node in
    let a = sign_long (below_zero v) in
    let b = plain_long most_digits (nat_abs v) in
    let c = sign_long (below_zero ticks) in
    let d = plain_long most_digits (nat_abs ticks) in
    simp length-append (omega arith)

signed_long : (z : ℤ) → length (signed_digits z) ≤ 21
signed_long z =
    let a = sign_long (below_zero z) in
    let b = plain_long most_digits (nat_abs z) in
    rw length-append (omega arith)

-- ---- the lines

pub signed_whole : (z : ℤ) → shown (text_of (signed_digits z)) ≡ signed_digits z
signed_whole z = let h = signed_long z in text_whole (signed_digits z) (omega arith)

pub decimal_whole : (n : ℕ) → shown (text_of (decimal_of n)) ≡ decimal_of n
decimal_whole n = let h = plain_long most_digits n in text_whole (decimal_of n) (omega arith)

pub label_whole : (label : List ℕ) (n : ℕ) → length label ≤ 80 → shown (text_of (label_line label n)) ≡ label_line label n
unfolding label_line
label_whole label n h =
    let k = numbers_long (n ∷ []) in
    text_whole (label_line label n) (rw length-append (omega arith))

-- a refusal's number and two values
pub told_long : (l : List ℕ) → length l ≤ 3 → length (told_line l) ≤ 71
unfolding told_line
told_long l h = let k = numbers_long l in rw length-append (omega arith)

pub told_whole : (l : List ℕ) → length l ≤ 3 → shown (text_of (told_line l)) ≡ told_line l
told_whole l h = let k = told_long l h in text_whole (told_line l) (omega arith)

pub mask_short : (wide : Bool) → mask_digits wide ≤ 6
mask_short true = lit≤ tt
mask_short false = lit≤ tt

pub listing_whole : (name bytes : List ℕ) → length name ≤ name_length
    → shown (text_of (listing_line name bytes)) ≡ listing_line name bytes
unfolding listing_line
listing_whole name bytes h =
    let number = number_told (judge_of bytes) in
    let b = digits_long 16 (mask_digits (is_wide bytes)) (listed_mask number (mask_of bytes)) in
    let m = mask_short (is_wide bytes) in
    let d = plain_long most_digits number in
    text_whole (listing_line name bytes) (simp length-append (omega arith))

pub node_whole : (node : ℕ) (v ticks : ℤ) → shown (text_of (node_line node v ticks)) ≡ node_line node v ticks
unfolding node_line
node_whole node v ticks =
    let h = reading_long node v ticks in
    text_whole (node_line node v ticks) (simp length-append (omega arith))

pub sheet_whole : (node : ℕ) (v ticks : ℤ) → shown (text_of (sheet_line node v ticks)) ≡ sheet_line node v ticks
unfolding sheet_line
sheet_whole node v ticks =
    let h = reading_long node v ticks in
    let k = ampere_long ticks in
    text_whole (sheet_line node v ticks)
    (rw length-append (omega (arith, length-append (ampere_digits ticks) (newline ∷ []))))

pub hex_whole : (k n : ℕ) → k ≤ word_digits → shown (text_of (hex_digits k n)) ≡ hex_digits k n
hex_whole k n h = let d = digits_long 16 k n in text_whole (hex_digits k n) (omega arith)
