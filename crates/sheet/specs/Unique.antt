-- One input has one result: any two that a contract permits are equal.
use Rattle.std.specs.Prelude.{◌≡◌, List, ℕ, ℤ}
use Rattle.refusal.specs.Unique.{unique_by_equation}
use Rattle.sheet.specs.declared.Text.{Text}
use Rattle.sheet.specs.Text.{text_of}
use Rattle.sheet.specs.Lines.{label_line, told_line, listing_line, node_line, sheet_line}

pub unique_label_line : (label : List ℕ) (n : ℕ) {r r' : Text} → r ≡ text_of (label_line label n)
    → r' ≡ text_of (label_line label n) → r ≡ r'
unique_label_line label n e f = unique_by_equation e f

pub unique_told_line : (l : List ℕ) {r r' : Text} → r ≡ text_of (told_line l) → r' ≡ text_of (told_line l) → r ≡ r'
unique_told_line l e f = unique_by_equation e f

pub unique_listing_line : (name bytes : List ℕ) {r r' : Text} → r ≡ text_of (listing_line name bytes)
    → r' ≡ text_of (listing_line name bytes) → r ≡ r'
unique_listing_line name bytes e f = unique_by_equation e f

pub unique_node_line : (node : ℕ) (v ticks : ℤ) {r r' : Text} → r ≡ text_of (node_line node v ticks)
    → r' ≡ text_of (node_line node v ticks) → r ≡ r'
unique_node_line node v ticks e f = unique_by_equation e f

pub unique_sheet_line : (node : ℕ) (v ticks : ℤ) {r r' : Text} → r ≡ text_of (sheet_line node v ticks)
    → r' ≡ text_of (sheet_line node v ticks) → r ≡ r'
unique_sheet_line node v ticks e f = unique_by_equation e f
