-- How large the numbers are whose difference has a place among the signed words; and a signed number in its two halves:
-- n itself, or -(n + 1).
use Rattle.std.specs.Prelude.{◌≡◌, refl, ℕ, ◌<◌, ◌^◌, ℤ, pos, negsuc}
use Rattle.std.proofs.Common.{sym, ap, ◌∙◌, arith}

-- binary places of a signed word beside its sign, and the first number that they do not hold
abbrev pub signed_places : ℕ
signed_places = 63

abbrev pub signed_span : ℕ
signed_span = 2 ^ signed_places

-- a signed number in its halves
pub data Int : Type 0 where
  Pos : ℕ → Int
  NegSuc : ℕ → Int

-- the halves of a number
abbrev pub int_of : ℤ → Int
int_of (pos n) = Pos n
int_of (negsuc n) = NegSuc n

-- the number that they stand for
abbrev pub signed_of : Int → ℤ
signed_of (Pos n) = pos n
signed_of (NegSuc n) = negsuc n

-- the unsigned number in the half
abbrev pub magnitude_of : Int → ℕ
magnitude_of (Pos n) = n
magnitude_of (NegSuc n) = n

pub signed_of_int : (z : ℤ) → signed_of (int_of z) ≡ z
signed_of_int (pos n) = refl
signed_of_int (negsuc n) = refl

-- a number by its opened half
pub opened : {v w : ℤ} {i j : Int} → w ≡ v → i ≡ int_of w → i ≡ j → signed_of j ≡ v
opened {v} {w} p q r = ap signed_of (sym r ∙ q) ∙ signed_of_int w ∙ p

-- the number has a place among the signed words
pub record Closable (i : Int) : Type 0 where
  pub magnitude_small : magnitude_of i < signed_span

pub closable_zero : Closable (Pos 0)
closable_zero = record { magnitude_small = omega arith }

-- asked by `difference`: neither number is so large that the other could not be taken from it
pub record Subtractable (a b : ℕ) : Type 0 where
  pub first_small : a < signed_span
  pub second_small : b < signed_span

pub subtractable_zero : Subtractable 0 0
subtractable_zero = record { first_small = omega arith; second_small = omega arith }
