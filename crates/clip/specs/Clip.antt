-- Clipping alone, of a record of either version: the clipped numbers and the mask, or 1, or 6.
use Rattle.std.specs.Prelude.{◌≡◌, Result, Ok, Err, not, cond, List, [], ◌∷◌, ◌++◌, ℕ, zero, suc, ◌+◌, ◌-◌, ◌^◌, replicate, Float}
use Rattle.std.specs.Float.Ieee.{ne}
use Rattle.refusal.specs.declared.Refusal.{Refusal}
use Rattle.refusal.specs.declared.Refusal.TheVariants.{Malformed, NotFinite}
use Rattle.refusal.specs.Told.{told}
use Rattle.refusal.specs.Order as order
use Rattle.refusal.specs.Order.{Verdict, refuse_if, tells}
use Rattle.clip.specs.declared.Clipping.{Clipping}
use Rattle.clip.specs.Limits as limits
use Rattle.clip.specs.Limits.{wide, rule_of, clip_to}
use Rattle.clip.specs.Record.{right_length, width_of, number_at, finite_up}

-- number i, clipped by its rule
unfoldable pub clipped_at : List ℕ → ℕ → Float
clipped_at s i = clip_to (rule_of i) (number_at s i)

-- the first n clipped numbers
unfoldable pub clipped_up : List ℕ → ℕ → List Float
clipped_up s zero = []
clipped_up s (suc n) = clipped_up s n ++ (clipped_at s n ∷ [])

-- the bits of the first n: bit i exactly where clipping changed number i's value, and -0 has +0's value
unfoldable pub mask_up : List ℕ → ℕ → ℕ
mask_up s zero = 0
mask_up s (suc n) = mask_up s n + cond (ne (number_at s n) (clipped_at s n)) (2 ^ n) 0

-- the numbers that are given for n words: the clipped ones, and +0 for each word that the record has not
abbrev pub padded_up : List ℕ → ℕ → List Float
padded_up s n = clipped_up s n ++ replicate (wide - n) limits.zero

-- 1 where the bytes are not those of a record, then 6 where one of its numbers is not finite; else the record is taken
unfoldable pub clip_of : List ℕ → Verdict (Unit {0})
clip_of s =
    refuse_if (not (right_length s)) Malformed (refuse_if (not (finite_up s (width_of s))) NotFinite (order.yes tt))

-- what stands where the record is taken, and what where it is not
abbrev pub if_taken : {A : Type 0} → Verdict (Unit {0}) → A → A → A
if_taken (order.no f) a none = none
if_taken (order.yes t) a none = a

-- the numbers and the mask that are given: all zero where the record is refused
abbrev pub numbers_of : List ℕ → List Float
numbers_of s = if_taken (clip_of s) (padded_up s (width_of s)) (replicate wide limits.zero)

abbrev pub mask_of : List ℕ → ℕ
mask_of s = if_taken (clip_of s) (mask_up s (width_of s)) 0

-- what clipping tells
abbrev pub told_answer : Result Clipping Refusal → order.Answer (Unit {0})
told_answer (Ok k) = order.given tt
told_answer (Err f) = order.refused (told f)

-- the numbers and the mask that a caller has of it: of a refusal none, which count as zeros
abbrev pub numbers_in : Result Clipping Refusal → List Float
numbers_in (Ok k) = k.numbers
numbers_in (Err f) = replicate wide limits.zero

abbrev pub mask_in : Result Clipping Refusal → ℕ
mask_in (Ok k) = k.mask
mask_in (Err f) = 0

-- clipping s gives r
pub record Clips (s : List ℕ) (r : Result Clipping Refusal) : Type 0 where
  pub answer : told_answer r ≡ tells (clip_of s)
  pub numbers : numbers_in r ≡ numbers_of s
  pub mask : mask_in r ≡ mask_of s
