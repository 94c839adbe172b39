-- Loops over the bytes of a word: what is left after i of them.
use mathlib.Core.Path.{◌≡◌, refl, sym, ap, ◌∙◌}
use mathlib.Core.Bool.{Bool, ◌&&◌}
use mathlib.Core.List.{List, [], ◌∷◌}
use Prim.Native.Nat.{ℕ, ◌+◌, ◌*◌, ◌<◌, ◌≤◌, min}
use native.Mathlib.Decide.{dec_lt}
use native.Mathlib.Numerals.{add-one}
use native.Mathlib.Omega.{arith}
use lib.ListN.{length, drop, get_or, drop_of_length-le}
use lib.Seq.{drop-cons}
use Rattle.std.specs.List.{list_all}
use Rattle.spelling.specs.Number.{is_digit, digit_of, all_digits, decimal_from, first_past}

-- the byte at i and those after it
pub split : (s : List ℕ) (i : ℕ) → i < length s → drop i s ≡ get_or s i 0 ∷ drop (i + 1) s
split s i h = rw (add-one, drop-cons s i 0)

pub none_left : (s : List ℕ) (i : ℕ) → length s ≤ i → drop i s ≡ []
none_left s i h = drop_of_length-le s h

-- ---- whether all are digits

pub digits_all : (s : List ℕ) → list_all is_digit s ≡ all_digits s
unfolding all_digits
digits_all [] = refl
digits_all (b ∷ s) = ap (λ (t : Bool). is_digit b && t) (digits_all s)

-- ---- the value of digits, held at the first beyond 64 bits

grows : (x : ℕ) (l : List ℕ) → x ≤ decimal_from x l
unfolding decimal_from
grows x [] = omega arith
grows x (b ∷ l) = let h = grows (10 * x + digit_of b) l in omega arith

held_on : (x : ℕ) (l : List ℕ) → min (decimal_from x l) first_past ≡ min (decimal_from (min x first_past) l) first_past
held_on x l = by (dec_lt first_past x)
  where
    by : Dec (first_past < x) → min (decimal_from x l) first_past ≡ min (decimal_from (min x first_past) l) first_past
    by (yes h) = omega (arith, grows x l, grows (min x first_past) l)
    by (no h) = let e : min x first_past ≡ x = omega arith in rw e

pub record Value (s : List ℕ) (i x : ℕ) : Type 0 where
  pub within : i ≤ length s
  pub so_far : min (decimal_from 0 s) first_past ≡ min (decimal_from x (drop i s)) first_past
  pub held : x ≤ first_past

module _ {s : List ℕ} {i x : ℕ} (v : Value s i x) where
  pub value_on : i < length s → (d y : ℕ) → d ≡ digit_of (get_or s i 0) → y ≡ min (10 * x + d) first_past
      → Value s (i + 1) y
  unfolding decimal_from
  value_on h d y e f =
      let g : min (decimal_from 0 s) first_past ≡ min (decimal_from (10 * x + d) (drop (i + 1) s)) first_past =
      v.so_far ∙ ap (λ (l : List ℕ). min (decimal_from x l) first_past) (split s i h)
      ∙ ap (λ (z : ℕ). min (decimal_from (10 * x + z) (drop (i + 1) s)) first_past) (sym e) in record {
        within = omega arith;
        so_far =
            g ∙ held_on (10 * x + d) (drop (i + 1) s) ∙ ap
            (λ (z : ℕ). min (decimal_from z (drop (i + 1) s)) first_past) (sym f);
        held = omega arith;
      }

  pub value_end : length s ≤ i → x ≡ min (decimal_from 0 s) first_past
  unfolding decimal_from
  value_end h =
      let g : min (decimal_from 0 s) first_past ≡ min x first_past =
      v.so_far ∙ ap (λ (l : List ℕ). min (decimal_from x l) first_past) (none_left s i h) in
      let b = v.held in omega arith
