-- A text that is read has digits and a power in their ranges, and so its word has a form.
use mathlib.Core.Path.{◌≡◌, refl, subst}
use mathlib.Core.Bool.{Bool, true, false, ◌&&◌, not, cond}
use mathlib.Core.List.{List, [], ◌∷◌}
use Prim.Native.Nat.{ℕ, ◌+◌, ◌-◌, ◌*◌, ◌^◌, ◌≤◌, ◌<◌}
use native.Mathlib.Omega.{arith}
use borrow.Author.Tests.{ltb-true}
use lib.Dec.{leb, ltb, eqb, lit<}
use Rattle.refusal.specs.Clash.{clash}
use Rattle.std.specs.Prelude.{Option, Some, None}
use Rattle.decimal.specs.declared.Decimal.{Decimal}
use Rattle.decimal.specs.Decimal.{digits_end, powers_end, sign_weight, size_bits}
use Rattle.decimal.proofs.Order.{size_under, word_is}
use Rattle.shortest.specs.Form.{form_of}
use Rattle.shortest.specs.laws.Least.{ReadsBack}
use Rattle.decimal_read.specs.Text.{most_digits, figure_of, power_after, ranged_if, placed_if, placed_of, ended_if, ended_of}
use Rattle.decimal_read.specs.Text.{point_byte, minus_byte, counted, scanned_if, scanned, read_if, read_of, InRange, read_as}
use Rattle.decimal_read.specs.Text.{word_read}
use Rattle.decimal_read.proofs.Parts.{grown, within}
use Rattle.decimal_laws.proofs.Back.{none_reads}

-- ---- the ranges

ranged : (minus t : Bool) (d q : ℕ) → ltb q powers_end ≡ t → d < digits_end → InRange (ranged_if minus t d q)
ranged minus true d q e h = (h, ltb-true q powers_end e)
ranged minus false d q e h = tt

placed : (minus t : Bool) (d q : ℕ) → d < digits_end → InRange (placed_if minus t d q)
placed minus true d q h = ranged minus (ltb q powers_end) d q refl h
placed minus false d q h = tt

ended : (minus t : Bool) (d f : ℕ) (s : List ℕ) → d < digits_end → InRange (ended_if minus t d f s)
unfolding placed_of
ended minus true d f s h = let r = power_after s in placed minus (leb (77 + f) r) d (r - (77 + f)) h
ended minus false d f s h = tt

scanned_in : (minus : Bool) (d n f : ℕ) (p : Bool) (s : List ℕ) → d < 10 ^ n → n ≤ most_digits
    → InRange (scanned minus d n f p s)
unfolding scanned ended_of
scanned_in minus d n f p [] h k = ended minus (ltb 0 n) d f [] (within d n h k)
scanned_in minus d n f p (b ∷ s) h k =
    by (ltb (figure_of b) 10) refl (ltb n most_digits) refl (eqb b point_byte && not p)
    (λ (u : figure_of b < 10) (v : n < most_digits).
    scanned_in minus (d * 10 + figure_of b) (n + 1) (counted p f) p s (grown d n (figure_of b) h u) (omega arith))
    (scanned_in minus d n f true s h k)
  where
    other : (u : Bool) (digit : Option Decimal) → InRange (scanned minus d n f true s)
        → InRange (scanned_if false u digit (scanned minus d n f true s) (ended_of minus d n f (b ∷ s)))
    other true digit dot = dot
    other false digit dot = ended minus (ltb 0 n) d f (b ∷ s) (within d n h k)

    by : (t : Bool) → ltb (figure_of b) 10 ≡ t → (m : Bool) → ltb n most_digits ≡ m → (u : Bool)
        → (figure_of b < 10 → n < most_digits
        → InRange (scanned minus (d * 10 + figure_of b) (n + 1) (counted p f) p s))
        → InRange (scanned minus d n f true s)
        → InRange (scanned_if (t && m) u (scanned minus (d * 10 + figure_of b) (n + 1) (counted p f) p s)
        (scanned minus d n f true s) (ended_of minus d n f (b ∷ s)))
    by true e true g u digit dot = digit (ltb-true _ _ e) (ltb-true _ _ g)
    by true e false g u digit dot = other u _ dot
    by false e m g u digit dot = other u _ dot

read_in : (s : List ℕ) → InRange (read_of s)
unfolding read_of
read_in [] = tt
read_in (b ∷ s) = by (eqb b minus_byte)
  where
    by : (t : Bool) → InRange (read_if t b s)
    by true = scanned_in true 0 0 0 false s (lit< tt) (omega arith)
    by false = scanned_in false 0 0 0 false (b ∷ s) (lit< tt) (omega arith)

-- ---- the word

-- a word that some number of a line is read as
pub record Numbered (w : ℕ) : Type 0 where
  pub minus : Bool
  pub digits : ℕ
  pub power : ℕ
  pub back : ReadsBack w minus digits power

form_numbered : (f : Option Decimal) (w : ℕ) → InRange f → read_as f ≡ Some w → Numbered w
form_numbered (Some x) w r e =
    record {
      minus = x.minus;
      digits = x.digits;
      power = x.power;
      back = record { digits = r.0; power = r.1; bits = cc };
    }
form_numbered None w r e = clash cc

pub read_numbered : (s : List ℕ) (w : ℕ) → word_read s ≡ Some w → Numbered w
unfolding word_read
read_numbered s w e = form_numbered (read_of s) w (read_in s) e

pub numbered_form : (w : ℕ) → Numbered w → form_of w ≡ None → ⊥
numbered_form w v e = none_reads w e v.minus v.digits v.power v.back

pub numbered_below : (w : ℕ) → Numbered w → w < 2 ^ 64
numbered_below w v =
    let b = v.back in
    let u = size_under v.digits v.power b.digits b.power in
    let e = word_is v.minus v.digits v.power b.digits b.power in
    subst (λ (x : ℕ). x < 2 ^ 64) b.bits
    (rw e (sum (v.minus && ltb 0 v.digits) (size_bits v.digits v.power) u))
  where
    sum : (t : Bool) (x : ℕ) → x < sign_weight → cond t sign_weight 0 + x < 2 ^ 64
    sum true x h = omega arith
    sum false x h = omega arith
