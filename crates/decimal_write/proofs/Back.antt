-- What is written for a number reads back to it.
use mathlib.Core.Path.{◌≡◌, refl, sym, ap, ap₂, ◌∙◌, subst}
use mathlib.Core.Bool.{Bool, true, false}
use mathlib.Core.List.{List, [], ◌∷◌, ◌++◌, append_assoc}
use Prim.Native.Nat.{ℕ, zero, suc, ◌+◌, ◌-◌, ◌*◌, ◌/◌, ◌%◌, ◌^◌, ◌≤◌, ◌<◌}
use native.Mathlib.Nat.{le_refl, pow-suc, div-lt_iff_lt-mul}
use native.Mathlib.Omega.{arith}
use lib.Dec.{ltb, eqb, eqb→eq, lit<}
use lib.ListN.{length, get_or, length-append}
use borrow.Author.Tests.{lt-ltb, ltb-true, ltb-false, ne_eqb}
use Rattle.whole.specs.laws.Every.{at_each}
use Rattle.spelling.specs.Digits.{plain_digits}
use Rattle.std.specs.Prelude.{Some}
use Rattle.decimal.specs.Decimal.{decimal, digits_end, powers_end}
use Rattle.decimal_read.specs.Text.{figure_of, pair_of, signed_power, power_after, placed_of, ended_if, ended_of}
use Rattle.decimal_read.specs.Text.{scanned, read_if, read_of}
use Rattle.decimal_read.proofs.Bytes.{digit_in}
use Rattle.decimal_read.proofs.Parts.{placed_in}
use Rattle.decimal_write.specs.Written.{power_text, number_text}
use Rattle.decimal_write.proofs.Puts.{one_digit, more_digits}

figure_back : (v : ℕ) → v < 10 → figure_of (48 + v) ≡ v
figure_back v h = sym (digit_in (48 + v) (omega arith) (omega arith)) ∙ omega arith

-- a digit that is read
scan_one : (m : Bool) (d n v : ℕ) (r : List ℕ) → v < 10 → n < 15
    → scanned m d n 0 false ((48 + v) ∷ r) ≡ scanned m (d * 10 + v) (n + 1) 0 false r
unfolding scanned
scan_one m d n v r h k = rw (figure_back v h, lt-ltb v 10 h, lt-ltb n 15 k)

-- ---- all digits

digits_few : (k d : ℕ) → length (plain_digits k d) ≤ k
unfolding plain_digits
digits_few zero d = le_refl 0
digits_few (suc k) d = by (ltb d 10) refl (digits_few k (d / 10))
  where
    by : (t : Bool) → ltb d 10 ≡ t → length (plain_digits k (d / 10)) ≤ k → length (plain_digits (suc k) d) ≤ suc k
    by true e f = rw (one_digit k d (ltb-true d 10 e)) (omega arith)
    by false e f =
        rw (more_digits k d (ltb-false d 10 e), length-append) (omega arith)

tenth : (k d : ℕ) → d < 10 ^ suc k → d / 10 < 10 ^ k
tenth k d h = (div-lt_iff_lt-mul (lit< tt)).1 (rw pow-suc at h)

digits_read : (k d : ℕ) → d < 10 ^ k → k ≤ 15 → (m : Bool) (r : List ℕ)
    → scanned m 0 0 0 false (plain_digits k d ++ r) ≡ scanned m d (length (plain_digits k d)) 0 false r
unfolding plain_digits
digits_read zero d h l m r = let z : 0 ≡ d = omega arith in ap (λ (x : ℕ). scanned m x 0 0 false r) z
digits_read (suc k) d h l m r =
    by (ltb d 10) refl (digits_read k (d / 10) (tenth k d h) (omega arith) m ((48 + d % 10) ∷ r))
  where
    by : (t : Bool) → ltb d 10 ≡ t
        → scanned m 0 0 0 false (plain_digits k (d / 10) ++ ((48 + d % 10) ∷ r))
        ≡ scanned m (d / 10) (length (plain_digits k (d / 10))) 0 false ((48 + d % 10) ∷ r)
        → scanned m 0 0 0 false (plain_digits (suc k) d ++ r)
        ≡ scanned m d (length (plain_digits (suc k) d)) 0 false r
    by true e i =
        let b : 0 * 10 + d ≡ d = omega arith in
        rw (one_digit k d (ltb-true d 10 e))
        (scan_one m 0 0 d r (ltb-true d 10 e) (lit< tt) ∙ ap (λ (x : ℕ). scanned m x 1 0 false r) b)
    by false e i =
        let n = length (plain_digits k (d / 10)) in
        let few = digits_few k (d / 10) in
        let whole : d / 10 * 10 + d % 10 ≡ d = omega arith in
        let c : n + 1 ≡ length (plain_digits k (d / 10) ++ ((48 + d % 10) ∷ [])) =
        sym (length-append (plain_digits k (d / 10)) ((48 + d % 10) ∷ [])) in
        rw (more_digits k d (ltb-false d 10 e))
        (ap (scanned m 0 0 0 false) (append_assoc (plain_digits k (d / 10)) ((48 + d % 10) ∷ []) r)
        ∙ i
        ∙ scan_one m (d / 10) n (d % 10) r (omega arith) (omega arith)
        ∙ ap₂ (λ (x y : ℕ). scanned m x y 0 false r) whole c)

-- ---- no minus stands first

starts : (k d : ℕ) (r : List ℕ) → 48 ≤ get_or (plain_digits (suc k) d ++ r) 0 0
unfolding plain_digits
starts zero d r = by (ltb d 10) refl
  where
    by : (t : Bool) → ltb d 10 ≡ t → 48 ≤ get_or (plain_digits 1 d ++ r) 0 0
    by true e = rw (one_digit 0 d (ltb-true d 10 e)) (omega arith)
    by false e = rw (more_digits 0 d (ltb-false d 10 e)) (omega arith)
starts (suc k) d r = by (ltb d 10) refl (starts k (d / 10) ((48 + d % 10) ∷ r))
  where
    by : (t : Bool) → ltb d 10 ≡ t → 48 ≤ get_or (plain_digits (suc k) (d / 10) ++ ((48 + d % 10) ∷ r)) 0 0
        → 48 ≤ get_or (plain_digits (suc (suc k)) d ++ r) 0 0
    by true e i = rw (one_digit (suc k) d (ltb-true d 10 e)) (omega arith)
    by false e i =
        rw (more_digits (suc k) d (ltb-false d 10 e))
        (subst (λ (l : List ℕ). 48 ≤ get_or l 0 0)
        (sym (append_assoc (plain_digits (suc k) (d / 10)) ((48 + d % 10) ∷ []) r)) i)

unsigned : (l : List ℕ) → 48 ≤ get_or l 0 0 → read_of l ≡ scanned false 0 0 0 false l
unfolding read_of
unsigned [] h = absurd (omega arith)
unsigned (b ∷ s) h = ap (λ (t : Bool). read_if t b s) (ne_eqb b 45 (λ e. omega arith))

-- ---- the power: a test of all of them

power_back : (q : ℕ) → q < powers_end → signed_power (power_text q) ≡ 77 + q
unfolding signed_power pair_of figure_of power_text plain_digits
power_back q h =
    eqb→eq (signed_power (power_text q)) (77 + q)
    (at_each (λ k. eqb (signed_power (power_text k)) (77 + k)) powers_end tt q h)

some_digits : (k d : ℕ) → 0 < length (plain_digits (suc k) d)
some_digits k d = by (ltb d 10) refl
  where
    by : (t : Bool) → ltb d 10 ≡ t → 0 < length (plain_digits (suc k) d)
    by true e = rw (one_digit k d (ltb-true d 10 e)) (omega arith)
    by false e = rw (more_digits k d (ltb-false d 10 e), length-append) (omega arith)

ending : (m : Bool) (d n q : ℕ) → 0 < n → q < powers_end → scanned m d n 0 false (101 ∷ power_text q) ≡ Some (decimal m d q)
unfolding scanned figure_of ended_of power_after
ending m d n q h l =
    let e : 77 + q - (77 + 0) ≡ q = omega arith in
    ap (λ (t : Bool). ended_if m t d 0 (101 ∷ power_text q)) (lt-ltb 0 n h)
    ∙ ap (placed_of m d 0) (power_back q l)
    ∙ sym (placed_in m d 0 (77 + q) q (omega arith) (sym e) l)

body : (m : Bool) (d q : ℕ) → d < digits_end → q < powers_end
    → scanned m 0 0 0 false (plain_digits 15 d ++ (101 ∷ power_text q)) ≡ Some (decimal m d q)
body m d q h l =
    digits_read 15 d h (le_refl 15) m (101 ∷ power_text q)
    ∙ ending m d (length (plain_digits 15 d)) q (some_digits 14 d) l

pub number_back : (m : Bool) (d q : ℕ) → d < digits_end → q < powers_end → read_of (number_text m d q) ≡ Some (decimal m d q)
unfolding number_text read_of
number_back true d q h l = body true d q h l
number_back false d q h l =
    unsigned (plain_digits 15 d ++ (101 ∷ power_text q)) (starts 14 d (101 ∷ power_text q)) ∙ body false d q h l
