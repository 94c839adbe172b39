-- What follows the digits, the point moved out, and one byte after the other scanned, case by case.
use mathlib.Core.Path.{◌≡◌, refl, sym, ap, ap₂, ◌∙◌, subst}
use mathlib.Core.Bool.{Bool, true, false, ◌&&◌, not, cond}
use mathlib.Core.List.{List, [], ◌∷◌}
use Prim.Native.Nat.{ℕ, ◌+◌, ◌-◌, ◌*◌, ◌^◌, ◌≤◌, ◌<◌}
use native.Mathlib.Nat.{le_refl, lt_of_lt_of_le, pow-suc, pow-le-pow_right, zero-lt-suc}
use native.Mathlib.Numerals.{add-one}
use native.Mathlib.Omega.{arith}
use lib.Dec.{ltb, eqb, lit<}
use lib.ListN.{length, get_or, take, drop, length-drop}
use lib.Seq.{take_all, drop-cons}
use borrow.Author.Tests.{le-leb, lt-leb, lt-ltb, le-ltb, ltb-true, eq-eqb, ne_eqb, eqb-true}
use mir.Val.{bool_byte}
use Rattle.std.specs.Prelude.{Option, Some, None}
use Rattle.decimal.specs.declared.Decimal.{Decimal}
use Rattle.decimal.specs.Decimal.{decimal, digits_end, word_of}
use Rattle.decimal_read.specs.Text.{figure_of, pair_of, signed_if, signed_power, marked_if, power_after, ranged_if}
use Rattle.decimal_read.specs.Text.{placed_if, placed_of, ended_if, ended_of, counted, scanned_if, scanned, read_if}
use Rattle.decimal_read.specs.Text.{read_of, InRange, read_as, word_read}
use Rattle.decimal_read.specs.inner.Told.{Told}
use Rattle.decimal_read.proofs.Bytes.{and_false}

-- what `&s[1..]` holds
abbrev pub rest : List ℕ → List ℕ
rest s = take (length s - 1) (drop 1 s)

uncons : (s : List ℕ) → 0 < length s → s ≡ get_or s 0 0 ∷ rest s
uncons s h = drop-cons s 0 0 h
    ∙ ap (λ (t : List ℕ). get_or s 0 0 ∷ t) (sym (take_all (length s - 1) (drop 1 s) (rw length-drop (le_refl _))))

-- ---- the power

pub signed_none : (s : List ℕ) → length s < 1 → signed_power s ≡ 200
unfolding signed_power
signed_none [] h = refl
signed_none (a ∷ s) h = absurd (omega arith)

module _ (s : List ℕ) (h : 0 < length s) where
  module _ (e : get_or s 0 0 ≡ 45) where
    minus_is : signed_power s ≡ cond (ltb (pair_of (rest s)) 100) (99 - pair_of (rest s)) 200
    unfolding signed_power
    minus_is =
        ap signed_power (uncons s h)
        ∙ ap (λ (t : Bool). signed_if t (get_or s 0 0) (rest s)) (eq-eqb (get_or s 0 0) 45 e)

    pub minus_some : (v : ℕ) → v ≡ pair_of (rest s) → v < 100 → 99 - v ≡ signed_power s
    minus_some v w l =
        sym (minus_is ∙ ap (λ (x : ℕ). cond (ltb x 100) (99 - x) 200) (sym w)
        ∙ ap (λ (t : Bool). cond t (99 - v) 200) (lt-ltb v 100 l))

    pub minus_none : pair_of (rest s) ≡ 100 → signed_power s ≡ 200
    minus_none w = minus_is ∙ ap (λ (x : ℕ). cond (ltb x 100) (99 - x) 200) w

  module _ (e : get_or s 0 0 ≡ 45 → ⊥) where
    plain_is : signed_power s ≡ cond (ltb (pair_of s) 100) (99 + pair_of s) 200
    unfolding signed_power
    plain_is =
        ap signed_power (uncons s h)
        ∙ ap (λ (t : Bool). signed_if t (get_or s 0 0) (rest s)) (ne_eqb (get_or s 0 0) 45 e)
        ∙ ap (λ (x : ℕ). cond (ltb x 100) (99 + x) 200) (sym (ap pair_of (uncons s h)))

    pub plain_some : (v : ℕ) → v ≡ pair_of s → v < 100 → 99 + v ≡ signed_power s
    plain_some v w l =
        sym (plain_is ∙ ap (λ (x : ℕ). cond (ltb x 100) (99 + x) 200) (sym w)
        ∙ ap (λ (t : Bool). cond t (99 + v) 200) (lt-ltb v 100 l))

    pub plain_none : pair_of s ≡ 100 → signed_power s ≡ 200
    plain_none w = plain_is ∙ ap (λ (x : ℕ). cond (ltb x 100) (99 + x) 200) w

pub power_none : (s : List ℕ) → length s < 1 → 99 ≡ power_after s
unfolding power_after
power_none [] h = refl
power_none (a ∷ s) h = absurd (omega arith)

pub power_marked : (s : List ℕ) (r : Option ℕ) → 0 < length s → get_or s 0 0 ≡ 101 → Told 200 r (signed_power (rest s))
    → Told 200 r (power_after s)
unfolding power_after
power_marked s r h e w =
    subst (Told 200 r)
    (sym (ap power_after (uncons s h) ∙ ap (λ (t : Bool). marked_if t (rest s)) (eq-eqb (get_or s 0 0) 101 e))) w

pub power_other : (s : List ℕ) → 0 < length s → (get_or s 0 0 ≡ 101 → ⊥) → power_after s ≡ 200
unfolding power_after
power_other s h e =
    ap power_after (uncons s h) ∙ ap (λ (t : Bool). marked_if t (rest s)) (ne_eqb (get_or s 0 0) 101 e)

-- ---- the point moved out

module _ (minus : Bool) (d f r : ℕ) where
  pub placed_low : r < 77 + f → None ≡ placed_of minus d f r
  unfolding placed_of
  placed_low l = sym (ap (λ (t : Bool). placed_if minus t d (r - (77 + f))) (lt-leb (77 + f) r l))

  pub placed_in : (q : ℕ) → 77 + f ≤ r → q ≡ r - (77 + f) → q < 45 → Some (decimal minus d q) ≡ placed_of minus d f r
  unfolding placed_of
  placed_in q l e k =
      sym (ap (λ (t : Bool). placed_if minus t d (r - (77 + f))) (le-leb (77 + f) r l)
      ∙ ap (λ (x : ℕ). ranged_if minus (ltb x 45) d x) (sym e)
      ∙ ap (λ (t : Bool). ranged_if minus t d q) (lt-ltb q 45 k))

  pub placed_out : (q : ℕ) → 77 + f ≤ r → q ≡ r - (77 + f) → 45 ≤ q → None ≡ placed_of minus d f r
  unfolding placed_of
  placed_out q l e k =
      sym (ap (λ (t : Bool). placed_if minus t d (r - (77 + f))) (le-leb (77 + f) r l)
      ∙ ap (λ (x : ℕ). ranged_if minus (ltb x 45) d x) (sym e)
      ∙ ap (λ (t : Bool). ranged_if minus t d q) (le-ltb q 45 k))

-- none is in range
pub none_in : {x y : Option Decimal} → x ≡ None → None ≡ y → (x ≡ y) × InRange x
none_in e f = (e ∙ f, subst InRange (sym e) tt)

module _ (minus : Bool) (d n f : ℕ) (s : List ℕ) where
  pub ended_none : n ≡ 0 → None ≡ ended_of minus d n f s
  unfolding ended_of
  ended_none h = sym (ap (λ (t : Bool). ended_if minus t d f s) (le-ltb 0 n (omega arith)))

  module _ (h : n ≡ 0 → ⊥) where
    pub ended_some : (p : ℕ) (x : Option Decimal) → x ≡ placed_of minus d f p → p ≡ power_after s
        → x ≡ ended_of minus d n f s
    unfolding ended_of
    ended_some p x e w =
        e ∙ ap (placed_of minus d f) w
        ∙ sym (ap (λ (t : Bool). ended_if minus t d f s) (lt-ltb 0 n (omega arith)))

    pub ended_powerless : f ≤ 15 → power_after s ≡ 200 → None ≡ ended_of minus d n f s
    ended_powerless l w =
        ended_some 200 None (placed_out minus d f 200 (200 - (77 + f)) (omega arith) refl (omega arith)) (sym w)

-- ---- a byte of the digits

pub scan_end : (minus : Bool) (d n f : ℕ) (p : Bool) (t : List ℕ) → length t < 1
    → scanned minus d n f p t ≡ ended_of minus d n f t
unfolding scanned
scan_end minus d n f p [] h = refl
scan_end minus d n f p (a ∷ t) h = absurd (omega arith)

dot : figure_of 46 ≡ 10
unfolding figure_of
dot = refl

module _ (minus : Bool) (d n f : ℕ) (p : Bool) (t : List ℕ) (v : ℕ) (h : 0 < length t)
    (w : v ≡ figure_of (get_or t 0 0)) where
  step : scanned minus d n f p t
      ≡ scanned_if (ltb v 10 && ltb n 15) (eqb (get_or t 0 0) 46 && not p)
      (scanned minus (d * 10 + v) (n + 1) (counted p f) p (rest t)) (scanned minus d n f true (rest t))
      (ended_of minus d n f t)
  unfolding scanned
  step =
      ap (scanned minus d n f p) (uncons t h)
      ∙ ap₂ (λ (x : ℕ) (u : List ℕ). scanned_if (ltb x 10 && ltb n 15) (eqb (get_or t 0 0) 46 && not p)
      (scanned minus (d * 10 + x) (n + 1) (counted p f) p (rest t)) (scanned minus d n f true (rest t))
      (ended_of minus d n f u)) (sym w) (sym (uncons t h))

  pub scan_digit : v < 10 → n < 15 → scanned minus d n f p t ≡ scanned minus (d * 10 + v) (n + 1) (counted p f) p
      (rest t)
  scan_digit k l =
      step ∙ ap₂ (λ (x y : Bool). scanned_if (x && y) (eqb (get_or t 0 0) 46 && not p)
      (scanned minus (d * 10 + v) (n + 1) (counted p f) p (rest t)) (scanned minus d n f true (rest t))
      (ended_of minus d n f t)) (lt-ltb v 10 k) (lt-ltb n 15 l)

  other : (ltb v 10 && ltb n 15 ≡ false) → (eqb (get_or t 0 0) 46 && not p ≡ false)
      → scanned minus d n f p t ≡ ended_of minus d n f t
  other a b =
      step ∙ ap₂ (λ (x y : Bool). scanned_if x y
      (scanned minus (d * 10 + v) (n + 1) (counted p f) p (rest t)) (scanned minus d n f true (rest t))
      (ended_of minus d n f t)) a b

  pub scan_point : 10 ≤ v → get_or t 0 0 ≡ 46 → p ≡ false → scanned minus d n f p t ≡ scanned minus d n f true (rest t)
  scan_point k e q =
      step ∙ ap₂ (λ (x y : Bool). scanned_if (x && ltb n 15) y
      (scanned minus (d * 10 + v) (n + 1) (counted p f) p (rest t)) (scanned minus d n f true (rest t))
      (ended_of minus d n f t)) (le-ltb v 10 k)
      (ap₂ (λ (x y : Bool). x && not y) (eq-eqb (get_or t 0 0) 46 e) q)

  -- neither a digit that there is room for nor the first point
  pub scan_stop : (v < 10 → 15 ≤ n) → (get_or t 0 0 ≡ 46 → p ≡ true) → scanned minus d n f p t ≡ ended_of minus d n f t
  scan_stop a b = other (digits (ltb v 10) refl) (points (eqb (get_or t 0 0) 46) refl)
    where
      digits : (x : Bool) → ltb v 10 ≡ x → ltb v 10 && ltb n 15 ≡ false
      digits true e =
          ap (λ (y : Bool). ltb v 10 && y) (le-ltb n 15 (a (ltb-true v 10 e))) ∙ and_false (ltb v 10)
      digits false e = ap (λ (x : Bool). x && ltb n 15) e

      points : (x : Bool) → eqb (get_or t 0 0) 46 ≡ x → eqb (get_or t 0 0) 46 && not p ≡ false
      points true e =
          ap (λ (y : Bool). eqb (get_or t 0 0) 46 && not y) (b (eqb-true (get_or t 0 0) 46 e))
          ∙ and_false (eqb (get_or t 0 0) 46)
      points false e = ap (λ (x : Bool). x && not p) e

  pub scan_full : v < 10 → 15 ≤ n → scanned minus d n f p t ≡ ended_of minus d n f t
  scan_full k l = scan_stop (λ h. l) (λ e. absurd (digit e))
    where
      digit : get_or t 0 0 ≡ 46 → ⊥
      digit e = let z = w ∙ ap figure_of e ∙ dot in omega arith

-- ---- n digits stay below 10^n

pub grown : (d n v : ℕ) → d < 10 ^ n → v < 10 → d * 10 + v < 10 ^ (n + 1)
grown d n v h k = rw (add-one, pow-suc) (omega arith)

pub within : (d n : ℕ) → d < 10 ^ n → n ≤ 15 → d < digits_end
within d n h k = lt_of_lt_of_le h (pow-le-pow_right (zero-lt-suc 9) k)

-- ---- the sign

pub read_none : (s : List ℕ) → length s < 1 → None ≡ read_of s
unfolding read_of
read_none [] h = refl
read_none (a ∷ s) h = absurd (omega arith)

pub read_minus : (s : List ℕ) (x : Option Decimal) → 0 < length s → get_or s 0 0 ≡ 45 → x ≡ scanned true 0 0 0 false (rest s)
    → x ≡ read_of s
unfolding read_of
read_minus s x h e w = w ∙ sym (ap read_of (uncons s h)
    ∙ ap (λ (t : Bool). read_if t (get_or s 0 0) (rest s)) (eq-eqb (get_or s 0 0) 45 e))

pub read_plain : (s : List ℕ) (x : Option Decimal) → 0 < length s → (get_or s 0 0 ≡ 45 → ⊥) → x ≡ scanned false 0 0 0 false s
    → x ≡ read_of s
unfolding read_of
read_plain s x h e w =
    w ∙ ap (scanned false 0 0 0 false) (uncons s h) ∙ sym (ap read_of (uncons s h)
    ∙ ap (λ (t : Bool). read_if t (get_or s 0 0) (rest s)) (ne_eqb (get_or s 0 0) 45 e))

-- ---- the loop over the digits

-- what was read and what is left stand for what s does
pub record Scanned (minus : Bool) (s t : List ℕ) (d n f : ℕ) (p : Bool) : Type 0 where
  pub same : scanned minus d n f p t ≡ scanned minus 0 0 0 false s
  pub most : n ≤ 15
  pub few : f ≤ n
  pub small : d < 10 ^ n
  pub bound : d < digits_end

pub begun : (minus : Bool) (s : List ℕ) → Scanned minus s s 0 0 0 false
begun minus s = record { same = refl; most = omega arith; few = omega arith; small = lit< tt; bound = lit< tt }

pub next : {minus : Bool} {s t : List ℕ} {d n f : ℕ} {p : Bool} (v g : ℕ) → Scanned minus s t d n f p → 0 < length t
    → v ≡ figure_of (get_or t 0 0) → v < 10 → n < 15 → g ≡ counted p f → g ≤ f + 1
    → Scanned minus s (rest t) (d * 10 + v) (n + 1) g p
next {minus} {s} {t} {d} {n} {f} {p} v g i h w k l e m = record {
  same = ap (λ (x : ℕ). scanned minus (d * 10 + v) (n + 1) x p (rest t)) e
      ∙ sym (scan_digit minus d n f p t v h w k l) ∙ i.same;
  most = omega arith;
  few = let a = i.few in omega arith;
  small = grown d n v i.small k;
  bound = within (d * 10 + v) (n + 1) (grown d n v i.small k) (omega arith);
}

pub pointed : {minus : Bool} {s t : List ℕ} {d n f : ℕ} {p : Bool} (v : ℕ) → Scanned minus s t d n f p → 0 < length t
    → v ≡ figure_of (get_or t 0 0) → 10 ≤ v → get_or t 0 0 ≡ 46 → p ≡ false
    → Scanned minus s (rest t) d n f true
pointed {minus} {s} {t} {d} {n} {f} {p} v i h w k e q =
    record {
      same = sym (scan_point minus d n f p t v h w k e q) ∙ i.same;
      most = i.most;
      few = i.few;
      small =
          i.small;
      bound = i.bound;
    }

pub told : {minus : Bool} {s t : List ℕ} {d n f : ℕ} {p : Bool} {x : Option Decimal} → Scanned minus s t d n f p
    → x ≡ ended_of minus d n f t → scanned minus d n f p t ≡ ended_of minus d n f t → x ≡ scanned minus 0 0 0 false s
told i e h = e ∙ sym h ∙ i.same

-- a flag counted as 0 or 1
pub counts : (p : Bool) (f : ℕ) {x : ℕ} → x ≡ bool_byte p → f + x ≡ counted p f
counts true f e = ap (λ (y : ℕ). f + y) e
counts false f e = omega (arith, e)

pub within_one : (p : Bool) (f : ℕ) {x : ℕ} → x ≡ bool_byte p → f + x ≤ f + 1
within_one true f e = omega arith
within_one false f e = omega arith

-- ---- the word

pub word_some : (s : List ℕ) {y : Decimal} {w : ℕ} → Some y ≡ read_of s → w ≡ word_of y.minus y.digits y.power
    → Some w ≡ word_read s
unfolding word_read
word_some s e h = ap (λ (v : ℕ). Some v) h ∙ ap read_as e

pub word_none : (s : List ℕ) {x : Option ℕ} → x ≡ None → None ≡ read_of s → x ≡ word_read s
unfolding word_read
word_none s e h = e ∙ ap read_as h
