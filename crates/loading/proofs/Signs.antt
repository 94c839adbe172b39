-- Signs through the operations: what has no minus sign keeps none in a product, a quotient, and what is left of more.
use mathlib.Core.Path.{◌≡◌, refl, sym, ap, subst, ◌∙◌}
use mathlib.Core.Bool.{Bool, true, false, not, cond, ◌&&◌, ◌||◌}
use Prim.Native.Nat.{ℕ, zero, suc, ◌+◌, ◌-◌, ◌*◌, ◌/◌, ◌%◌, ◌^◌, ◌≤◌, ◌<◌, compare}
use native.Mathlib.Nat.{mul-pos, zero-mul, eq-zero-or-pos}
use native.Mathlib.Omega.{arith}
use mathlib.Core.Logic.{◌⊎◌, inl, inr}
use lib.Dec.{T, ltb, eqb}
use lib.IntN.{pos}
use lib.Ieee.{Float, nan, inf, fin, Format, prec, emax, low, size, nearest, of_bits, up, down, odd, units, round, sum}
use lib.Ieee.{sub, mul, div, lt, eq}
use lib.Ieee.Fits.{up_pos, down_pos}
use lib.Ieee.Scale.{finite}
use borrow.Author.Tests.{ltb-false, eq-eqb}
use Rattle.working.specs.OfClip.limits.Rule.TheVariants.{AtLeast, Between}
use Rattle.working.specs.OfClip.Limits as limits
use Rattle.working.specs.OfClip.Limits.{plain_of, clip_to}
use Rattle.loading.specs.laws.Sign.{unsigned}
use Rattle.loading.proofs.Raise.{zero_is}

-- a finite number without a minus sign
abbrev pub plus : Float → Bool
plus nan = false
plus (inf s) = false
plus (fin s m e) = not s

pub plus_unsigned : (x : Float) → T (plus x) → T (unsigned x)
plus_unsigned nan p = absurd p
plus_unsigned (inf s) p = absurd p
plus_unsigned (fin s m e) p = p

-- ---- the operations
pub cond_unsigned : (b : Bool) (x y : Float) → T (unsigned x) → T (unsigned y) → T (unsigned (cond b x y))
cond_unsigned true x y p q = p
cond_unsigned false x y p q = q

odd_unsigned : (d q k l : ℕ) → T (unsigned (odd d false q k l))
unfolding odd
odd_unsigned d zero k l = tt
odd_unsigned d (suc q) k l = tt

units_unsigned : (f : Format) (q k : ℕ) → T (unsigned (units f false q k))
unfolding units
units_unsigned f q k =
    cond_unsigned (ltb (q * 2 ^ k) (2 ^ (low f + suc (emax f)))) (odd (suc (prec f)) false q k (low f)) (inf false)
    (odd_unsigned (suc (prec f)) q k (low f)) tt

pub round_unsigned : (f : Format) (a b : ℕ) → T (unsigned (round f false a b))
unfolding round
round_unsigned f a b =
    let n = a * 2 ^ low f in
    let k = size (n / b) - prec f in
    let u = b * 2 ^ k in units_unsigned f (nearest (n / u) (compare (n % u * 2) u)) k

pub mul_unsigned : (f : Format) (x y : Float) → T (unsigned x) → T (unsigned y) → T (unsigned (mul f x y))
unfolding mul
mul_unsigned f nan y p q = tt
mul_unsigned f (inf true) y p q = absurd p
mul_unsigned f (inf false) nan p q = tt
mul_unsigned f (inf false) (inf true) p q = absurd q
mul_unsigned f (inf false) (inf false) p q = tt
mul_unsigned f (inf false) (fin true n d) p q = absurd q
mul_unsigned f (inf false) (fin false n d) p q = cond_unsigned (eqb n 0) nan (inf false) tt tt
mul_unsigned f (fin true m e) y p q = absurd p
mul_unsigned f (fin false m e) nan p q = tt
mul_unsigned f (fin false m e) (inf true) p q = absurd q
mul_unsigned f (fin false m e) (inf false) p q = cond_unsigned (eqb m 0) nan (inf false) tt tt
mul_unsigned f (fin false m e) (fin true n d) p q = absurd q
mul_unsigned f (fin false m e) (fin false n d) p q = round_unsigned f (m * up e * (n * up d)) (down e * down d)

pub div_unsigned : (f : Format) (x y : Float) → T (unsigned x) → T (unsigned y) → T (unsigned (div f x y))
unfolding div
div_unsigned f nan y p q = tt
div_unsigned f (inf true) y p q = absurd p
div_unsigned f (fin true m e) y p q = absurd p
div_unsigned f (inf false) nan p q = tt
div_unsigned f (inf false) (inf t) p q = tt
div_unsigned f (fin false m e) nan p q = tt
div_unsigned f (fin false m e) (inf true) p q = absurd q
div_unsigned f (fin false m e) (inf false) p q = tt
div_unsigned f (inf false) (fin true n d) p q = absurd q
div_unsigned f (fin false m e) (fin true n d) p q = absurd q
div_unsigned f (inf false) (fin false n d) p q = tt
div_unsigned f (fin false m e) (fin false n d) p q =
    cond_unsigned (eqb n 0) (cond (eqb m 0) nan (inf false)) (round f false (m * up e * down d) (n * up d * down e))
    (cond_unsigned (eqb m 0) nan (inf false) tt tt)
    (round_unsigned f (m * up e * down d) (n * up d * down e))

sum_unsigned : (f : Format) (a b c : ℕ) → ltb a b ≡ false → T (unsigned (sum f false a true b c))
unfolding sum
sum_unsigned f a b c h = rw h (round_unsigned f (a - b) c)

pub sub_unsigned : (f : Format) (x y : Float) → T (plus x) → T (plus y) → lt x y ≡ false → T (unsigned (sub f x y))
unfolding sub lt
sub_unsigned f nan y p q h = absurd p
sub_unsigned f (inf s) y p q h = absurd p
sub_unsigned f (fin true m e) y p q h = absurd p
sub_unsigned f (fin false m e) nan p q h = absurd q
sub_unsigned f (fin false m e) (inf s) p q h = absurd q
sub_unsigned f (fin false m e) (fin true n d) p q h = absurd q
sub_unsigned f (fin false m e) (fin false n d) p q h =
    sum_unsigned f (m * up e * down d) (n * up d * down e) (down e * down d) h

-- ---- the clip rules
cond_plus : (b : Bool) (x y : Float) → T (plus x) → T (plus y) → T (plus (cond b x y))
cond_plus true x y p q = p
cond_plus false x y p q = q

pub zero_plus : T (plus limits.zero)
unfolding of_bits
zero_plus = tt

plain_plus : (x : Float) → T (plus x) → T (plus (plain_of x))
plain_plus x p = cond_plus (eq x limits.zero) limits.zero x zero_plus p

-- a number that is not below one without a minus sign has none itself, or is -0
not_below : (low x : Float) → T (plus low) → T (finite x) → lt x low ≡ false
    → T (plus x) ⊎ (eq x (fin false 0 (pos 0)) ≡ true)
unfolding lt eq
not_below nan x p f h = absurd p
not_below (inf s) x p f h = absurd p
not_below (fin true m d) x p f h = absurd p
not_below (fin false m d) nan p f h = absurd f
not_below (fin false m d) (inf s) p f h = absurd f
not_below (fin false m d) (fin false n e) p f h = inl tt
not_below (fin false m d) (fin true n e) p f h =
    let l = ltb-false 0 (n * up e * down d + m * up d * down e) h in inr (minus_zero (eq-zero-or-pos n) (omega arith))
  where
    minus_zero : (n ≡ 0) ⊎ (0 < n) → n * up e * down d ≤ 0
        → (eqb (n * up e * 1) (0 * 1 * down e) && (false || eqb (n * up e * 1) 0)) ≡ true
    minus_zero (inl z) k =
        let y : n * up e ≡ 0 = ap (λ (i : ℕ). i * up e) z ∙ zero-mul (up e) in
        rw (eq-eqb (n * up e * 1) (0 * 1 * down e) (omega arith), eq-eqb (n * up e * 1) 0 (omega arith))
    minus_zero (inr o) k = let g = mul-pos (mul-pos o (up_pos e)) (down_pos d) in absurd (omega arith)

zero_plain : (x : Float) → eq x (fin false 0 (pos 0)) ≡ true → T (plus (plain_of x))
zero_plain x e = subst (λ (b : Bool). T (plus (cond b limits.zero x))) (sym (ap (eq x) zero_is ∙ e)) zero_plus

pub kept_plus : (low x : Float) → T (plus low) → T (finite x) → lt x low ≡ false → T (plus (plain_of x))
kept_plus low x p f h = elim (not_below low x p f h) [ inl q ↦ plain_plus x q | inr e ↦ zero_plain x e ]

pub least_plus : (low x : Float) → T (plus low) → T (finite x) → T (plus (clip_to (AtLeast low) x))
least_plus low x p f = of (lt x low) refl
  where
    of : (b : Bool) → lt x low ≡ b → T (plus (plain_of (cond b low x)))
    of true e = plain_plus low p
    of false e = kept_plus low x p f e

pub between_plus : (low high x : Float) → T (plus low) → T (plus high) → T (finite x)
    → T (plus (clip_to (Between low high) x))
between_plus low high x p q f = of (lt x low) refl (lt high x)
  where
    of : (b : Bool) → lt x low ≡ b → (c : Bool) → T (plus (plain_of (cond b low (cond c high x))))
    of true e c = plain_plus low p
    of false e true = plain_plus high q
    of false e false = kept_plus low x p f e
