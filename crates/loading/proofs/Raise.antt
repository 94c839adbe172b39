-- A finite number that clipping keeps at or above a limit that is above zero.
use mathlib.Core.Path.{◌≡◌, refl, sym, ap, subst, ◌∙◌}
use mathlib.Core.Bool.{Bool, true, false, cond}
use Prim.Native.Nat.{◌+◌, ◌*◌, ◌<◌}
use native.Mathlib.Nat.{mul-pos, le_refl}
use native.Mathlib.Omega.{arith}
use lib.Dec.{T, lt→ltb, ltb→lt}
use lib.IntN.{pos}
use lib.Ieee.{Float, nan, inf, fin, of_bits, lt, le, eq, up, down}
use lib.Ieee.Fits.{up_pos, down_pos}
use lib.Ieee.Positive.{positive, cross→le, first_pos, num, den}
use lib.Ieee.Scale.{finite}
use borrow.Author.Tests.{ltb-false, ne_eqb}
use Rattle.working.specs.OfClip.limits.Rule.TheVariants.{AtLeast}
use Rattle.working.specs.OfClip.Limits.{zero, plain_of, clip_to}

pub zero_is : zero ≡ fin false 0 (pos 0)
unfolding of_bits
zero_is = refl

pub record Raised (low v : Float) : Type 0 where
  pub number : T (positive v)
  pub reached : T (le low v)

-- what is not below the limit
kept : (low x : Float) → T (positive low) → T (finite x) → lt x low ≡ false → Raised low x
unfolding lt
kept nan x p f h = absurd p
kept (inf s) x p f h = absurd p
kept (fin true m d) x p f h = absurd p
kept (fin false m d) nan p f h = absurd f
kept (fin false m d) (inf s) p f h = absurd f
kept (fin false m d) (fin true n e) p f h =
    let l = ltb-false 0 (n * up e * down d + m * up d * down e) h in
    let o = mul-pos (mul-pos (ltb→lt 0 m p) (up_pos d)) (down_pos e) in absurd (omega arith)
kept (fin false m d) (fin false n e) p f h =
    let l = ltb-false (n * up e * down d) (m * up d * down e) h in
    let o = mul-pos (mul-pos (ltb→lt 0 m p) (up_pos d)) (down_pos e) in
    let a : 0 < n * up e * down d = omega arith in
    let q = lt→ltb 0 n (first_pos n (up e) (first_pos (n * up e) (down d) a)) in
    record { number = q; reached = cross→le (fin false m d) (fin false n e) p q l }

itself : (low : Float) → T (positive low) → Raised low low
itself low p = record { number = p; reached = cross→le low low p p (le_refl (num low * den low)) }

no_zero : (v : Float) → T (positive v) → eq v (fin false 0 (pos 0)) ≡ false
unfolding eq
no_zero nan p = absurd p
no_zero (inf s) p = absurd p
no_zero (fin true m e) p = absurd p
no_zero (fin false m e) p =
    let o = mul-pos (ltb→lt 0 m p) (up_pos e) in
    let n : m * up e * 1 ≡ 0 * 1 * down e → ⊥ = λ z. omega arith in rw (ne_eqb (m * up e * 1) (0 * 1 * down e) n)

plain_positive : (v : Float) → T (positive v) → plain_of v ≡ v
plain_positive v p = ap (λ (b : Bool). cond b zero v) (ap (eq v) zero_is ∙ no_zero v p)

pub raised : (low x : Float) → T (positive low) → T (finite x) → Raised low (clip_to (AtLeast low) x)
raised low x p f = of (lt x low) refl
  where
    plainly : (v : Float) → Raised low v → Raised low (plain_of v)
    plainly v r = subst (Raised low) (sym (plain_positive v r.number)) r

    of : (b : Bool) → lt x low ≡ b → Raised low (plain_of (cond b low x))
    of true e = plainly low (itself low p)
    of false e = plainly x (kept low x p f e)
