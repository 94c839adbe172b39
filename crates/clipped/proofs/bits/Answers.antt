-- A float that is equal to itself has a value.
use mathlib.Core.Path.{◌≡◌, refl, sym, ap, ◌∙◌}
use mathlib.Core.Bool.{Bool, true, false, not, cond, ◌&&◌}
use Prim.Native.Nat.{◌*◌}
use borrow.Author.Tests.{eq-eqb}
use lib.Ieee.{Float, nan, inf, fin, binary64, to_bits, eq, is_nan, up, down}
use Rattle.clipped.specs.Clipped.{bits_of}
use Rattle.clipped.proofs.bits.Goals as goal

equals : (x : Float) → eq x x ≡ not (is_nan x)
unfolding eq is_nan
equals nan = refl
equals (inf true) = refl
equals (inf false) = refl
equals (fin true m e) = ap (λ (b : Bool). b && true) (eq-eqb (m * up e * down e) _ refl)
equals (fin false m e) = ap (λ (b : Bool). b && true) (eq-eqb (m * up e * down e) _ refl)

by_test : (x : Float) {t : Bool} → t ≡ is_nan x → cond (not t) (to_bits binary64 x) 0 ≡ bits_of x
unfolding bits_of
by_test x e = ap (λ (b : Bool). cond b (to_bits binary64 x) 0) (ap not e ∙ sym (equals x))

pub returns-then-is_nan : goal.returns-then-is_nan
returns-then-is_nan c = by_test c.args.x (sym c.if-is_nan.true ∙ c.is_nan.ensures.value)

pub returns-else-is_nan : goal.returns-else-is_nan
returns-else-is_nan c = by_test c.args.x (sym c.if-is_nan.false ∙ c.is_nan.ensures.value)
