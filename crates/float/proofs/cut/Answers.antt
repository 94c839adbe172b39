-- x is what its bits are read as, field by field.
use mathlib.Core.Path.{◌≡◌, refl, sym, ap, subst, ◌∙◌}
use mathlib.Core.Bool.{Bool, true, false}
use Prim.Native.Nat.{ℕ, zero, suc, ◌+◌, ◌-◌, ◌/◌, ◌^◌, ◌<◌}
use native.Mathlib.Omega.{arith}
use lib.Dec.{T}
use lib.IntN.{negsuc}
use lib.Ieee.{Float, nan, inf, fin, binary64, fits, of_fields}
use lib.Ieee.Scale.{finite}
use Rattle.float.specs.declared.Split.{Split}
use Rattle.float.specs.Split.{split_of}
use Rattle.float.proofs.Words.{finite_no_nan}
use Rattle.float.proofs.Units.{odd_split, plain_split, led_units, led_value, unled_value}
use Rattle.float.proofs.Kept.{read_back}
use Rattle.float.proofs.cut.Goals as goal

low : (x : Float) (s : Bool) (d n : ℕ) (r : Split) → of_fields binary64 s d n ≡ x → d ≡ 0 → n < 2 ^ 52
    → r ≡ split_of (fin false n (negsuc 1073)) → r ≡ split_of x
low x s d n r e z l h =
    h ∙ plain_split n (omega arith) ∙ sym (odd_split s n 0 (omega arith) (omega arith))
    ∙ ap split_of (sym (unled_value s n) ∙ ap (λ (k : ℕ). of_fields binary64 s k n) (sym z) ∙ e)

high : (x : Float) (s : Bool) (d n : ℕ) → of_fields binary64 s d n ≡ x → (d ≡ 0 → ⊥) → n < 2 ^ 52 → d < 2048
    → T (finite x)
    → record { a = (2 ^ 52 + n) / 2 ^ 22; down = 9225 - d } ≡ split_of x
high x s zero n e z l k f = absurd (z refl)
high x s (suc j) n e z l k f =
    sym (led_units n j l) ∙ sym (odd_split s (2 ^ 52 + n) j (omega arith) (omega arith))
    ∙ ap split_of (sym (led_value s j n (subst (λ (y : Float). T (finite y)) (sym e) f)) ∙ e)

yes : {b : Bool} → b ≡ true → T b
yes e = subst T (sym e) tt

pub float_to_bits-bits : goal.float_to_bits-bits
float_to_bits-bits c = finite_no_nan c.args.x (yes (sym c.is_finite.ensures ∙ c.if-is_finite.true))

pub returns-then-field-eq0 : goal.returns-then-field-eq0
returns-then-field-eq0 c =
    low _ _ _ _ _ (read_back _ (yes c.well_formed.0.1)) c.if-field-eq0.true (omega arith) c.cut_small.ensures

pub returns-then-is_finite : goal.returns-then-is_finite
returns-then-is_finite c =
    high _ _ _ _ (read_back _ (yes c.well_formed.0.1)) c.if-field-eq0.false (omega arith) (omega arith)
    (yes (sym c.is_finite.ensures ∙ c.if-is_finite.true))
