-- A total stands where it fits 64 bits, and as it is.
use Rattle.std.specs.Prelude.{◌≡◌, Some, None, Result, Ok, Err, OkIff, Bool, true, false, cond, ◌||◌, ◌-◌, ◌<◌, ℤ, pos, negsuc, ◌+ℤ◌, ◌-ℤ◌}
use Rattle.std.specs.Result.{result_ok}
use Rattle.std.proofs.Common.{refl, sym, ap, subst, ◌∙◌, arith}
use lib.Dec.{leb}
use mir.Syntax.{w64}
use mir.Val.{SFits}
use mir.ValLaws.{to_z-of_z}
use borrow.Author.Tests.{le-ltb, lt-leb, leb-false, ltb-false}
use Rattle.std.proofs.Math.IntN.{neg_ℤ, +ℤ_assoc, +ℤ-neg_ℤ_cancel}
use Rattle.refusal.specs.Clash.{clash}
use Rattle.whole.specs.Signed.{signed_span}
use Rattle.whole.specs.laws.Machine.{held}
use Rattle.slices.specs.Slices.{outside64, standing_at}

inside_fits : (z : ℤ) → outside64 z ≡ false → SFits w64 z
inside_fits (pos n) e = go (leb signed_span n) refl e
  where
    go : (t : Bool) → leb signed_span n ≡ t → t || false ≡ false → SFits w64 (pos n)
    go true p q = clash cc
    go false p q = record { sfits = leb-false signed_span n p }
inside_fits (negsuc n) e =
    let l = ltb-false (signed_span - 1) n e in
    let small : n < signed_span = omega arith in record { sfits = small }

fits_inside : (z : ℤ) → SFits w64 z → outside64 z ≡ false
fits_inside (pos n) h = ap (λ (t : Bool). t || false) (lt-leb signed_span n h.sfits)
fits_inside (negsuc n) h = let k : n < signed_span = h.sfits in le-ltb (signed_span - 1) n (omega arith)

-- what is not outside is held as it is
pub inside_held : (z : ℤ) → outside64 z ≡ false → held z ≡ z
inside_held z e = to_z-of_z w64 z (inside_fits z e)

-- what the conversion of a total gives is what stands
pub converted : {E : Type 0} (z : ℤ) {w : ℤ} (r : Result ℤ E) → w ≡ z → OkIff r (SFits w64 w) w → result_ok r ≡ standing_at z
converted {E} z {w} r e h = subst (λ (v : ℤ). result_ok r ≡ standing_at v) e (go r h)
  where
    go : (r : Result ℤ E) → OkIff r (SFits w64 w) w → result_ok r ≡ standing_at w
    go (Ok x) h = ap Some h.1 ∙ ap (λ (out : Bool). cond out None (Some w)) (sym (fits_inside w h.0))
    go (Err e) h = off (outside64 w) refl
      where
        off : (t : Bool) → outside64 w ≡ t → None ≡ cond t None (Some w)
        off true p = refl
        off false p = absurd (h (inside_fits w p))

-- where as much comes in as goes out, the total stands as it is
pub same_stands : {r total coming going : ℤ} → SFits w64 total → coming ≡ going → r ≡ total →
    Some r ≡ standing_at (total +ℤ (coming -ℤ going))
same_stands {r} {total} {coming} {going} h e p =
    let still : total +ℤ (coming -ℤ going) ≡ total = ap (λ (z : ℤ). total +ℤ (z -ℤ going)) e
    ∙ sym (+ℤ_assoc total going (neg_ℤ going)) ∙ +ℤ-neg_ℤ_cancel total going in
    rw still (ap Some p ∙ ap (λ (out : Bool). cond out None (Some total)) (sym (fits_inside total h)))
