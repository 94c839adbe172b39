-- How far one position's octave is above another's, and where it is the same, which is further along it.
use mathlib.Core.Path.{◌≡◌, sym, ap, ◌∙◌}
use Prim.Native.Nat.{ℕ, suc, ◌+◌, ◌-◌, ◌*◌, ◌/◌, ◌≤◌}
use native.Mathlib.Omega.{arith}
use lib.Dec.{leb→le}
use lib.IntN.{ℤ, pos, negsuc, ◌+ℤ◌, ◌*ℤ◌}
use lib.Signed.{◌≤ℤ◌}
use Rattle.whole.specs.Floor.{floor_div, floor_mod}
use Rattle.whole.specs.laws.Biased.{sub_up, sub_down}
use Rattle.octave.specs.Table.{parts}
use Rattle.octave.specs.Position.{nanovolts, position_of}
use Rattle.curves.proofs.Order.{product_rises, floor_rises}

-- the position never falls as the voltage rises, whatever the octave
pub position_rises : (w : ℕ) (u v : ℤ) → u ≤ℤ v → position_of u w ≤ℤ position_of v w
position_rises w u v h =
    floor_rises w (u *ℤ pos (nanovolts * parts)) (v *ℤ pos (nanovolts * parts))
    (product_rises (nanovolts * parts) u v h)

-- the position q has its octave so many above that of p, and where it is none, no fewer parts
pub record Climb (p q : ℤ) : Type 0 where
  pub octaves : ℕ
  pub wholes : floor_div q parts ≡ floor_div p parts +ℤ pos octaves
  pub along : octaves ≡ 0 → floor_mod p parts ≤ floor_mod q parts

pub climb : (p q : ℤ) → p ≤ℤ q → Climb p q
climb (pos a) (pos b) h =
    let l = leb→le a b h.le in
    record {
      octaves = b / parts - a / parts;
      wholes = ap pos (omega arith);
      along = λ (e : b / parts - a / parts ≡ 0). omega arith;
    }
climb (pos a) (negsuc b) h = absurd h.le
climb (negsuc a) (pos b) h =
    record {
      octaves = b / parts + suc (a / parts);
      wholes = sym (sub_up (b / parts + suc (a / parts)) (suc (a / parts)) (omega arith) ∙ ap pos (omega arith));
      along = λ (e : b / parts + suc (a / parts) ≡ 0). omega arith;
    }
climb (negsuc a) (negsuc b) h =
    let l = leb→le b a h.le in
    record {
      octaves = a / parts - b / parts;
      wholes = sym (sub_down (a / parts - b / parts) (suc (a / parts)) (omega arith) ∙ ap negsuc (omega arith));
      along = λ (e : a / parts - b / parts ≡ 0). omega arith;
    }
