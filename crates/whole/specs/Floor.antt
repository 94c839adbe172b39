-- Quotients rounded downward, for negative numbers too, and what such a quotient leaves.
use Rattle.std.specs.Prelude.{◌≡◌, ℕ, suc, ◌*◌, ◌-◌, ◌/◌, ◌%◌, ◌<◌, ℤ, pos, negsuc, ◌+ℤ◌, ◌*ℤ◌}
use Rattle.std.proofs.Common.{ap, ◌∙◌, div-add-mod', mod-lt, arith}
use Rattle.whole.specs.laws.Biased.{sub_down, turned}

-- the greatest whole number not above z / d: for -(a + 1) it is -(a / d + 1). A quotient by 0 is the one that ℕ has.
abbrev pub floor_div : ℤ → ℕ → ℤ
floor_div (pos a) d = pos (a / d)
floor_div (negsuc a) d = negsuc (a / d)

-- z less d times that
abbrev pub floor_mod : ℤ → ℕ → ℕ
floor_mod (pos a) d = a % d
floor_mod (negsuc a) d = d - suc (a % d)

-- what is left is at least 0 and below d, so that the quotient is the floor
pub floor_rest : (z : ℤ) (d : ℕ) → 0 < d → floor_mod z d < d
floor_rest (pos a) d h = mod-lt a h
floor_rest (negsuc a) d h = omega arith

pub floor_whole : (z : ℤ) (d : ℕ) → 0 < d → floor_div z d *ℤ pos d +ℤ pos (floor_mod z d) ≡ z
floor_whole (pos a) d h = ap pos (div-add-mod' a d)
floor_whole (negsuc a) d h =
    let r = mod-lt a h in
    let e = div-add-mod' a d in
    let m = suc (a / d) * d in
    let k : 0 < m = omega arith in
    ap (λ (z : ℤ). z +ℤ pos (d - suc (a % d))) (turned m k)
    ∙ sub_down (d - suc (a % d)) (suc (m - 1)) (omega arith)
    ∙ ap negsuc (omega arith)
