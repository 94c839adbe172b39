-- A whole number times a power of two, rounded downward, and a number held at a limit.
use Rattle.std.specs.Prelude.{◌≡◌, cond, ◌⊎◌, ℕ, suc, ◌*◌, ◌-◌, ◌/◌, ◌^◌, ◌≤◌, ◌<◌, leb, ℤ, pos, negsuc}
use Rattle.std.proofs.Common.{ap, ◌∙◌, inl, inr, arith, le-leb}
use Rattle.std.proofs.Math.IntN.{sub_ℕ}
use Rattle.std.proofs.lemmas.Bool.{lt-leb}
use Rattle.whole.specs.laws.Biased.{sub_up, sub_down, below_or_not}

-- the greatest whole number not above x * 2^e
abbrev pub floor_scale : ℕ → ℤ → ℕ
floor_scale x (pos e) = x * 2 ^ e
floor_scale x (negsuc e) = x / 2 ^ suc e

-- t, or `over` where t reaches it: `over` is the first number that is too much
unfoldable pub held_at : ℕ → ℕ → ℕ
held_at over t = cond (leb over t) over t

pub reaches : (over t : ℕ) → over ≤ t → held_at over t ≡ over
unfolding held_at
reaches over t h = rw (le-leb over t h)

pub stays_below : (over t : ℕ) → t < over → held_at over t ≡ t
unfolding held_at
stays_below over t h = rw (lt-leb over t h)

-- never above it, and nothing stays nothing
pub held_within : (over t : ℕ) → held_at over t ≤ over
held_within over t = split (below_or_not t over)
  where
    split : (t < over) ⊎ (over ≤ t) → held_at over t ≤ over
    split (inl h) = omega (arith, stays_below over t h)
    split (inr h) = omega (arith, reaches over t h)

pub held_none : (over : ℕ) → held_at over 0 ≡ 0
held_none over = split (below_or_not 0 over)
  where
    split : (0 < over) ⊎ (over ≤ 0) → held_at over 0 ≡ 0
    split (inl h) = stays_below over 0 h
    split (inr h) = let e : over ≡ 0 = omega arith in reaches over 0 h ∙ e

pub scale_up : (x up down : ℕ) → down ≤ up → floor_scale x (sub_ℕ up down) ≡ x * 2 ^ (up - down)
scale_up x up down h = ap (floor_scale x) (sub_up up down h)

pub scale_down : (x up down : ℕ) → up < down → floor_scale x (sub_ℕ up down) ≡ x / 2 ^ (down - up)
scale_down x up down h = ap (floor_scale x) (sub_down up down h) ∙ ap (λ (n : ℕ). x / 2 ^ n) (omega arith)
