-- A value times an exponential, shifted down, against the floor that the rule asks for: equal as far as the limit goes.
use mathlib.Core.Path.{◌≡◌, refl, sym, ap, ap₂, ◌∙◌}
use mathlib.Core.Logic.{◌⊎◌, inl, inr}
use Prim.Native.Nat.{ℕ, suc, ◌+◌, ◌-◌, ◌*◌, ◌/◌, ◌^◌, ◌≤◌, ◌<◌}
use native.Mathlib.Nat.{mul-le-mul, pow-le-pow_right, le-mul_of_pos_right, one-le-pow, div-eq_of_lt, div-le_self}
use native.Mathlib.Nat.{zero-mul}
use native.Mathlib.Omega.{arith}
use lib.Dec.{ltb, lit<}
use lib.IntN.{ℤ, pos, sub_ℕ, ◌+ℤ◌, ◌-ℤ◌}
use borrow.Author.Tests.{lt-ltb}
use Rattle.octave.specs.OfWhole.Scale.{floor_scale, held_at, reaches, stays_below, held_within, scale_up, scale_down}
use Rattle.octave.specs.OfWhole.laws.Biased.{sub_up, sub_eq, sub_add, below_or_not}
use Rattle.octave.specs.OfVolts.Volts.{span}
use Rattle.float.specs.declared.Split.{Split}
use Rattle.float.specs.Split.{split_bias, IsSplit}
use Rattle.octave.specs.declared.Exponential.{Exponential}
use Rattle.octave.specs.Table.{places}
use Rattle.octave.specs.Position.{octave_from}
use Rattle.octave.specs.Exponential.{bias, exponential_of}
use Rattle.octave.specs.laws.Places.{exponential_mantissa, exponent_is}
use Rattle.scaling.specs.Scaled.{Scaled, value_at, exp_of, times, whole_number, whole_ticks, whole_parts, tick_limit}
use Rattle.scaling.specs.Scaled.{ratio_limit}
use Rattle.scaling.specs.inner.Shifts.{alone_of, through_of, exp_at}
use Rattle.scaling.specs.inner.Shifts.{UpTo, Sized, scaled_of, more_parts}

-- ---- numbers up to a limit

pub upto_equal : {limit x t : ℕ} → x ≡ t → x < 2 ^ 62 → UpTo limit x t
upto_equal {limit} e h = record { above = ap (ltb limit) e; same = λ k. e; small = h }

pub upto_zero : {limit : ℕ} → UpTo limit 0 0
upto_zero = upto_equal refl (lit< tt)

-- both above
pub upto_above : {limit x t : ℕ} → limit < x → limit < t → x < 2 ^ 62 → UpTo limit x t
upto_above {limit} {x} {t} h k l =
    record { above = lt-ltb limit x h ∙ sym (lt-ltb limit t k); same = λ q. absurd (omega arith); small = l }

-- a number held at the first one above the limit
pub upto_held : (limit t : ℕ) → limit < 2 ^ 60 → UpTo limit (held_at (suc limit) t) t
upto_held limit t h = go (below_or_not t (suc limit))
  where
    go : (t < suc limit) ⊎ (suc limit ≤ t) → UpTo limit (held_at (suc limit) t) t
    go (inl k) = upto_equal (stays_below (suc limit) t k) (omega (arith, held_within (suc limit) t))
    go (inr k) = rw (reaches (suc limit) t k) (upto_above (omega arith) (omega arith) (omega arith))

-- ---- shifting

-- a product: nothing, or large
pub record Product (x : ℕ) : Type 0 where
  pub large : (x ≡ 0) ⊎ (2 ^ 60 ≤ x)
  pub small : x < 2 ^ 62

pub product : {s : Split} {g : Exponential} → IsSplit s → Sized g → Product (s.a * g.m)
product {s} {g} i z = record { large = go (below_or_not 0 s.a); small = few }
  where
    go : (0 < s.a) ⊎ (s.a ≤ 0) → (s.a * g.m ≡ 0) ⊎ (2 ^ 60 ≤ s.a * g.m)
    go (inl h) = let m = mul-le-mul (i.full h) z.digits.low in inr (omega arith)
    go (inr h) = let e : s.a ≡ 0 = omega arith in inl (rw e (zero-mul g.m))

    few : s.a * g.m < 2 ^ 62
    few =
        let a : s.a ≤ 2147483647 = let k = i.short in omega arith in
        let m = mul-le-mul a z.digits.high in omega arith

-- shifted down by d - n places it is x * 2^(n - d) as far as a limit goes
pub shifted : {limit x : ℕ} (n d : ℕ) → Product x → limit < 2 ^ 60
    → UpTo limit (x / 2 ^ (d - n)) (floor_scale x (sub_ℕ n d))
shifted {limit} {x} n d p h = go (below_or_not n d)
  where
    less : x / 2 ^ (d - n) < 2 ^ 62
    less = let k = p.small in let l = div-le_self x (2 ^ (d - n)) in omega arith

    whole : d ≤ n → x / 2 ^ (d - n) ≡ x
    whole k = let e : d - n ≡ 0 = omega arith in rw e (omega arith)

    up : d ≤ n → (x ≡ 0) ⊎ (2 ^ 60 ≤ x) → UpTo limit (x / 2 ^ (d - n)) (floor_scale x (sub_ℕ n d))
    up k (inl z) =
        upto_equal (whole k ∙ z ∙ sym (scale_up x n d k ∙ ap (λ (y : ℕ). y * 2 ^ (n - d)) z ∙ zero-mul (2 ^ (n - d))))
        less
    up k (inr l) =
        let m = le-mul_of_pos_right {m = 2 ^ (n - d)} x (one-le-pow (n - d) 2 (lit< tt)) in
        let e = whole k in
        let s = scale_up x n d k in
        upto_above (omega arith) (omega arith) less

    go : (n < d) ⊎ (d ≤ n) → UpTo limit (x / 2 ^ (d - n)) (floor_scale x (sub_ℕ n d))
    go (inl k) = upto_equal (sym (scale_down x n d k)) less
    go (inr k) = up k p.large

-- nothing is left where the shift is far enough
pub none_left : {s : Split} {g : Exponential} (more : ℕ) → IsSplit s → Sized g → g.n + 63 ≤ s.down
    → 0 ≡ scaled_of s g more
none_left {s} {g} more i z h =
    let p = (product i z).small in
    let w = pow-le-pow_right {n = 2} (lit< tt) {i = 63} {j = s.down + more - g.n} (omega arith) in
    sym (div-eq_of_lt (omega arith))

-- ---- the powers that code and definitions have

as_sub : (k : ℕ) → pos k ≡ sub_ℕ k 0
as_sub k = ap pos (let e : k ≡ k - 0 = omega arith in e) ∙ sym (sub_up k 0 (omega arith))

alone_power : (down : ℕ) → sub_ℕ split_bias down +ℤ pos 50 ≡ sub_ℕ (split_bias + 50) down
alone_power down =
    ap (λ (z : ℤ). sub_ℕ split_bias down +ℤ z) (as_sub 50) ∙ sub_add split_bias down 50 0
    ∙ sub_eq (split_bias + 50) (down + 0) (split_bias + 50) down (omega arith)

-- b + (n - 30) + k, of a value and an exponential: the biases leave what is shifted more
joined : (down n k more : ℕ) → k + more ≡ 50
    → sub_ℕ split_bias down +ℤ sub_ℕ n (bias + places) +ℤ pos k ≡ sub_ℕ n (down + more)
joined down n k more e =
    ap (λ (z : ℤ). z +ℤ pos k) (sub_add split_bias down n (bias + places))
    ∙ ap (λ (z : ℤ). sub_ℕ (split_bias + n) (down + (bias + places)) +ℤ z) (as_sub k)
    ∙ sub_add (split_bias + n) (down + (bias + places)) k 0
    ∙ sub_eq (split_bias + n + k) (down + (bias + places) + 0) n (down + more) (omega arith)

module _ {s : Split} {g : Exponential} (i : IsSplit s) (z : Sized g) where
  -- ticks
  pub ticks_upto : UpTo tick_limit (scaled_of s g 0) (whole_ticks (times (value_at s) (exp_at g)))
  unfolding exp_at
  ticks_upto =
      rw (joined s.down g.n 50 0 refl) (shifted g.n (s.down + 0) (product i z) (lit< tt))

  -- and a ratio's parts
  pub parts_upto : UpTo ratio_limit (scaled_of s g more_parts) (whole_parts (times (value_at s) (exp_at g)))
  unfolding exp_at
  parts_upto =
      rw (joined s.down g.n 20 30 refl) (shifted g.n (s.down + 30) (product i z) (lit< tt))

-- T by itself
pub alone_is : (x : Split) → held_at (suc tick_limit) (floor_scale x.a (sub_ℕ (split_bias + 50) x.down)) ≡ alone_of x
alone_is x = ap (λ (z : ℤ). held_at (suc tick_limit) (floor_scale x.a z)) (sym (alone_power x.down))

pub through_upto : (x : Split) (d : ℕ) → UpTo tick_limit (through_of x d) (whole_ticks (times (value_at x) (whole_number d)))
through_upto x d = upto_held tick_limit (whole_ticks (times (value_at x) (whole_number d))) (lit< tt)

pub alone_upto : (x : Split) → UpTo tick_limit (alone_of x) (whole_ticks (value_at x))
alone_upto x = upto_held tick_limit (whole_ticks (value_at x)) (lit< tt)

-- ---- what the code has of an exponential is that exponential

less_places : (n : ℕ) → sub_ℕ n (bias + places) ≡ sub_ℕ n bias -ℤ pos places
less_places n = sub_eq n (bias + places) (n + 0) (bias + places) (omega arith) ∙ sym (sub_add n bias 0 places)

pub exponential_is : (u w : ℕ) → octave_from ≤ w → exp_at (exponential_of (sub_ℕ u span) w) ≡ exp_of (sub_ℕ u span) w
unfolding exp_at exp_of
exponential_is u w h =
    ap₂ scaled (exponential_mantissa (sub_ℕ u span) w)
    (less_places (exponential_of (sub_ℕ u span) w).n ∙ ap (λ (z : ℤ). z -ℤ pos places) (exponent_is u w h))
  where
    scaled : ℕ → ℤ → Scaled
    scaled d p = record { digits = d; power = p }
