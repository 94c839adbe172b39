-- A list filled place by place as long as nothing is turned away, and what a test of a whole list then says.
use mathlib.Core.Path.{◌≡◌, refl, sym, ap, subst, ◌∙◌}
use mathlib.Core.Bool.{Bool, true, false, cond, not, ◌||◌}
use mathlib.Core.List.{List, [], ◌∷◌}
use mathlib.Core.Logic.{◌⊎◌, inl, inr}
use Prim.Native.Nat.{ℕ, zero, suc, ◌+◌, ◌≤◌, ◌<◌}
use native.Mathlib.Omega.{arith}
use lib.ListN.{length, get_or, set, replicate}
use lib.IntN.{ℤ, pos, ◌+ℤ◌, ◌-ℤ◌}
use mir.Syntax.{w64}
use mir.Val.{SFits}
use Rattle.whole.specs.laws.Biased.{below_or_not}
use Rattle.whole.specs.laws.Machine.{held}
use Rattle.refusal.specs.Clash.{clash}
use Rattle.volts.specs.Volts.{off_volts, kept_as}
use Rattle.deck.specs.OfRows.laws.Filled.{Filled, filled_more, filled_all, filled_map}
use Rattle.given.specs.OfTotals.Gives.{nodes_most}
use Rattle.given.specs.OfTotals.Flow.{with_more}
use Rattle.given.specs.Lists.{any_of}
use Rattle.deck.specs.laws.Ups.{length_up, get_or_up}
use Rattle.std.specs.Prelude.{Option, Some, None, Result, Ok}
use Rattle.refusal.specs.declared.Refusal.{Refusal}
use Rattle.slices.specs.Slices.{kept_volts}
use Rattle.slices.specs.Slices.{outside64, some_outside, standing_at, changed, stood, StandsIn}
use Rattle.slices.proofs.Fitting.{inside_held, same_stands}

-- ---- while it is filled

-- none of the first k places was turned away
pub record AllOn (off : ℕ → Bool) (k : ℕ) : Type 0 where
  pub each : (i : ℕ) → i < k → off i ≡ false

pub on_more : {off : ℕ → Bool} {k : ℕ} → off k ≡ false → AllOn off k → AllOn off (k + 1)
on_more {off} {k} o s = record { each = λ i q. go i q (below_or_not i k) }
  where
    go : (i : ℕ) → i < k + 1 → (i < k) ⊎ (k ≤ i) → off i ≡ false
    go i q (inl b) = s.each i b
    go i q (inr b) = let same : i ≡ k = omega arith in rw same o

-- that, and these places hold f
pub record Passing {A : Type 0} (d : A) (n : ℕ) (off : ℕ → Bool) (f : ℕ → A) (k : ℕ) (r : List A) : Type 0 where
  pub filled : Filled d n f k r
  pub on : AllOn off k

module _ {A : Type 0} {d : A} {n : ℕ} {off : ℕ → Bool} {f : ℕ → A} where
  pub passing_more : {r : List A} {k : ℕ} (v : A) → k < n → v ≡ f k → off k ≡ false → Passing d n off f k r →
      Passing d n off f (k + 1) (set r k v)
  passing_more v h e o s = record { filled = filled_more v h e s.filled; on = on_more o s.on }

-- ---- a test of a whole list

pub none_passes : {A : Type 0} (p : A → Bool) (d : A) (l : List A) →
    ((i : ℕ) → i < length l → p (get_or l i d) ≡ false) → any_of p l ≡ false
unfolding any_of
none_passes p d [] h = refl
none_passes p d (a ∷ l) h = rw (h 0 (omega arith)) (none_passes p d l (λ i q. h (suc i) (omega arith)))

or_true : (a : Bool) {b : Bool} → b ≡ true → a || b ≡ true
or_true true e = refl
or_true false e = e

one_passes : {A : Type 0} (p : A → Bool) (d : A) (l : List A) (k : ℕ) → k < length l → p (get_or l k d) ≡ true →
    any_of p l ≡ true
unfolding any_of
one_passes p d [] k h e = absurd (omega arith)
one_passes p d (a ∷ l) zero h e = rw e
one_passes p d (a ∷ l) (suc k) h e = or_true (p a) (one_passes p d l k (omega arith) e)

-- ---- voltages kept

abbrev pub off_at : List ℤ → ℕ → Bool
off_at volts i = off_volts (get_or volts i (pos 0))

abbrev pub kept_at : List ℤ → ℕ → ℕ
kept_at volts i = kept_as (get_or volts i (pos 0))

module _ (volts : List ℤ) (long : length volts ≡ nodes_most) where
  -- all of them in range, or one of them out of it
  pub all_on : {k : ℕ} → nodes_most ≤ k → AllOn (off_at volts) k → true ≡ not (any_of off_volts volts)
  all_on h on = rw (none_passes off_volts (pos 0) volts (λ i q. on.each i (omega arith)))

  pub one_off : (k : ℕ) → k < nodes_most → off_at volts k ≡ true → false ≡ not (any_of off_volts volts)
  one_off k h e = rw (one_passes off_volts (pos 0) volts k (omega arith) e)

  pub kept_all : {k : ℕ} {r : List ℕ} → nodes_most ≤ k → Passing 0 nodes_most (off_at volts) (kept_at volts) k r →
      Some r ≡ kept_volts volts
  kept_all h s =
      rw (none_passes off_volts (pos 0) volts (λ i q. s.on.each i (omega arith)))
      (ap Some (filled_map kept_as (pos 0) volts long h s.filled))

  pub kept_none : (k : ℕ) → k < nodes_most → off_at volts k ≡ true → None ≡ kept_volts volts
  kept_none k h e = rw (one_passes off_volts (pos 0) volts k (omega arith) e)

-- ---- totals that would stand

-- as many with more at each node
pub more_long : (l : List ℤ) (f : ℕ → ℤ) → length (with_more l f) ≡ nodes_most
unfolding with_more
more_long l f = length_up (λ (n : ℕ). get_or l n (pos 0) +ℤ f n) nodes_most 0

module _ (totals coming going : List ℤ) where
  -- what would stand at a node
  abbrev pub would_at : ℕ → ℤ
  would_at n = get_or totals n (pos 0) +ℤ (get_or coming n (pos 0) -ℤ get_or going n (pos 0))

  abbrev pub out_at : ℕ → Bool
  out_at n = outside64 (would_at n)

  pub record StandsAt (k : ℕ) (v : ℤ) : Type 0 where
    pub is : v ≡ would_at k
    pub on : out_at k ≡ false
    pub fits : held v ≡ v

  -- from what `stand` says of one node
  pub out_by : {w : ℤ} {x : Option ℤ} (k : ℕ) → w ≡ would_at k → x ≡ standing_at w → x ≡ None → out_at k ≡ true
  out_by k p q r = go (out_at k) (sym (ap standing_at p) ∙ sym q ∙ r)
    where
      go : (out : Bool) → cond out None (Some (would_at k)) ≡ None → out ≡ true
      go true e = refl
      go false e = clash cc

  pub in_by : {w v : ℤ} {x : Option ℤ} (k : ℕ) → w ≡ would_at k → x ≡ standing_at w → x ≡ Some v → StandsAt k v
  in_by {w} {v} k p q r = go (out_at k) refl (sym (ap standing_at p) ∙ sym q ∙ r)
    where
      go : (out : Bool) → out_at k ≡ out → cond out None (Some (would_at k)) ≡ Some v → StandsAt k v
      go true o e = clash cc
      go false o e =
          let same : would_at k ≡ v = cc in
          record { is = sym same; on = o; fits = subst (λ (z : ℤ). held z ≡ z) same (inside_held (would_at k) o) }

  changed_at : (n : ℕ) → n < nodes_most → get_or (changed totals coming going) n (pos 0) ≡ would_at n
  unfolding with_more
  changed_at n h =
      let z : 0 + n ≡ n = omega arith in get_or_up would_at nodes_most 0 n (pos 0) h ∙ ap would_at z

  changed_long : length (changed totals coming going) ≡ nodes_most
  changed_long = more_long totals _

  pub stood_all : {k : ℕ} {r : List ℤ} → nodes_most ≤ k → Passing (pos 0) nodes_most out_at would_at k r →
      Some r ≡ stood totals coming going
  unfolding with_more
  stood_all {k} {r} h s =
      let long = changed_long in
      let inside = none_passes outside64 (pos 0) (changed totals coming going) (λ i q. here i (omega arith)) in
      rw inside (ap Some (filled_all h s.filled))
    where
      here : (i : ℕ) → i < nodes_most → outside64 (get_or (changed totals coming going) i (pos 0)) ≡ false
      here i q = ap outside64 (changed_at i q) ∙ s.on.each i (omega arith)

  pub stood_none : (k : ℕ) → k < nodes_most → out_at k ≡ true → None ≡ stood totals coming going
  stood_none k h e =
      let long = changed_long in
      let out =
      one_passes outside64 (pos 0) (changed totals coming going) k (omega arith) (ap outside64 (changed_at k h) ∙ e) in
      rw out

  -- as many of them, and written in place, or left
  abbrev leaves : Bool
  leaves = some_outside (changed totals coming going)

  module _ {next : List ℤ} (s : Some next ≡ stood totals coming going) where
    stood_so : (leaves ≡ false) × (next ≡ changed totals coming going)
    stood_so = go leaves refl s
      where
        go : (out : Bool) → leaves ≡ out → Some next ≡ cond out None (Some (changed totals coming going)) →
            (leaves ≡ false) × (next ≡ changed totals coming going)
        go true o e = clash cc
        go false o e = (o, cc)

    pub stands_in : {totals' : List ℤ} → totals' ≡ next → StandsIn totals coming going (Ok tt) totals'
    stands_in p = record { told = rw stood_so.0; totals_are = p ∙ stood_so.1 ∙ rw stood_so.0 }

  pub in_long : {r : Result (Unit {0}) Refusal} {totals' : List ℤ} → StandsIn totals coming going r totals' →
      length totals ≡ nodes_most → length totals' ≡ length totals
  in_long s long = ap length s.totals_are ∙ go leaves
    where
      go : (out : Bool) → length (cond out totals (changed totals coming going)) ≡ length totals
      go true = refl
      go false = changed_long ∙ sym long

-- where nothing comes and nothing goes a total stands as it is
abbrev pub none : List ℤ
none = replicate nodes_most (pos 0)

still_at : (totals : List ℤ) (i : ℕ) → SFits w64 (get_or totals i (pos 0)) →
    StandsAt totals none none i (get_or totals i (pos 0))
still_at totals i fits = in_by totals none none i refl (same_stands {coming = get_or none i (pos 0)} fits refl refl) refl

pub still_all : (totals : List ℤ) → length totals ≡ nodes_most →
    ((i : ℕ) → i < nodes_most → SFits w64 (get_or totals i (pos 0))) → StandsIn totals none none (Ok tt) totals
still_all totals long fits =
    stands_in totals none none
    (stood_all totals none none {k = nodes_most} (omega arith)
    (record {
      filled = record { long = long; at = λ i q. (still_at totals i (fits i q)).is };
      on = record { each = λ i q. (still_at totals i (fits i q)).on };
    }))
    refl
