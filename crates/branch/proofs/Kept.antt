-- The voltages of the roles, kept one after the other: all of them, or none where one is outside its range.
use mathlib.Core.Path.{◌≡◌, refl, sym, ap, subst, ◌∙◌}
use mathlib.Core.Bool.{Bool, true, false, cond, ◌||◌}
use mathlib.Core.List.{List, [], ◌∷◌, map}
use Prim.Native.Nat.{ℕ, zero, suc, ◌+◌, ◌≤◌, ◌<◌, zero-le}
use mathlib.Core.Logic.{◌⊎◌, inl, inr}
use native.Mathlib.Omega.{arith}
use lib.ListN.{length, get_or, set}
use lib.IntN.{ℤ, pos}
use Rattle.std.specs.Prelude.{Some, None}
use Rattle.refusal.specs.Clash.{clash}
use Rattle.whole.specs.laws.Biased.{below_or_not}
use Rattle.volts.specs.Volts.{span, off_volts, some_off, kept_as, given_back, AllNear}
use Rattle.volts.specs.laws.Keeping.{KeptIs, kept}
use Rattle.terms.specs.Rows.{roles}
use Rattle.rows.specs.inner.FromTerms.{list_up}
use Rattle.branch.specs.inner.Replied.{all_kept}
use Rattle.rows.specs.laws.Filled.{Filled, filled_none, filled_more, filled_all, up_map}
use Rattle.rows.proofs.Tests.{never}

-- ---- while they are kept

-- the first k are within their range, and kept
pub record KeptUp (volts : List ℤ) (k : ℕ) (r : List ℕ) : Type 0 where
  pub filled : Filled 0 roles (λ (i : ℕ). kept_as (get_or volts i (pos 0))) k r
  pub on : (i : ℕ) → i < k → off_volts (get_or volts i (pos 0)) ≡ false

pub kept_none : {volts : List ℤ} {r : List ℕ} → length r ≡ roles → KeptUp volts 0 r
kept_none h = record { filled = filled_none h; on = λ i k. absurd (omega arith) }

pub kept_more : {volts : List ℤ} {k x : ℕ} {r : List ℕ} → k < roles → KeptIs (get_or volts k (pos 0)) x →
    KeptUp volts k r → KeptUp volts (k + 1) (set r k x)
kept_more {volts} {k} {x} h is up =
    record { filled = filled_more x h is.from up.filled; on = λ i q. go i q (below_or_not i k) }
  where
    go : (i : ℕ) → i < k + 1 → (i < k) ⊎ (k ≤ i) → off_volts (get_or volts i (pos 0)) ≡ false
    go i q (inl b) = up.on i b
    go i q (inr b) = let e : i ≡ k = omega arith in rw e is.on

-- ---- whether one of a list is outside

-- two tests that are both false
record Neither (a b : Bool) : Type 0 where
  pub first : a ≡ false
  pub second : b ≡ false

neither : (a b : Bool) → a || b ≡ false → Neither a b
neither true b e = never e
neither false b e = record { first = refl; second = e }

or_true : (a : Bool) {b : Bool} → b ≡ true → a || b ≡ true
or_true true e = refl
or_true false e = e

none_off : (volts : List ℤ) → ((i : ℕ) → i < length volts → off_volts (get_or volts i (pos 0)) ≡ false) →
    some_off volts ≡ false
none_off [] h = refl
none_off (v ∷ volts) h = rw (h 0 (omega arith)) (none_off volts (λ i q. h (suc i) (omega arith)))

one_off : (volts : List ℤ) (k : ℕ) → k < length volts → off_volts (get_or volts k (pos 0)) ≡ true →
    some_off volts ≡ true
one_off [] k h e = absurd (omega arith)
one_off (v ∷ volts) zero h e = rw e
one_off (v ∷ volts) (suc k) h e = or_true (off_volts v) (one_off volts k (omega arith) e)

-- ---- once they are

module _ (volts : List ℤ) (long : length volts ≡ roles) where
  pub keeps_all : {k : ℕ} {r : List ℕ} → roles ≤ k → KeptUp volts k r → Some r ≡ all_kept volts
  keeps_all {k} {r} h up = rw (none_off volts (λ i q. up.on i (omega arith))) (ap Some (filled_all h up.filled ∙ all))
    where
      same : (i : ℕ) → get_or volts (0 + i) (pos 0) ≡ get_or volts i (pos 0)
      same i = let e : 0 + i ≡ i = omega arith in rw e

      all : list_up (λ (i : ℕ). kept_as (get_or volts i (pos 0))) roles 0 ≡ map kept_as volts
      all = rw (← long) (up_map kept_as (pos 0) volts volts 0 same)

  pub keeps_none : {k : ℕ} → k < roles → off_volts (get_or volts k (pos 0)) ≡ true → None ≡ all_kept volts
  keeps_none {k} h e = rw (one_off volts k (omega arith) e)

-- ---- what is kept comes back, and is near

back_all : (volts : List ℤ) → some_off volts ≡ false → map given_back (map kept_as volts) ≡ volts
back_all [] e = refl
back_all (v ∷ volts) e =
    let n = neither (off_volts v) (some_off volts) e in
    let here = (kept v n.first).is in
    let rest = back_all volts n.second in
    λ i. here i ∷ rest i

near_each : (volts : List ℤ) → some_off volts ≡ false → (k : ℕ) → get_or (map kept_as volts) k 0 ≤ span
near_each [] e k = zero-le
near_each (v ∷ volts) e zero = (kept v (neither (off_volts v) (some_off volts) e).first).near
near_each (v ∷ volts) e (suc k) = near_each volts (neither (off_volts v) (some_off volts) e).second k

-- what is kept of voltages that are all within their range, by the result of the code
pub record Back (volts : List ℤ) (l : List ℕ) : Type 0 where
  pub on : some_off volts ≡ false
  pub back : map given_back l ≡ volts
  pub near : AllNear l

pub kept_back : (volts : List ℤ) {l : List ℕ} → all_kept volts ≡ Some l → Back volts l
kept_back volts {l} e = go (some_off volts) refl e
  where
    go : (t : Bool) → some_off volts ≡ t → cond t None (Some (map kept_as volts)) ≡ Some l → Back volts l
    go true o f = clash cc
    go false o f =
        let same : map kept_as volts ≡ l = cc in
        record {
          on = o;
          back = ap (map given_back) (sym same) ∙ back_all volts o;
          near = subst AllNear same (record { each = near_each volts o });
        }
