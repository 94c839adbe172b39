-- The clipped numbers of a record one by one, those that are judged, and what clipping makes sure of m_Lf.
use mathlib.Core.Path.{◌≡◌, refl, sym, ap, ◌∙◌}
use mathlib.Core.Bool.{Bool, true, false, cond, ◌&&◌}
use mathlib.Core.List.{List, [], ◌∷◌, ◌++◌}
use Prim.Native.Nat.{ℕ, zero, suc, ◌+◌, ◌<◌}
use native.Mathlib.Omega.{arith}
use native.Mathlib.Decide.{ℕ_discrete}
use lib.Dec.{T}
use lib.ListN.{length, get_or, length-append, get_or-append}
use lib.Seq.{get_or_at, get_or-append-add}
use lib.Ieee.{nan, of_bits}
use lib.Ieee.Positive.{positive, positive-finite}
use lib.Ieee.Scale.{finite}
use Rattle.working.specs.OfRefusal.Clash.{clash}
use Rattle.working.specs.OfClip.Numbers as number
use Rattle.working.specs.OfClip.Limits.{tenth, wide, narrow}
use Rattle.working.specs.OfClip.Record.{number_at, finite_up}
use Rattle.working.specs.OfClip.Clip.{clipped_at, clipped_up}
use Rattle.loading.specs.Numbers.{missing, numbers_for, at}
use Rattle.loading.specs.inner.Mlf.{GoodMlf}
use Rattle.loading.proofs.Range.{holds}
use Rattle.loading.proofs.Raise.{Raised, raised}

pub and_true : (a b : Bool) → a && b ≡ true → (a ≡ true) × (b ≡ true)
and_true true b e = (refl, e)
and_true false b e = clash cc

-- each number is finite where all are
pub each_finite : (s : List ℕ) (n i : ℕ) → i < n → finite_up s n ≡ true → finite (number_at s i) ≡ true
unfolding finite_up
each_finite s zero i h e = absurd (omega arith)
each_finite s (suc n) i h e = of (ℕ_discrete i n) (λ l. each_finite s n i l (and_true (finite_up s n) _ e).0)
  where
    of : Dec (i ≡ n) → (i < n → finite (number_at s i) ≡ true) → finite (number_at s i) ≡ true
    of (yes d) g = ap (λ (k : ℕ). finite (number_at s k)) d ∙ (and_true (finite_up s n) _ e).1
    of (no d) g = g (omega arith)

pub long : (s : List ℕ) (n : ℕ) → length (clipped_up s n) ≡ n
unfolding clipped_up
long s zero = refl
long s (suc n) = let h = long s n in length-append (clipped_up s n) (clipped_at s n ∷ []) ∙ omega arith

pub each_clipped : (s : List ℕ) (n i : ℕ) → i < n → get_or (clipped_up s n) i nan ≡ clipped_at s i
unfolding clipped_up
each_clipped s zero i h = absurd (omega arith)
each_clipped s (suc n) i h = of (ℕ_discrete i n) (λ l. each_clipped s n i l)
  where
    of : Dec (i ≡ n) → (i < n → get_or (clipped_up s n) i nan ≡ clipped_at s i)
        → get_or (clipped_up s n ++ (clipped_at s n ∷ [])) i nan ≡ clipped_at s i
    of (yes d) g = rw d (get_or_at (clipped_up s n) (clipped_at s n) [] nan n (long s n))
    of (no d) g =
        get_or-append (clipped_up s n) (clipped_at s n ∷ []) nan i (omega (arith, long s n)) ∙ g (omega arith)

-- ---- those that are judged, of a record of version 2 or not
pub in_both : (b : Bool) (i : ℕ) → i < narrow → i < cond b wide narrow
in_both true i h = omega arith
in_both false i h = h

pub each_judged : (s : List ℕ) (b : Bool) (i : ℕ) → i < cond b wide narrow → at (numbers_for b s) i ≡ clipped_at s i
each_judged s true i h = each_clipped s wide i h
each_judged s false i h =
    get_or-append (clipped_up s narrow) missing nan i (omega (arith, long s narrow)) ∙ each_clipped s narrow i h

pub each_missing : (s : List ℕ) (k : ℕ) → at (numbers_for false s) (narrow + k) ≡ at missing k
each_missing s k =
    ap (λ (n : ℕ). at (clipped_up s narrow ++ missing) (n + k)) (sym (long s narrow))
    ∙ get_or-append-add (clipped_up s narrow) missing k nan

-- 0.1 is above zero
tenth_positive : T (positive tenth)
unfolding of_bits
tenth_positive = tt

module _ (s : List ℕ) (b : Bool) (f : finite_up s (cond b wide narrow) ≡ true) where
  mlf_within : number.mlf < cond b wide narrow
  mlf_within = in_both b number.mlf (omega arith)

  mlf_raised : Raised tenth (clipped_at s number.mlf)
  unfolding clipped_at
  mlf_raised =
      raised tenth (number_at s number.mlf) tenth_positive
      (holds (each_finite s (cond b wide narrow) number.mlf mlf_within f))

  pub good_mlf : GoodMlf (numbers_for b s)
  good_mlf =
      let e = each_judged s b number.mlf mlf_within in
      let f = positive-finite (clipped_at s number.mlf) mlf_raised.number in
      record { number = rw e f; least = rw e mlf_raised.reached }
