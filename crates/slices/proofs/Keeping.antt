-- What the test of the slices tells: whether they are turned away, and where they are not, their lengths and their
-- voltages as they are kept.
use mathlib.Core.Path.{◌≡◌, refl, sym, ◌∙◌}
use mathlib.Core.Bool.{Bool, true, false, cond, not, ◌||◌}
use mathlib.Core.List.{List, [], ◌∷◌, map}
use Prim.Native.Nat.{ℕ, zero, suc, ◌≤◌, zero-le}
use lib.Dec.{eqb}
use lib.ListN.{length, get_or}
use lib.IntN.{ℤ}
use Rattle.std.specs.Prelude.{Option, Some, None}
use borrow.Author.Tests.{eqb-true}
use Rattle.refusal.specs.Clash.{clash}
use Rattle.volts.specs.Volts.{off_volts, kept_as, given_back, span, AllNear}
use Rattle.volts.specs.laws.Keeping.{kept}
use Rattle.given.specs.OfTotals.Gives.{nodes_most}
use Rattle.given.specs.Lists.{any_of}
use Rattle.slices.specs.Slices.{other_length, off_slices, kept_slices}

module _ (volts totals : List ℤ) {r : Bool} (e : r ≡ not (off_slices volts totals)) where
  pub slices_off : r ≡ false → off_slices volts totals ≡ true
  slices_off h = go (off_slices volts totals) (sym e ∙ h)
    where
      go : (t : Bool) → not t ≡ false → t ≡ true
      go true f = refl
      go false f = clash cc

  pub slices_on : r ≡ true → off_slices volts totals ≡ false
  slices_on h = go (off_slices volts totals) (sym e ∙ h)
    where
      go : (t : Bool) → not t ≡ true → t ≡ false
      go true f = clash cc
      go false f = refl

-- by what is kept of them
module _ (volts totals : List ℤ) {r : Option (List ℕ)} (e : r ≡ kept_slices volts totals) where
  pub not_kept : r ≡ None → off_slices volts totals ≡ true
  not_kept h = go (off_slices volts totals) (sym e ∙ h)
    where
      go : (off : Bool) → cond off None (Some (map kept_as volts)) ≡ None → off ≡ true
      go true f = refl
      go false f = clash cc

  pub kept_so : {kept : List ℕ} → r ≡ Some kept → (off_slices volts totals ≡ false) × (kept ≡ map kept_as volts)
  kept_so {kept} h = go (off_slices volts totals) (sym e ∙ h)
    where
      go : (off : Bool) → cond off None (Some (map kept_as volts)) ≡ Some kept → (off ≡ false) × (kept ≡ map kept_as volts)
      go true f = clash cc
      go false f = (refl, cc)

-- ---- slices that are not turned away

neither : (a b : Bool) → a || b ≡ false → (a ≡ false) × (b ≡ false)
neither true b e = clash cc
neither false b e = (refl, e)

long_enough : (l : List ℤ) → other_length l ≡ false → length l ≡ nodes_most
long_enough l e = go (eqb (length l) nodes_most) refl e
  where
    go : (t : Bool) → eqb (length l) nodes_most ≡ t → not t ≡ false → length l ≡ nodes_most
    go true f h = eqb-true _ _ f
    go false f h = clash cc

module _ (volts totals : List ℤ) (e : off_slices volts totals ≡ false) where
  rest_on : other_length totals || any_of off_volts volts ≡ false
  rest_on = (neither (other_length volts) (other_length totals || any_of off_volts volts) e).1

  pub volts_long : length volts ≡ nodes_most
  volts_long =
      long_enough volts (neither (other_length volts) (other_length totals || any_of off_volts volts) e).0

  pub totals_long : length totals ≡ nodes_most
  totals_long = long_enough totals (neither (other_length totals) (any_of off_volts volts) rest_on).0

  pub volts_on : any_of off_volts volts ≡ false
  volts_on = (neither (other_length totals) (any_of off_volts volts) rest_on).1

pub all_near : (l : List ℤ) → any_of off_volts l ≡ false → AllNear (map kept_as l)
unfolding any_of
all_near [] e = record { each = λ k. zero-le }
all_near (v ∷ l) e =
    let both = neither (off_volts v) (any_of off_volts l) e in
    let rest = all_near l both.1 in
    record { each = each (kept_as v) (map kept_as l) (kept v both.0).near rest.each }
  where
    each : (x : ℕ) (xs : List ℕ) → x ≤ span → ((k : ℕ) → get_or xs k 0 ≤ span) → (k : ℕ) → get_or (x ∷ xs) k 0 ≤ span
    each x xs h t zero = h
    each x xs h t (suc k) = t k

-- what comes back of the kept ones is what was lent
pub all_back : (l : List ℤ) → any_of off_volts l ≡ false → map given_back (map kept_as l) ≡ l
unfolding any_of
all_back [] e = refl
all_back (v ∷ l) e =
    let both = neither (off_volts v) (any_of off_volts l) e in
    let here = (kept v both.0).is in let rest = all_back l both.1 in λ j. here j ∷ rest j
