-- Placing's way through its tests.
use mathlib.Core.Path.{◌≡◌}
use mathlib.Core.Bool.{Bool, true, false}
use mathlib.Core.List.{List}
use Prim.Native.Nat.{ℕ, ◌≤◌, ◌<◌}
use lib.Dec.{leb}
use borrow.Author.Tests.{le-leb, lt-leb, lt-ltb, le-ltb}
use Rattle.refusal.specs.declared.Refusal.TheVariants.{NoRoom, Unknown, OutOfRange, SplitCollector, NumbersUsedUp}
use Rattle.totals.specs.Gives.{nodes_most}
use Rattle.std.specs.Prelude.{Result, Ok, Err}
use Rattle.refusal.specs.declared.Refusal.{Refusal}
use Rattle.placing.specs.declared.Spot.{Spot}
use Rattle.given.specs.Lists.{any_of}
use Rattle.given.specs.Arguments.{none, some, issues_most, used_up}
use Rattle.places.specs.Counts.{cards_most, transistors_most}
use Rattle.places.specs.inner.Flat.{number_place, free_place, ties_at}
use Rattle.placing.specs.inner.Placing.{torn_on, placing, spot, way_of}

module _ (held : List ℕ) (switches : List Bool) (issues : List ℕ) (next n : ℕ) (on : List ℕ) where
  abbrev way : Result Spot Refusal
  way =
      way_of (free_place issues)
      (placing (number_place cards_most n held) (ties_at switches) on (leb transistors_most (free_place issues))
      (used_up next))

  pub stop_unknown : number_place cards_most n held ≡ none → Err Unknown ≡ way
  unfolding placing
  stop_unknown e = rw e

  module _ (i : ℕ) (e : number_place cards_most n held ≡ some i) where
    pub stop_off : any_of (leb nodes_most) on ≡ true → Err OutOfRange ≡ way
    unfolding placing
    stop_off o = rw (e, o)

    module _ (o : any_of (leb nodes_most) on ≡ false) where
      pub stop_split : torn_on (ties_at switches i) on ≡ true → Err SplitCollector ≡ way
      unfolding placing
      stop_split s = rw (e, o, s)

      module _ (s : torn_on (ties_at switches i) on ≡ false) where
        pub stop_full : transistors_most ≤ free_place issues → Err NoRoom ≡ way
        unfolding placing
        stop_full h = rw (e, o, s, le-leb _ _ h)

        pub stop_used_up : free_place issues < transistors_most → issues_most < next → Err NumbersUsedUp ≡ way
        unfolding placing
        stop_used_up h k = rw (e, o, s, lt-leb _ _ h, lt-ltb _ _ k)

        pub goes : (free : ℕ) → free ≡ free_place issues → free < transistors_most → next ≤ issues_most → Ok (spot i free) ≡ way
        unfolding placing
        goes free p h k = rw (e, o, s, ← p, lt-leb _ _ h, le-ltb _ _ k) (rw p)
