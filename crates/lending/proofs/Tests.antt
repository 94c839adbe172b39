-- What judging the totals tells: whether one would leave 64 bits, so that all stay, and where none would, all of them
-- as they stand then.
use mathlib.Core.Path.{◌≡◌, refl, sym, ◌∙◌}
use mathlib.Core.Bool.{Bool, true, false, cond}
use mathlib.Core.List.{List}
use lib.IntN.{ℤ}
use Rattle.std.specs.Prelude.{Result, Ok, Err}
use Rattle.refusal.specs.declared.Refusal.{Refusal}
use Rattle.refusal.specs.declared.Refusal.TheVariants.{OutOfReach}
use Rattle.refusal.specs.Clash.{clash}
use Rattle.model.specs.OfSlices.Slices.{some_outside, changed, StandsIn}

module _ {totals coming going : List ℤ} {r : Result (Unit {0}) Refusal} {next : List ℤ}
    (s : StandsIn totals coming going r next) where
  abbrev leaves : Bool
  leaves = some_outside (changed totals coming going)

  pub stood_bad : {f : Refusal} → r ≡ Err f → (f ≡ OutOfReach) × ((leaves ≡ true) × (next ≡ totals))
  stood_bad {f} h = go leaves refl (sym s.told ∙ h) s.totals_are
    where
      go : (out : Bool) → leaves ≡ out → cond out (Err OutOfReach) (Ok (tt {0})) ≡ Err f →
          next ≡ cond out totals (changed totals coming going) →
          (f ≡ OutOfReach) × ((leaves ≡ true) × (next ≡ totals))
      go true o e t = (cc, (o, t))
      go false o e t = clash cc

  pub stood_good : {u : Unit {0}} → r ≡ Ok u → (leaves ≡ false) × (next ≡ changed totals coming going)
  stood_good {u} h = go leaves refl (sym s.told ∙ h) s.totals_are
    where
      go : (out : Bool) → leaves ≡ out → cond out (Err OutOfReach) (Ok (tt {0})) ≡ Ok u →
          next ≡ cond out totals (changed totals coming going) →
          (leaves ≡ false) × (next ≡ changed totals coming going)
      go true o e t = clash cc
      go false o e t = (o, t)
