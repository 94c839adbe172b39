-- The held currents of all places, where some places are worked anew.
use Rattle.std.specs.Prelude.{Bool, cond, List, ℕ, zero, suc, ◌*◌, ℤ, pos}
use Rattle.flows.specs.OfTerms.Rows.{branches}
use Rattle.places.specs.OfDeck.Stretch.{written}

-- of the n places from i on each that is worked holds its new currents, and every other place what it held
unfoldable pub renewed : (ℕ → Bool) → (ℕ → List ℤ) → List ℤ → ℕ → ℕ → List ℤ
renewed worked new held zero i = held
renewed worked new held (suc n) i =
    cond (worked i) (written (pos 0) (renewed worked new held n (suc i)) (branches * i) (new i) branches)
    (renewed worked new held n (suc i))
