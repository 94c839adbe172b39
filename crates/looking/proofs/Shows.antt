-- Where the tests of looking a name up lead: its answers, which change nothing.
use mathlib.Core.Path.{◌≡◌, refl, sym, ap, ◌∙◌}
use mathlib.Core.Bool.{Bool, true, false, cond}
use mathlib.Core.List.{List}
use Prim.Native.Nat.{ℕ}
use borrow.Author.Tests.{eqb-true}
use lib.Dec.{eqb}
use Rattle.std.specs.Prelude.{Option, Some, None}
use Rattle.refusal.specs.Clash.{clash}
use Rattle.refusal.specs.declared.Refusal.TheVariants.{BadName, NameNotHeld}
use Rattle.name.specs.Name.{asked, padded}
use Rattle.places.specs.Finding.{highest_at}
use Rattle.places.specs.inner.Flat.{highest_in}
use Rattle.places.specs.laws.Gather.{highest_flat}
use Rattle.newest.specs.Named.{issue_in}
use Rattle.model.specs.Board.{Board}
use Rattle.model.specs.declared.Answer.TheVariants.{Issue, Refused}
use Rattle.model.specs.Verdict.{look_verdict}
use Rattle.model.specs.Model.{cards_of, looked_of}

none_zero : (n : ℕ) → issue_in n ≡ None → n ≡ 0
none_zero n = go (eqb n 0) refl
  where
    go : (t : Bool) → eqb n 0 ≡ t → cond t None (Some n) ≡ None → n ≡ 0
    go true o e = eqb-true n 0 o
    go false o e = clash cc

some_is : (n : ℕ) {m : ℕ} → issue_in n ≡ Some m → (n ≡ m) × (eqb n 0 ≡ false)
some_is n {m} = go (eqb n 0) refl
  where
    go : (t : Bool) → eqb n 0 ≡ t → cond t None (Some n) ≡ Some m → (n ≡ m) × (eqb n 0 ≡ false)
    go true o e = clash cc
    go false o e = (cc, o)

-- ---- looking a name up

module _ (b : Board) (name : List ℕ) where
  pub look_malformed : asked name ≡ false → Refused BadName ≡ (looked_of b name).answer
  unfolding looked_of look_verdict
  look_malformed e = rw e

  highest_of : (own : List ℕ) → highest_at own (cards_of b) ≡ highest_in own b.held b.names
  unfolding cards_of
  highest_of own = highest_flat _ _ _ _ _ _ own

  -- the name made long, and the highest issue of it
  module _ {held names : List ℕ} (l : held ≡ b.held) (m : names ≡ b.names) (e : asked name ≡ true) {own : List ℕ}
      (p : own ≡ padded name) {r : Option ℕ} (h : r ≡ issue_in (highest_in own held names)) where
    highest_is : highest_at (padded name) (cards_of b) ≡ highest_in own held names
    highest_is = rw (← p, l, m) (highest_of own)

    pub look_not_held : r ≡ None → Refused NameNotHeld ≡ (looked_of b name).answer
    unfolding looked_of look_verdict
    look_not_held z = let q = none_zero (highest_in own held names) (sym h ∙ z) in rw (e, highest_is, q)

    pub looks_up : {n : ℕ} → r ≡ Some n → Issue n ≡ (looked_of b name).answer
    unfolding looked_of look_verdict
    looks_up z = let q = some_is (highest_in own held names) (sym h ∙ z) in rw (e, highest_is, q.1) (ap Issue (sym q.0))
