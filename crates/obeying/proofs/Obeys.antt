-- A command obeyed, by whom it asks.
use mathlib.Core.Path.{◌≡◌, refl, ap, subst}
use mathlib.Core.Bool.{Bool}
use mathlib.Core.List.{List}
use Prim.Native.Nat.{ℕ}
use lib.IntN.{ℤ}
use Rattle.page.specs.declared.Page.{Page}
use Rattle.page.specs.Page.{Writes}
use Rattle.page.proofs.Pages.{as_bytes}
use Rattle.script.specs.declared.Command.{Command}
use Rattle.asks.specs.declared.Call.{Call}
use Rattle.asks.specs.declared.Apart.{Apart}
use Rattle.asks.specs.declared.Asks.TheVariants as asks
use Rattle.asks.specs.Asks.{asks_of}
use Rattle.asks.specs.Numbers.{number_in}
use Rattle.poking.specs.Poked.{pokes, poked_volts, poked_totals, poke_said}
use Rattle.shelving.specs.Shelf.{held_of}
use Rattle.shelving.specs.Apart.{apart_said, apart_shelf}
use Rattle.lending.specs.Rest.{bare}
use Rattle.evening.specs.OfBoard.Board.{Board}
use Rattle.evening.specs.OfBoard.Promise.{model_of, state_in}
use Rattle.calling.specs.OfAsking.Asked.{asked_of}
use Rattle.calling.specs.Calls.{Calls}
use Rattle.evening.specs.Said.{who_said, sheet_said}
use Rattle.obeying.specs.Obeyed.{obeyed_of, Obeys}

module _ (b : Board) (v t : List ℤ) (shelf : List ℕ) (allowed : Bool) (c : Command) (line spelled : List ℕ)
    {N : ℕ} {old new : Page N} where
  pub obeys_call : {k : Call} → asks_of c.verb ≡ asks.Board k → {library : List ℕ} → library ≡ held_of shelf →
      {r : Board} {v' t' : List ℤ} →
      Calls (asked_of (state_in b v t) k c line spelled library) k c r v' t' old new →
      Obeys (obeyed_of (state_in b v t) shelf allowed c line spelled) r v' t' shelf old new
  unfolding obeyed_of
  obeys_call {k} e h {r} {v'} {t'} p =
      let q = subst
      (λ (x : List ℕ). Calls (asked_of (state_in b v t) k c line spelled x) k c r v' t' old new) h p in
      rw e
      (record { board = q.board; volts = q.volts; totals = q.totals; shelf = refl; said = q.said })

  pub obeys_who : asks_of c.verb ≡ asks.Who → {z : ℤ} → z ≡ number_in c.numbers →
      Writes (who_said (bare (model_of b)) z) old new →
      Obeys (obeyed_of (state_in b v t) shelf allowed c line spelled) b v t shelf old new
  unfolding obeyed_of
  obeys_who e f w =
      rw e
      (record {
        board = refl;
        volts = refl;
        totals = refl;
        shelf = refl;
        said = as_bytes (ap (who_said (bare (model_of b))) f) w;
      })

  pub obeys_sheet : asks_of c.verb ≡ asks.Sheet → Writes (sheet_said (state_in b v t)) old new →
      Obeys (obeyed_of (state_in b v t) shelf allowed c line spelled) b v t shelf old new
  unfolding obeyed_of
  obeys_sheet e w = rw e (record { board = refl; volts = refl; totals = refl; shelf = refl; said = w })

  pub obeys_poke : asks_of c.verb ≡ asks.Slices → {v' t' : List ℤ} →
      (v' ≡ poked_volts (pokes allowed c line) c v) × ((t' ≡ poked_totals (pokes allowed c line) c t)
      × Writes (poke_said (pokes allowed c line) c line) old new) →
      Obeys (obeyed_of (state_in b v t) shelf allowed c line spelled) b v' t' shelf old new
  unfolding obeyed_of
  obeys_poke e p = rw e (record { board = refl; volts = p.0; totals = p.1.0; shelf = refl; said = p.1.1 })

  pub obeys_apart : {what : Apart} → asks_of c.verb ≡ asks.Apart what → {shelf' : List ℕ} →
      Writes (apart_said what c.words line shelf) old new × (shelf' ≡ apart_shelf what shelf) →
      Obeys (obeyed_of (state_in b v t) shelf allowed c line spelled) b v t shelf' old new
  unfolding obeyed_of
  obeys_apart e p = rw e (record { board = refl; volts = refl; totals = refl; shelf = p.1; said = p.0 })
