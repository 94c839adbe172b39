-- What placing leaves, from what the board's method ensures.
use mathlib.Core.Path.{◌≡◌, sym, ap, ap₂, ◌∙◌}
use mathlib.Core.List.{List}
use Prim.Native.Nat.{ℕ}
use lib.IntN.{ℤ}
use Rattle.roles.specs.Roles.{roles_of}
use Rattle.lending.specs.Rest.{State}
use Rattle.lending.specs.Lending.{placed_lent}
use Rattle.lending.proofs.Stays.{place_volts_stay}
use Rattle.asks.specs.declared.Change.{Change}
use Rattle.asks.specs.declared.Change.TheVariants as change
use Rattle.asks.specs.Numbers.{nodes_in, number_in}
use Rattle.asking.specs.Asked.{changed_by}

module _ (s : State) {what : Change} (v : List ℤ) (words : ℕ) (e : what ≡ change.Place) where
  -- the line's first number, and its nodes as roles, under other names
  pub placed : {card : ℤ} {nodes roles : List ℤ} → card ≡ number_in v → nodes ≡ nodes_in v words →
      roles ≡ roles_of nodes → placed_lent s card roles ≡ changed_by s what v words
  placed n f g = rw e (ap₂ (placed_lent s) n (g ∙ ap roles_of f))

  -- the voltages stay
  pub place_leaves : s.volts ≡ (changed_by s what v words).state.volts
  place_leaves = rw e (sym (place_volts_stay s (number_in v) (roles_of (nodes_in v words))))
