-- Where the tests of reading a node over the two slices lead.
use mathlib.Core.Path.{◌≡◌, subst, ◌∙◌}
use mathlib.Core.Bool.{true, false}
use mathlib.Core.List.{map}
use Prim.Native.Nat.{ℕ, ◌≤◌, ◌<◌}
use lib.ListN.{get_or}
use lib.IntN.{ℤ, pos, nat_abs}
use Rattle.refusal.specs.declared.Refusal.TheVariants.{OutOfRange}
use Rattle.volts.specs.Volts.{given_back, kept_as}
use Rattle.given.specs.inner.Nodes.{node_of}
use Rattle.slices.specs.Slices.{off_slices}
use Rattle.lending.specs.OfModel.Answer.TheVariants.{Node, Refused}
use Rattle.lending.specs.OfModel.Counts.{nodes_most}
use Rattle.lending.specs.OfModel.Verdict.{node_verdict}
use Rattle.lending.specs.OfModel.Model.{showed_of}
use Rattle.lending.proofs.OfModel.Verdicts.{off_board_lem, on_board}
use Rattle.lending.specs.Rest.{State}
use Rattle.lending.specs.Lending.{showed_lent}

module _ (s : State) (z : ℤ) where
  pub show_off_slices : off_slices s.volts s.totals ≡ true → Refused OutOfRange ≡ (showed_lent s z).answer
  unfolding showed_lent
  show_off_slices e = rw e

  module _ (e : off_slices s.volts s.totals ≡ false) where
    pub show_off : nodes_most ≤ node_of z → Refused OutOfRange ≡ (showed_lent s z).answer
    unfolding showed_lent showed_of node_verdict
    show_off h = rw (e, off_board_lem z h)

    pub shows_it : (n : ℕ) (v t : ℤ) → n ≡ node_of z → n < nodes_most → v ≡ given_back (get_or (map kept_as s.volts) n 0) →
        t ≡ get_or s.totals n (pos 0) → Node v t ≡ (showed_lent s z).answer
    unfolding showed_lent showed_of node_verdict
    shows_it n v t i h p q =
        let o = on_board z (subst (λ (k : ℕ). k < nodes_most) i h) in
        let same : n ≡ nat_abs z = i ∙ o.1 in rw (e, o.0, p, q, same)
