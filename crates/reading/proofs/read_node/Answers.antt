-- `read_node` turns bad slices away, shows a node of the board, and turns any other away.
use mathlib.Core.Path.{◌≡◌, sym, ap, subst, ◌∙◌}
use mathlib.Core.Bool.{false}
use mathlib.Core.List.{List, map}
use Prim.Native.Nat.{ℕ, ◌≤◌, ◌<◌}
use lib.ListN.{length, get_or, length-map}
use lib.IntN.{ℤ, pos}
use borrow.Author.Rules.{rules}
use mir.Syntax.{w64}
use mir.Val.{to_z, of_z}
use mir.ValLaws.{to_z-of_z}
use Rattle.volts.specs.Volts.{off_volts, kept_as, given_back}
use Rattle.volts.specs.laws.Keeping.{given_back_at}
use Rattle.given.specs.Lists.{any_of}
use Rattle.given.specs.inner.Nodes.{node_of}
use Rattle.lending.specs.OfModel.Counts.{nodes_most}
use Rattle.slices.proofs.Keeping.{slices_off, slices_on, volts_long, totals_long, volts_on, all_back}
use Rattle.lending.specs.inner.Lent.{state_with}
use Rattle.reading.proofs.Shows.{show_off_slices, show_off, shows_it}
use Rattle.reading.proofs.read_node.Goals as goal

pub returns-then-not-good_slices : goal.returns-then-not-good_slices
returns-then-not-good_slices c =
    λ b. show_off_slices (state_with b _ _) _
    (slices_off c.args.volts.now c.args.totals.now c.good_slices.ensures (c.if-not-good_slices.true))

pub returns-then-n-ge-NODES : goal.returns-then-n-ge-NODES
returns-then-n-ge-NODES c =
    λ b. show_off (state_with b _ _) _ (slices_on c.args.volts.now c.args.totals.now c.good_slices.ensures (c.if-not-good_slices.false))
    (subst (λ (k : ℕ). nodes_most ≤ k) (c.node_of-n.ensures ∙ ap node_of (to_z-of_z w64 c.args.node c.ranges.node)) c.if-n-ge-NODES.true)

-- both slices have the node
pub bounds-volts-n : goal.bounds-volts-n
bounds-volts-n c =
    rw (volts_long c.args.volts.now c.args.totals.now (slices_on c.args.volts.now c.args.totals.now c.good_slices.ensures (c.if-not-good_slices.false))) c.if-n-ge-NODES.false

pub bounds-totals-n : goal.bounds-totals-n
bounds-totals-n c =
    rw (totals_long c.args.volts.now c.args.totals.now (slices_on c.args.volts.now c.args.totals.now c.good_slices.ensures (c.if-not-good_slices.false))) c.if-n-ge-NODES.false

-- a voltage in range is what comes back of it
back_at : (l : List ℤ) → any_of off_volts l ≡ false → (n : ℕ) → n < length l →
    get_or l n (pos 0) ≡ given_back (get_or (map kept_as l) n 0)
back_at l e n h =
    sym (given_back_at (map kept_as l) n (rw (length-map l kept_as) h)
    ∙ ap (λ (m : List ℤ). get_or m n (pos 0)) (all_back l e))

pub returns : goal.returns
returns c =
    let there : c.node_of-n.result < length c.args.volts.now =
    rw (volts_long c.args.volts.now c.args.totals.now (slices_on c.args.volts.now c.args.totals.now c.good_slices.ensures (c.if-not-good_slices.false))) c.if-n-ge-NODES.false in
    let read : to_z w64 (of_z w64 (get_or c.args.volts.now c.node_of-n.result (pos 0)))
    ≡ get_or c.args.volts.now c.node_of-n.result (pos 0) = search rules in
    λ b. shows_it (state_with b _ _) _ (slices_on c.args.volts.now c.args.totals.now c.good_slices.ensures (c.if-not-good_slices.false)) _ _ _ (c.node_of-n.ensures ∙ ap node_of (to_z-of_z w64 c.args.node c.ranges.node)) c.if-n-ge-NODES.false
    (read ∙ back_at c.args.volts.now (volts_on c.args.volts.now c.args.totals.now (slices_on c.args.volts.now c.args.totals.now c.good_slices.ensures (c.if-not-good_slices.false))) _ there) (search rules)
