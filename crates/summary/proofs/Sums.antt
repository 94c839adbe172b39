-- Where the test of summing a node up leads.
use mathlib.Core.Path.{◌≡◌, refl, sym, ap, ◌∙◌, subst}
use mathlib.Core.Bool.{false}
use mathlib.Core.List.{List}
use Prim.Native.Nat.{ℕ, ◌≤◌, ◌<◌}
use lib.ListN.{get_or}
use lib.IntN.{ℤ, nat_abs}
use Rattle.refusal.specs.Order.{Verdict, no, yes}
use Rattle.refusal.specs.declared.Refusal.TheVariants.{OutOfRange}
use Rattle.given.specs.Arguments.{off_node}
use Rattle.given.specs.Lists.{largest, different}
use Rattle.given.specs.inner.Nodes.{node_of}
use Rattle.places.specs.Gathered.{Transistor}
use Rattle.places.specs.Sets.{member, list_of, size_of}
use Rattle.places.specs.laws.Walks.{list_same, list_long}
use Rattle.model.specs.Board.{Board}
use Rattle.model.specs.declared.Answer.{Answer}
use Rattle.model.specs.declared.Answer.TheVariants.{Summed, Refused}
use Rattle.model.specs.Counts.{nodes_most, transistors_most}
use Rattle.model.specs.Largest.{size_at}
use Rattle.model.specs.Verdict.{node_verdict}
use Rattle.model.specs.Model.{transistor_at, plain, told_on, summed, summed_of}
use Rattle.model.proofs.Verdicts.{off_board_lem, on_board}
use Rattle.model.proofs.Lent.{stands_there}
use Rattle.summary.specs.inner.Told.{cards_below, sizes_below, LendsNode}

module _ (b : Board) (z : ℤ) where
  pub sums_off : nodes_most ≤ node_of z → Refused OutOfRange ≡ (summed_of b z).answer
  unfolding summed_of node_verdict
  sums_off h = rw (off_board_lem z h)

  -- what is told of the places, by the arrays
  told_is : {A : Type 0} (f : Transistor → A) (n : ℕ) (g : ℕ → A) →
      ((i : ℕ) → i < transistors_most → g i ≡ f (transistor_at b i)) →
      list_of (member (get_or b.naming n 0)) g transistors_most ≡ told_on b f n
  told_is f n g e =
      list_same (member (get_or b.naming n 0)) (member (get_or b.naming n 0)) g (λ (i : ℕ). f (transistor_at b i))
      transistors_most (λ i q. refl) (λ i q t. e i q)

  module _ {cards nodes naming : List ℕ} {currents : List ℤ} (l : LendsNode b cards nodes naming currents) {n : ℕ}
      (e : n ≡ node_of z) (h : n < nodes_most) where
    on : off_node z ≡ false
    on = (on_board z (subst (λ (k : ℕ). k < nodes_most) e h)).0

    node_is : n ≡ nat_abs z
    node_is = e ∙ (on_board z (subst (λ (k : ℕ). k < nodes_most) e h)).1

    pub sums_it : {count kinds most : ℕ} → count ≡ size_of (get_or naming n 0) →
        kinds ≡ different (cards_below cards (get_or naming n 0) transistors_most) →
        most ≡ largest (sizes_below nodes currents (get_or naming n 0) n transistors_most) →
        Summed count kinds most ≡ (summed_of b z).answer
    unfolding summed_of node_verdict
    sums_it p q r =
        let m = nat_abs z in
        let a = p ∙ (λ j. size_of (get_or (l.naming_are j) (node_is j) 0))
        ∙ list_long (member (get_or b.naming m 0)) _ (λ (i : ℕ). (transistor_at b i).issue) transistors_most in
        let c = q
        ∙ (λ j. different (cards_below (l.cards_are j) (get_or (l.naming_are j) (node_is j) 0) transistors_most))
        ∙ ap different
        (told_is (λ (t : Transistor). t.card) m _
        (λ i k. sym (ap (λ (t : Transistor). t.card) (stands_there b i k)))) in
        let d = r ∙ (λ j. largest
        (sizes_below (l.nodes_are j) (l.currents_are j) (get_or (l.naming_are j) (node_is j) 0) (node_is j)
        transistors_most))
        ∙ ap largest
        (told_is (λ (t : Transistor). size_at m t.nodes t.currents) m _
        (λ i k. sym (ap (λ (t : Transistor). size_at m t.nodes t.currents) (stands_there b i k)))) in
        rw on (λ j. Summed (a j) (c j) (d j))

-- ---- and it changes nothing

pub summed_whole : (b : Board) (n : ℤ) {answer : Answer} → answer ≡ (summed_of b n).answer → plain b answer ≡ summed_of b n
unfolding summed_of
summed_whole b n {answer} e = go (node_verdict n) e
  where
    go : (v : Verdict ℕ) → answer ≡ (summed b v).answer → plain b answer ≡ summed b v
    go (no f) e = rw e
    go (yes k) e = rw e

-- a board lends its own arrays
pub own_node : (b : Board) → LendsNode b b.cards b.nodes b.naming b.currents
own_node b = record { cards_are = refl; nodes_are = refl; naming_are = refl; currents_are = refl }
