-- Where the tests of listing a node lead.
use mathlib.Core.Path.{◌≡◌, refl, sym, ap, ◌∙◌, subst}
use mathlib.Core.Bool.{false}
use mathlib.Core.List.{List}
use Prim.Native.Nat.{ℕ, ◌≤◌, ◌<◌}
use lib.ListN.{length, get_or}
use lib.IntN.{ℤ, nat_abs}
use borrow.Author.Tests.{lt-ltb, le-ltb}
use Rattle.refusal.specs.Order.{Verdict, no, yes}
use Rattle.refusal.specs.declared.Refusal.TheVariants.{OutOfRange, ShortOutput}
use Rattle.bytes_le.specs.Buffer.{over}
use Rattle.given.specs.Arguments.{off_node}
use Rattle.given.specs.Lists.{in_order}
use Rattle.given.specs.inner.Nodes.{node_of}
use Rattle.places.specs.Gathered.{Transistor}
use Rattle.places.specs.Sets.{member, size_of}
use Rattle.places.specs.laws.Walks.{list_same, list_long}
use Rattle.model.specs.Board.{Board}
use Rattle.model.specs.declared.Answer.{Answer}
use Rattle.model.specs.declared.Answer.TheVariants.{Listed, Refused}
use Rattle.model.specs.Counts.{nodes_most, transistors_most}
use Rattle.model.specs.Verdict.{list_verdict}
use Rattle.model.specs.Model.{no_ticks, issues_on, listed, may_list, listed_of}
use Rattle.model.proofs.Verdicts.{off_board_lem, on_board}
use Rattle.model.proofs.Lent.{stands_there}
use Rattle.roster.specs.inner.Lent.{issues_in, Lists}
use Rattle.roster.proofs.Insertion.{order_long}

-- as many are listed as there are places in the set
pub count_is : (issues : List ℕ) (set : ℕ) → size_of set ≡ length (issues_in issues set)
count_is issues set =
    list_long (member set) (λ (i : ℕ). i) (λ (i : ℕ). get_or issues i 0) transistors_most ∙ sym (order_long _)

module _ (b : Board) (z : ℤ) (old : List ℕ) where
  pub lists_off : nodes_most ≤ node_of z → Lists b z old (Refused OutOfRange) old
  unfolding listed_of list_verdict
  lists_off h = let e = off_board_lem z h in record { answer_is = rw e; list_is = rw e }

  module _ {issues naming : List ℕ} (l : issues ≡ b.issues) (s : naming ≡ b.naming) {n : ℕ} (e : n ≡ node_of z)
      (h : n < nodes_most) where
    on : off_node z ≡ false
    on = (on_board z (subst (λ (k : ℕ). k < nodes_most) e h)).0

    node_is : n ≡ nat_abs z
    node_is = e ∙ (on_board z (subst (λ (k : ℕ). k < nodes_most) e h)).1

    list_is : issues_in issues (get_or naming n 0) ≡ issues_on b (nat_abs z)
    list_is =
        (λ j. issues_in (l j) (get_or (s j) (node_is j) 0))
        ∙ ap in_order
        (list_same (member (get_or b.naming (nat_abs z) 0)) (member (get_or b.naming (nat_abs z) 0)) _ _ transistors_most
        (λ i q. refl) (λ i q t. sym (ap (λ (u : Transistor). u.issue) (stands_there b i q))))

    pub lists_short : length old < length (issues_in issues (get_or naming n 0)) →
        Lists b z old (Refused ShortOutput) old
    unfolding listed_of list_verdict
    lists_short q =
        let short = lt-ltb (length old) (length (issues_on b (nat_abs z)))
        (subst (λ (x : List ℕ). length old < length x) list_is q) in
        record { answer_is = rw (on, short); list_is = rw (on, short) }

    pub lists_it : length (issues_in issues (get_or naming n 0)) ≤ length old → {count : ℕ} →
        count ≡ length (issues_in issues (get_or naming n 0)) → {new : List ℕ} →
        new ≡ over (issues_in issues (get_or naming n 0)) old → Lists b z old (Listed count) new
    unfolding listed_of list_verdict
    lists_it q {count} c {new} m =
        let long = le-ltb (length old) (length (issues_on b (nat_abs z)))
        (subst (λ (x : List ℕ). length x ≤ length old) list_is q) in
        record {
          answer_is = rw (on, long) (ap Listed (c ∙ ap length list_is));
          list_is = rw (on, long) (m ∙ ap (λ (x : List ℕ). over x old) list_is);
        }

-- ---- and it changes nothing on the board

pub listed_whole : (b : Board) (n : ℤ) (room : ℕ) {answer : Answer} → answer ≡ (listed_of b n room).answer →
    record { board = b; answer = answer; ticks = no_ticks; list = (listed_of b n room).list } ≡ listed_of b n room
unfolding listed_of
listed_whole b n room {answer} e = go (may_list b n room) e
  where
    go : (v : Verdict ℕ) → answer ≡ (listed b v).answer →
        record { board = b; answer = answer; ticks = no_ticks; list = (listed b v).list } ≡ listed b v
    go (no f) e = rw e
    go (yes k) e = rw e
