-- Issue numbers over any calls: never given twice; and lifting the one just placed brings every total back.
use mathlib.Core.Path.{◌≡◌, refl, sym, ap, ◌∙◌, subst}
use mathlib.Core.Bool.{Bool, true, false, not}
use mathlib.Core.List.{List, [], ◌∷◌}
use Prim.Native.Nat.{ℕ, ◌+◌, ◌≤◌, ◌<◌}
use native.Mathlib.Nat.{le_refl}
use native.Mathlib.Omega.{arith}
use lib.Dec.{eqb, ltb}
use lib.ListN.{length}
use lib.Seq.{ext_get_or}
use lib.IntN.{ℤ, pos}
use borrow.Author.Tests.{eq-eqb, ltb-false, le-leb}
use Rattle.refusal.specs.Order.{Verdict, no, yes}
use Rattle.refusal.specs.Clash.{clash}
use Rattle.card.specs.declared.WorkedCard.{WorkedCard}
use Rattle.terms.specs.Rows.{roles}
use Rattle.model.specs.Board.{Board}
use Rattle.model.specs.Model.{cards_of}
use Rattle.model.specs.declared.Answer.{Answer}
use Rattle.model.specs.declared.Answer.TheVariants.{Issue}
use Rattle.given.specs.Arguments.{issues_most}
use Rattle.given.specs.Pairs.{Shift}
use Rattle.given.specs.Arguments.{issue_of}
use Rattle.model.specs.Verdict.{node_verdict}
use Rattle.model.specs.Desk as desk
use Rattle.model.specs.Desk.{Held, Standing, Desk, Call, load, place, move, lift, withdraw, look_up, node, currents}
use Rattle.model.specs.Desk.{who, sum_up}
use Rattle.given.specs.Lists.{keep_if}
use Rattle.model.specs.Desk.{first_with, without, total, step, after}
use Rattle.places.specs.Finding.{card_place}
use Rattle.model.specs.Model as board
use Rattle.model.specs.Model.{loaded_of, placed_of, moved_of, lifted_of, withdrawn_of, looked_of, showed_of, answered}
use Rattle.model.specs.Model.{opened_of, listed_of, summed_of, board_after}
use Rattle.days.specs.Stands.{reply_of}
use Rattle.days.specs.Numbers.{with_number, gives, given_by, Falls, end, next}
use Rattle.days.proofs.Perms.{count, more}
use Rattle.model.proofs.Verdicts.{loads, places}
use Rattle.model.proofs.Invariant.{invariant_after, totals_long}
use Rattle.days.proofs.Orderly.{Orderly, orderly_after}
use Rattle.days.proofs.Orders.{order_place}
use Rattle.days.proofs.Follows.{follows}
use Rattle.days.proofs.Totals.{totals_are_sums}

-- ---- no number is given twice

one_more : {n : ℕ} {l : List ℕ} → 1 ≤ n → ltb issues_most n ≡ false → Falls n l → Falls (n + 1) (n ∷ l)
one_more {n} p q f = let h : n < n + 1 = omega arith in next h p (ltb-false issues_most n q) f

-- on a board whose next number is 1 or more, one call more
module _ (b : Board) (l : List ℕ) (begun : 1 ≤ b.next) (f : Falls b.next l) where
  falls_load : (name bytes : List ℕ) →
      Falls (loaded_of b name bytes).board.next (with_number (loaded_of b name bytes).answer l)
  unfolding loaded_of
  falls_load name bytes = go (board.may_load b name bytes) refl
    where
      go : (v : Verdict WorkedCard) → board.may_load b name bytes ≡ v →
          Falls (board.loaded b name v).board.next (with_number (board.loaded b name v).answer l)
      go (no g) e = f
      go (yes c) e = one_more begun (loads name e).number f

  falls_place : (card : ℤ) (nodes : List ℤ) →
      Falls (placed_of b card nodes).board.next (with_number (placed_of b card nodes).answer l)
  unfolding placed_of
  falls_place card nodes = go (board.may_place b card on) refl
    where
      on : List ℤ
      on = board.seen_on b card nodes

      go : (v : Verdict ℕ) → board.may_place b card on ≡ v →
          Falls (board.placed b on v).board.next (with_number (board.placed b on v).answer l)
      go (no g) e = f
      go (yes i) e = one_more begun (places (card_place (issue_of card) (cards_of b)) b.next e).number f

  falls_call : (c : Call) → Falls (answered b c).board.next (gives c (answered b c).answer l)
  unfolding answered moved_of lifted_of withdrawn_of looked_of showed_of opened_of listed_of summed_of
  falls_call (load name bytes) = falls_load name bytes
  falls_call (place card nodes sized) = falls_place card nodes
  falls_call (move pairs) = go (board.may_move b pairs)
    where
      go : (w : Verdict (List Shift)) → Falls (board.moved b w).board.next l
      go (no g) = f
      go (yes shifts) = f
  falls_call (lift n) = go (board.may_lift b n)
    where
      go : (w : Verdict ℕ) → Falls (board.lifted b w).board.next l
      go (no g) = f
      go (yes k) = f
  falls_call (withdraw n) = go (board.may_withdraw b n)
    where
      go : (w : Verdict ℕ) → Falls (board.withdrawn b w).board.next l
      go (no g) = f
      go (yes k) = f
  falls_call (look_up name) = go (board.may_look_up b name)
    where
      go : (w : Verdict ℕ) → Falls (board.looked b w).board.next l
      go (no g) = f
      go (yes k) = f
  falls_call (node n) = go (node_verdict n)
    where
      go : (w : Verdict ℕ) → Falls (board.showed b w).board.next l
      go (no g) = f
      go (yes k) = f
  falls_call (currents n) = go (board.may_open b n)
    where
      go : (w : Verdict ℕ) → Falls (board.opened b w).board.next l
      go (no g) = f
      go (yes k) = f
  falls_call (who n room) = go (board.may_list b n room)
    where
      go : (w : Verdict ℕ) → Falls (board.listed b w).board.next l
      go (no g) = f
      go (yes k) = f
  falls_call (sum_up n) = go (node_verdict n)
    where
      go : (w : Verdict ℕ) → Falls (board.summed b w).board.next l
      go (no g) = f
      go (yes k) = f

-- the numbers given rise strictly, over both kinds, within 1 to 65,535
pub issues_never_twice : (calls : List Call) → Falls (board_after calls).next (given_by calls)
unfolding given_by board_after
issues_never_twice [] = end
issues_never_twice (c ∷ cs) =
    falls_call (board_after cs) (given_by cs) (invariant_after cs).footing.footed.begun (issues_never_twice cs) c

-- ---- lifting the one just placed

without_none : {A : Type 0} (key : A → ℕ) (n : ℕ) (l : List A) → count (λ (a : A). eqb (key a) n) l ≡ 0 →
    without key n l ≡ l
unfolding count without
without_none key n [] e = refl
without_none {A = A} key n (a ∷ rest) e = go (eqb (key a) n) e (λ h. without_none key n rest h)
  where
    go : (t : Bool) → more t (count (λ (b : A). eqb (key b) n) rest) ≡ 0 →
        (count (λ (b : A). eqb (key b) n) rest ≡ 0 → without key n rest ≡ rest) →
        keep_if (not t) a (without key n rest) ≡ a ∷ rest
    go true h m = absurd (omega arith)
    go false h m = ap (λ (l : List A). a ∷ l) (m h)

issue_kept : (n : ℕ) → n ≤ issues_most → issue_of (pos n) ≡ n
issue_kept n h = rw (le-leb n issues_most h)

pub record Undone (d e : Desk) : Type 0 where
  pub standing : e.standing ≡ d.standing
  pub volts : e.volts ≡ d.volts

-- what stands first in the list is found, and taken away again
take_back : (d : Desk) → Orderly d → (t : Standing) (later : ℕ) → t.issue ≡ d.next → d.next ≤ issues_most →
    Undone d
    (desk.lifted (record { cards = d.cards; standing = t ∷ d.standing; volts = d.volts; next = later })
    (desk.may_lift (record { cards = d.cards; standing = t ∷ d.standing; volts = d.volts; next = later })
    (pos d.next))).desk
unfolding first_with without
take_back d o t later e h =
    rw (issue_kept d.next h, eq-eqb t.issue d.next e)
    (record {
      standing =
          rw (eq-eqb t.issue t.issue refl)
          (ap (λ (n : ℕ). without (λ (u : Standing). u.issue) n d.standing) e
          ∙ without_none (λ (u : Standing). u.issue) d.next d.standing (o.standing.below d.next
          (le_refl _)));
      volts = refl;
    })

-- on the desk: what was placed is found, and taken away again
undo : (d : Desk) → Orderly d → (card : ℤ) (nodes : List ℤ) (sized : length nodes ≡ roles) (n : ℕ) →
    (step d (place card nodes sized)).reply ≡ desk.issued n →
    Undone d (step (step d (place card nodes sized)).desk (lift (pos n))).desk
unfolding step
undo d o card nodes sized n e = go (desk.may_place d card nodes) refl e
  where
    go : (v : Verdict Held) → desk.may_place d card nodes ≡ v → (desk.placed d nodes v).reply ≡ desk.issued n →
        Undone d (desk.lifted (desk.placed d nodes v).desk (desk.may_lift (desk.placed d nodes v).desk (pos n))).desk
    go (no f) p r = clash cc
    go (yes h) p r =
        let same : d.next ≡ n = cc in
        let m = (places (desk.held_as (issue_of card) d.cards) d.next (order_place d card nodes ∙ p)).number in
        rw (← same)
        (take_back d o _ _ refl
        (ltb-false issues_most d.next m))

total_same : {d e : Desk} → Undone d e → (i : ℕ) → total e i ≡ total d i
unfolding total
total_same u i = rw (u.standing, u.volts)

after_undone : (calls : List Call) (card : ℤ) (nodes : List ℤ) (sized : length nodes ≡ roles) (n : ℕ) →
    (step (after calls) (place card nodes sized)).reply ≡ desk.issued n →
    Undone (after calls) (after (lift (pos n) ∷ place card nodes sized ∷ calls))
unfolding after
after_undone calls card nodes sized n e = undo (after calls) (orderly_after calls) card nodes sized n e

-- lifting the transistor that was just placed brings back every total
pub lift_undoes_place : (calls : List Call) (card : ℤ) (nodes : List ℤ) (sized : length nodes ≡ roles) (n : ℕ) →
    (answered (board_after calls) (place card nodes sized)).answer ≡ Issue n →
    (board_after (lift (pos n) ∷ place card nodes sized ∷ calls)).totals ≡ (board_after calls).totals
lift_undoes_place calls card nodes sized n e =
    let later = lift (pos n) ∷ place card nodes sized ∷ calls in
    let a = totals_long (invariant_after later) in
    let b = totals_long (invariant_after calls) in
    ext_get_or (pos 0) (board_after later).totals (board_after calls).totals (a ∙ sym b)
    (λ i h. totals_are_sums later i (subst (λ (k : ℕ). i < k) a h)
    ∙ back i
    ∙ sym (totals_are_sums calls i (subst (λ (k : ℕ). i < k) a h)))
  where
    told : (step (after calls) (place card nodes sized)).reply ≡ desk.issued n
    told =
        sym (follows calls (place card nodes sized)).reply
        ∙ ap
        (λ (a : Answer). reply_of a (answered (board_after calls) (place card nodes sized)).ticks
        (answered (board_after calls) (place card nodes sized)).list)
        e

    back : (i : ℕ) → total (after (lift (pos n) ∷ place card nodes sized ∷ calls)) i ≡ total (after calls) i
    back i = total_same (after_undone calls card nodes sized n told) i
