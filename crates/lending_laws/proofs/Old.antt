-- Lent is old: over slices that a board's own fresh call filled and only its calls have written since, with the newest
-- value, each call answers as the board with voltages and totals inside would, and leaves the state that it would
-- leave.
use mathlib.Core.Path.{◌≡◌, refl, sym, ap, ◌∙◌}
use mathlib.Core.Bool.{Bool, false}
use mathlib.Core.List.{List, [], ◌∷◌}
use Prim.Native.Nat.{ℕ}
use lib.ListN.{length}
use lib.IntN.{ℤ}
use Rattle.refusal.specs.declared.Refusal.{Refusal}
use Rattle.refusal.specs.declared.Refusal.TheVariants.{OutOfReach, OutOfRange}
use Rattle.refusal.specs.Clash.{clash}
use Rattle.refusal.specs.Order.{Verdict, no, yes, refuse_if, and_then}
use Rattle.card.specs.declared.WorkedCard.{WorkedCard}
use Rattle.given.specs.Pairs.{Shift}
use Rattle.slices.specs.Slices.{off_slices, some_outside}
use Rattle.model.specs.Counts.{nodes_most}
use Rattle.model.specs.Board.{Board, Answered}
use Rattle.model.specs.declared.Answer.{Answer}
use Rattle.model.specs.declared.Answer.TheVariants.{Issue, Done, Node, Currents, Listed, Summed, Refused}
use Rattle.model.specs.Verdict.{node_verdict}
use Rattle.model.specs.Desk.{Call, load, place, move, lift, withdraw, look_up, node, currents, who, sum_up}
use Rattle.model.specs.Model.{cards_of, transistors_of, volts_of, fresh_board, answered, board_after}
use Rattle.model.specs.Model.{loaded, may_load, loaded_of, placed, seen_on, may_place, placed_of, moved, may_move, moved_of}
use Rattle.model.specs.Model.{lifted, may_lift, lifted_of, withdrawn, may_withdraw, withdrawn_of, looked, may_look_up}
use Rattle.model.specs.Model.{looked_of}
use Rattle.model.specs.Model.{showed, showed_of, opened, may_open, opened_of, listed, may_list, listed_of, summed, summed_of}
use Rattle.model.specs.Model as old
use Rattle.model.proofs.Invariant.{Invariant, invariant_after}
use Rattle.lending.specs.Rest.{State, bare, rest_of, state_of}
use Rattle.lending.specs.Lending.{Lent, lent_as, refusal_in, lent_by, changing, seeing, beside, fresh_lent}
use Rattle.lending.specs.Lending.{placed_lent, moved_lent, lifted_lent, showed_lent, lent_of}
use Rattle.lending.specs.Reached.{state_after}
use Rattle.lending_laws.proofs.Slices.{board_again, slices_on, totals_inside}

-- ---- calls over the slices

-- a refusal leaves the board as it was
record Fair (b : Board) (a : Answered) : Type 0 where
  pub leaves : (f : Refusal) → a.answer ≡ Refused f → a ≡ old.refuse b f

-- where the slices' own tests refuse nothing, the answer is that of the board
told_so : {b : Board} {a : Answered} → Fair b a → lent_by (state_of b) a (refusal_in a.answer) ≡ lent_as a
told_so {b} {a} fair = go a.answer refl
  where
    go : (x : Answer) → a.answer ≡ x → lent_by (state_of b) a (refusal_in x) ≡ lent_as a
    go (Issue n) e = refl
    go Done e = refl
    go (Node v t) e = refl
    go Currents e = refl
    go (Listed n) e = refl
    go (Summed t c l) e = refl
    go (Refused f) e = ap lent_as (sym (fair.leaves f e))

-- a last test that refuses nothing
last_passes : (v : Verdict Answer) → and_then v (λ (told : Answer). refuse_if false OutOfReach (yes told)) ≡ v
last_passes (no f) = refl
last_passes (yes told) = refl

module _ (call : Board → Answered) {b : Board} (inv : Invariant b) (fair : Fair b (call b)) where
  changing_old : Invariant (call b).board → changing call (state_of b) ≡ lent_as (call b)
  changing_old next =
      ap (λ (c : Board). judged (call c) (off_slices (volts_of b) b.totals) (some_outside (call c).board.totals))
      (board_again b)
      ∙ ap (λ (off : Bool). judged (call b) off (some_outside (call b).board.totals)) (slices_on inv)
      ∙ ap (λ (out : Bool). judged (call b) false out) (totals_inside next)
      ∙ ap (lent_by (state_of b) (call b)) (last_passes (refusal_in (call b).answer))
      ∙ told_so fair
    where
      judged : Answered → Bool → Bool → Lent
      judged a off out =
          lent_by (state_of b) a
          (and_then (refuse_if off OutOfRange (refusal_in a.answer))
          (λ (told : Answer). refuse_if out OutOfReach (yes told)))

  seeing_old : seeing call (state_of b) ≡ lent_as (call b)
  seeing_old =
      ap (λ (c : Board). judged (call c) (off_slices (volts_of b) b.totals)) (board_again b)
      ∙ ap (judged (call b)) (slices_on inv)
      ∙ told_so fair
    where
      judged : Answered → Bool → Lent
      judged a off = lent_by (state_of b) a (refuse_if off OutOfRange (refusal_in a.answer))

-- each of the four leaves the board where it refuses
module _ (b : Board) where
  refused_fair : (f : Refusal) → Fair b (old.refuse b f)
  refused_fair f = record { leaves = λ g e. (let same : f ≡ g = cc in ap (old.refuse b) same) }

  fair_place : (card : ℤ) (nodes : List ℤ) → Fair b (placed_of b card nodes)
  unfolding placed_of
  fair_place card nodes = go (may_place b card (seen_on b card nodes))
    where
      go : (v : Verdict ℕ) → Fair b (placed b (seen_on b card nodes) v)
      go (no f) = refused_fair f
      go (yes i) = record { leaves = λ g e. clash cc }

  fair_move : (pairs : List ℤ) → Fair b (moved_of b pairs)
  unfolding moved_of
  fair_move pairs = go (may_move b pairs)
    where
      go : (v : Verdict (List Shift)) → Fair b (moved b v)
      go (no f) = refused_fair f
      go (yes shifts) = record { leaves = λ g e. clash cc }

  fair_lift : (n : ℤ) → Fair b (lifted_of b n)
  unfolding lifted_of
  fair_lift n = go (may_lift b n)
    where
      go : (v : Verdict ℕ) → Fair b (lifted b v)
      go (no f) = refused_fair f
      go (yes i) = record { leaves = λ g e. clash cc }

  fair_show : (n : ℤ) → Fair b (showed_of b n)
  unfolding showed_of
  fair_show n = go (node_verdict n)
    where
      go : (v : Verdict ℕ) → Fair b (showed b v)
      go (no f) = refused_fair f
      go (yes k) = record { leaves = λ g e. clash cc }

-- ---- calls beside the slices: none reads a voltage or a total

module _ (b : Board) where
  load_old : (name bytes : List ℕ) →
      beside (state_of b) (loaded_of (bare (rest_of b)) name bytes) ≡ lent_as (loaded_of b name bytes)
  unfolding loaded_of cards_of
  load_old name bytes = go (may_load b name bytes)
    where
      go : (v : Verdict WorkedCard) → beside (state_of b) (loaded (bare (rest_of b)) name v) ≡ lent_as (loaded b name v)
      go (no f) = refl
      go (yes c) = refl

  withdraw_old : (n : ℤ) → beside (state_of b) (withdrawn_of (bare (rest_of b)) n) ≡ lent_as (withdrawn_of b n)
  unfolding withdrawn_of cards_of transistors_of
  withdraw_old n = go (may_withdraw b n)
    where
      go : (v : Verdict ℕ) → beside (state_of b) (withdrawn (bare (rest_of b)) v) ≡ lent_as (withdrawn b v)
      go (no f) = refl
      go (yes i) = refl

  look_old : (name : List ℕ) → beside (state_of b) (looked_of (bare (rest_of b)) name) ≡ lent_as (looked_of b name)
  unfolding looked_of cards_of
  look_old name = go (may_look_up b name)
    where
      go : (v : Verdict ℕ) → beside (state_of b) (looked (bare (rest_of b)) v) ≡ lent_as (looked b v)
      go (no f) = refl
      go (yes n) = refl

  open_old : (n : ℤ) → beside (state_of b) (opened_of (bare (rest_of b)) n) ≡ lent_as (opened_of b n)
  unfolding opened_of transistors_of
  open_old n = go (may_open b n)
    where
      go : (v : Verdict ℕ) → beside (state_of b) (opened (bare (rest_of b)) v) ≡ lent_as (opened b v)
      go (no f) = refl
      go (yes i) = refl

  list_old : (n : ℤ) (room : ℕ) → beside (state_of b) (listed_of (bare (rest_of b)) n room) ≡ lent_as (listed_of b n room)
  unfolding listed_of transistors_of
  list_old n room = go (may_list b n room)
    where
      go : (v : Verdict ℕ) → beside (state_of b) (listed (bare (rest_of b)) v) ≡ lent_as (listed b v)
      go (no f) = refl
      go (yes k) = refl

  sum_old : (n : ℤ) → beside (state_of b) (summed_of (bare (rest_of b)) n) ≡ lent_as (summed_of b n)
  unfolding summed_of transistors_of
  sum_old n = go (node_verdict n)
    where
      go : (v : Verdict ℕ) → beside (state_of b) (summed (bare (rest_of b)) v) ≡ lent_as (summed b v)
      go (no f) = refl
      go (yes k) = refl

-- ---- any calls

-- one call more, on the slices of the board that was
call_old : (calls : List Call) (c : Call) →
    lent_of (state_of (board_after calls)) c ≡ lent_as (answered (board_after calls) c)
unfolding lent_of answered board_after placed_lent moved_lent lifted_lent showed_lent
call_old calls (load name bytes) = load_old (board_after calls) name bytes
call_old calls (place card nodes sized) =
    changing_old (λ (b : Board). placed_of b card nodes) (invariant_after calls)
    (fair_place (board_after calls) card nodes)
    (invariant_after (place card nodes sized ∷ calls))
call_old calls (move pairs) =
    changing_old (λ (b : Board). moved_of b pairs) (invariant_after calls) (fair_move (board_after calls) pairs)
    (invariant_after (move pairs ∷ calls))
call_old calls (lift n) =
    changing_old (λ (b : Board). lifted_of b n) (invariant_after calls) (fair_lift (board_after calls) n)
    (invariant_after (lift n ∷ calls))
call_old calls (withdraw n) = withdraw_old (board_after calls) n
call_old calls (look_up name) = look_old (board_after calls) name
call_old calls (node n) =
    seeing_old (λ (b : Board). showed_of b n) (invariant_after calls) (fair_show (board_after calls) n)
call_old calls (currents n) = open_old (board_after calls) n
call_old calls (who n room) = list_old (board_after calls) n room
call_old calls (sum_up n) = sum_old (board_after calls) n

module _ (volts totals : List ℤ) (v : length volts ≡ nodes_most) (t : length totals ≡ nodes_most) where
  fresh_old : (fresh_lent volts totals).state ≡ state_of fresh_board
  unfolding fresh_lent fresh_board
  fresh_old = rw (v, t)

  -- whatever calls were made, board and slices are those of the board that was
  pub state_is_old : (calls : List Call) → state_after volts totals calls ≡ state_of (board_after calls)
  unfolding state_after board_after
  state_is_old [] = fresh_old
  state_is_old (c ∷ calls) =
      ap (λ (s : State). (lent_of s c).state) (state_is_old calls) ∙ ap (λ (l : Lent). l.state) (call_old calls c)

  -- and the next one answers and leaves what it would: so never 13 for the slices, and never 10 for a total
  pub lent_is_old : (calls : List Call) (c : Call) →
      lent_of (state_after volts totals calls) c ≡ lent_as (answered (board_after calls) c)
  lent_is_old calls c = ap (λ (s : State). lent_of s c) (state_is_old calls) ∙ call_old calls c
