-- A refused call changes nothing: the board, both slices and a lent issue number are what they were. Who overloads in
-- which branch is written where 15 or 18 is told, and nowhere else.
use mathlib.Core.Path.{◌≡◌, refl, ap, ◌∙◌}
use mathlib.Core.Bool.{Bool, true, false, ◌||◌}
use mathlib.Core.List.{List}
use Prim.Native.Nat.{ℕ}
use lib.IntN.{ℤ}
use borrow.Author.Tests.{ne_eqb}
use Rattle.refusal.specs.declared.Refusal.{Refusal}
use Rattle.refusal.specs.declared.Refusal.TheVariants.{Malformed, BadName, NameTwice, NameNotHeld, ShortOutput}
use Rattle.refusal.specs.declared.Refusal.TheVariants.{NotFinite, WrongLevel, BadExsub, BadOctave, OutOfReach}
use Rattle.refusal.specs.declared.Refusal.TheVariants.{NoRoom, Unknown, OutOfRange, SplitCollector, Overload}
use Rattle.refusal.specs.declared.Refusal.TheVariants.{CardInUse, NumbersUsedUp, Injection, NegativeIcss}
use Rattle.refusal.specs.declared.Refusal.TheVariants.{BadKey, BadNumber, KeyMissing, BadLine}
use Rattle.refusal.specs.Told.{number_of}
use Rattle.refusal.specs.Clash.{clash}
use Rattle.refusal.specs.Order.{Verdict, no, yes, refuse_if, and_then}
use Rattle.slices.specs.Slices.{other_length, off_slices, some_outside}
use Rattle.card.specs.declared.WorkedCard.{WorkedCard}
use Rattle.model.specs.Board as model
use Rattle.model.specs.declared.Answer.{Answer}
use Rattle.model.specs.declared.Answer.TheVariants.{Issue, Done, Node, Currents, Listed, Summed, Refused}
use Rattle.model.specs.Model as calls
use Rattle.lending.specs.Rest.{Rest, State, board_in, bare, rest_of}
use Rattle.lending.specs.Lending as lending
use Rattle.lending.specs.Lending.{refusal_in, change_verdict, lent_by, changing, fresh_by}
use Rattle.lending.specs.inner.Lent.{state_with}
use Rattle.fetching.specs.OfBoard.Board.{Board}
use Rattle.fetching.specs.OfBoard.Promise.{model_of, board_of, state_in, given_as}
use Rattle.host_words.specs.Words.{result_of, issue_over, who_in, branch_in, who_over, branch_over}
use Rattle.line.specs.Line.{Model}
use Rattle.line.specs.Answers.{reading_of, name_left, record_left}
use Rattle.listed.specs.Listed.{unpadded}
use Rattle.roles.specs.Roles as roles
use Rattle.host_lent.specs.InPlace.{MovedInPlace}
use Rattle.host_moves.specs.OfHostChanges.Changes.{Leaves, Begun, Loaded}
use Rattle.host_moves.specs.Moves.{Moved, Lifted}
use Rattle.host_placing.specs.Placing as placing
use Rattle.host_placing.specs.Placing.{is_list, placing_if, placing_of, Placed}
use Rattle.fetching.specs.Fetched as fetching

-- what passes every test was not refused by the board that was
passed : (off outside : Bool) (a told : Answer) →
    and_then (refuse_if off OutOfRange (refusal_in a)) (λ (x : Answer). refuse_if outside OutOfReach (yes x)) ≡ yes told →
    result_of a ≡ 0
passed true outside a told e = clash cc
passed false outside (Issue n) told e = refl
passed false outside Done told e = refl
passed false outside (Node v t) told e = refl
passed false outside Currents told e = refl
passed false outside (Listed n) told e = refl
passed false outside (Summed t c l) told e = refl
passed false outside (Refused f) told e = clash cc

-- so a result that is not 0 is a refusal, with the state and a lent issue number as they were
stays_by : (s : State) (a : model.Answered) (i : ℕ) (v : Verdict Answer) →
    ((told : Answer) → v ≡ yes told → result_of a.answer ≡ 0) → (result_of (lent_by s a v).answer ≡ 0 → ⊥) →
    ((lent_by s a v).state ≡ s) × (issue_over (lent_by s a v).answer i ≡ i)
stays_by s a i (no f) done k = (refl, refl)
stays_by s a i (yes told) done k = absurd (k (done told refl))

changing_stays : (call : model.Board → model.Answered) (s : State) (i : ℕ) →
    (result_of (changing call s).answer ≡ 0 → ⊥) →
    ((changing call s).state ≡ s) × (issue_over (changing call s).answer i ≡ i)
changing_stays call s i k =
    let a = call (board_in s) in
    stays_by s a i (change_verdict s a)
    (passed (off_slices s.volts s.totals) (some_outside a.board.totals) a.answer) k

module _ {b b' : Board} {r : ℕ} where
  pub refused_fresh : {v v' t t' : List ℤ} → Begun b b' v v' t t' r → (r ≡ 0 → ⊥) → (b' ≡ b) × ((v' ≡ v) × (t' ≡ t))
  unfolding lending.fresh_lent
  refused_fresh {v} {v'} {t} {t'} p k =
      let left = go (other_length v || other_length t) (λ z. k (p.result ∙ z)) in
      (rw (ne_eqb r 0 k) at p.board, (p.volts ∙ left.0, p.totals ∙ left.1))
    where
      go : (off : Bool) → (result_of (fresh_by v t (refuse_if off OutOfRange (yes Done))).answer ≡ 0 → ⊥) →
          ((fresh_by v t (refuse_if off OutOfRange (yes Done))).state.volts ≡ v)
          × ((fresh_by v t (refuse_if off OutOfRange (yes Done))).state.totals ≡ t)
      go true k = (refl, refl)
      go false k = absurd (k refl)

  pub refused_load : (name bytes : List ℕ) {i i' : ℕ} →
      Loaded (calls.loaded_of (bare (model_of b)) name bytes) b' i i' r → (r ≡ 0 → ⊥) → (b' ≡ b) × (i' ≡ i)
  unfolding calls.loaded_of
  refused_load name bytes {i} {i'} p k =
      let left = go (calls.may_load (bare (model_of b)) name bytes) (λ z. k (p.leaves.result ∙ z)) in
      (p.leaves.board ∙ left.0, p.issue ∙ left.1)
    where
      go : (v : Verdict WorkedCard) → (result_of (calls.loaded (bare (model_of b)) name v).answer ≡ 0 → ⊥) →
          (board_of (rest_of (calls.loaded (bare (model_of b)) name v).board) ≡ b)
          × (issue_over (calls.loaded (bare (model_of b)) name v).answer i ≡ i)
      go (no f) k = (refl, refl)
      go (yes c) k = absurd (k refl)

  pub refused_line_lem : (line : List ℕ) {i i' : ℕ} → Loaded (fetching.line_loaded_of (bare (model_of b)) line) b' i i' r →
      (r ≡ 0 → ⊥) → (b' ≡ b) × (i' ≡ i)
  unfolding fetching.line_loaded_of
  refused_line_lem line {i} {i'} p k = go (reading_of line fetching.no_name fetching.no_record) p
    where
      go : (v : Verdict Model) → Loaded (fetching.loaded_by (bare (model_of b)) v) b' i i' r → (b' ≡ b) × (i' ≡ i)
      go (no f) q = (q.leaves.board, q.issue)
      go (yes m) q =
          refused_load (unpadded (name_left (yes m) fetching.no_name)) (record_left (yes m) fetching.no_record) q k

  pub refused_withdraw : (n : ℤ) → Leaves (given_as (calls.withdrawn_of (bare (model_of b)) n)) b' r → (r ≡ 0 → ⊥) → b' ≡ b
  unfolding calls.withdrawn_of
  refused_withdraw n p k = p.board ∙ go (calls.may_withdraw (bare (model_of b)) n) (λ z. k (p.result ∙ z))
    where
      go : (v : Verdict ℕ) → (result_of (calls.withdrawn (bare (model_of b)) v).answer ≡ 0 → ⊥) →
          board_of (rest_of (calls.withdrawn (bare (model_of b)) v).board) ≡ b
      go (no f) k = refl
      go (yes i) k = absurd (k refl)

  module _ (v t : List ℤ) where
    pub refused_move : (pairs : List ℤ) {v' t' : List ℤ} {w w' k k' : ℕ} →
        Moved (lending.moved_lent (state_in b v t) pairs) b' v' t' w w' k k' r → (r ≡ 0 → ⊥) →
        (b' ≡ b) × ((v' ≡ v) × (t' ≡ t))
    unfolding lending.moved_lent
    refused_move pairs p n =
        let left = changing_stays (λ (x : model.Board). calls.moved_of x pairs) (state_in b v t) 0
        (λ z. n (p.leaves.result ∙ z)) in (
          p.leaves.board ∙ ap (λ (s : State). board_of s.rest) left.0,
          (p.volts ∙ ap (λ (s : State). s.volts) left.0, p.totals ∙ ap (λ (s : State). s.totals) left.0),
        )

    pub refused_lift : (n : ℤ) {t' : List ℤ} → Lifted (lending.lifted_lent (state_in b v t) n) b' t' r → (r ≡ 0 → ⊥) →
        (b' ≡ b) × (t' ≡ t)
    unfolding lending.lifted_lent
    refused_lift n p k =
        let left = changing_stays (λ (x : model.Board). calls.lifted_of x n) (state_in b v t) 0
        (λ z. k (p.leaves.result ∙ z)) in (
          p.leaves.board ∙ ap (λ (s : State). board_of s.rest) left.0,
          p.totals ∙ ap (λ (s : State). s.totals) left.0,
        )

    pub refused_place : (card : ℤ) (nodes : List ℤ) {t' : List ℤ} {i i' w w' k k' : ℕ} →
        Placed (placing_of (state_in b v t) card nodes) b' t' i i' w w' k k' r → (r ≡ 0 → ⊥) →
        (b' ≡ b) × ((t' ≡ t) × (i' ≡ i))
    unfolding placing.placing_of lending.placed_lent
    refused_place card nodes {t'} {i} p k =
        let left = go (is_list nodes) (λ z. k (p.leaves.result ∙ z)) in (
          p.leaves.board ∙ ap (λ (s : State). board_of s.rest) left.0,
          (p.totals ∙ ap (λ (s : State). s.totals) left.0, p.issue ∙ left.1),
        )
      where
        go : (on : Bool) → (result_of (placing_if on (state_in b v t) card nodes).answer ≡ 0 → ⊥) →
            ((placing_if on (state_in b v t) card nodes).state ≡ state_in b v t)
            × (issue_over (placing_if on (state_in b v t) card nodes).answer i ≡ i)
        go true k =
            changing_stays (λ (x : model.Board). calls.placed_of x card (roles.roles_of nodes)) (state_in b v t) i k
        go false k = (refl, refl)

-- of a board that lends its arrays it is the currents held that a move could change
pub refused_in_place : (b : Rest) (v t pairs : List ℤ) {v' t' c' : List ℤ} {w w' k k' r : ℕ} →
    MovedInPlace (lending.moved_lent (state_with b v t) pairs) v' t' c' w w' k k' r → (r ≡ 0 → ⊥) →
    (v' ≡ v) × ((t' ≡ t) × (c' ≡ b.currents))
unfolding lending.moved_lent
refused_in_place b v t pairs p n =
    let left = (changing_stays (λ (x : model.Board). calls.moved_of x pairs) (state_with b v t) 0
    (λ z. n (p.result ∙ z))).0 in (
      p.volts ∙ ap (λ (s : State). s.volts) left,
      (p.totals ∙ ap (λ (s : State). s.totals) left, p.currents ∙ ap (λ (s : State). s.rest.currents) left),
    )

-- ---- who overloads in which branch

module _ (w k : ℕ) where
  alone : (f : Refusal) → (number_of f ≡ 15 → ⊥) → (number_of f ≡ 18 → ⊥) → (who_in f w ≡ w) × (branch_in f k ≡ k)
  alone Malformed over inject = (refl, refl)
  alone BadName over inject = (refl, refl)
  alone NameTwice over inject = (refl, refl)
  alone NameNotHeld over inject = (refl, refl)
  alone ShortOutput over inject = (refl, refl)
  alone NotFinite over inject = (refl, refl)
  alone WrongLevel over inject = (refl, refl)
  alone BadExsub over inject = (refl, refl)
  alone BadOctave over inject = (refl, refl)
  alone OutOfReach over inject = (refl, refl)
  alone NoRoom over inject = (refl, refl)
  alone Unknown over inject = (refl, refl)
  alone OutOfRange over inject = (refl, refl)
  alone SplitCollector over inject = (refl, refl)
  alone (Overload i b) over inject = absurd (over refl)
  alone CardInUse over inject = (refl, refl)
  alone NumbersUsedUp over inject = (refl, refl)
  alone (Injection i b) over inject = absurd (inject refl)
  alone NegativeIcss over inject = (refl, refl)
  alone BadKey over inject = (refl, refl)
  alone BadNumber over inject = (refl, refl)
  alone KeyMissing over inject = (refl, refl)
  alone BadLine over inject = (refl, refl)

  untold : (a : Answer) → (result_of a ≡ 15 → ⊥) → (result_of a ≡ 18 → ⊥) → (who_over a w ≡ w) × (branch_over a k ≡ k)
  untold (Issue n) over inject = (refl, refl)
  untold Done over inject = (refl, refl)
  untold (Node v t) over inject = (refl, refl)
  untold Currents over inject = (refl, refl)
  untold (Listed n) over inject = (refl, refl)
  untold (Summed t c l) over inject = (refl, refl)
  untold (Refused f) over inject = alone f over inject

module _ {l : lending.Lent} {t' : List ℤ} {w w' k k' r : ℕ} (over : r ≡ 15 → ⊥) (inject : r ≡ 18 → ⊥) where
  pub told_by_no_move : {b' : Board} {v' : List ℤ} → Moved l b' v' t' w w' k k' r → (w' ≡ w) × (k' ≡ k)
  told_by_no_move p =
      let same = untold w k l.answer (λ z. over (p.leaves.result ∙ z)) (λ z. inject (p.leaves.result ∙ z)) in
      (p.who ∙ same.0, p.branch ∙ same.1)

  pub told_by_no_move_in_place : {v' c' : List ℤ} → MovedInPlace l v' t' c' w w' k k' r → (w' ≡ w) × (k' ≡ k)
  told_by_no_move_in_place p =
      let same = untold w k l.answer (λ z. over (p.result ∙ z)) (λ z. inject (p.result ∙ z)) in
      (p.who ∙ same.0, p.branch ∙ same.1)

  pub told_by_no_place : {b' : Board} {i i' : ℕ} → Placed l b' t' i i' w w' k k' r → (w' ≡ w) × (k' ≡ k)
  told_by_no_place p =
      let same = untold w k l.answer (λ z. over (p.leaves.result ∙ z)) (λ z. inject (p.leaves.result ∙ z)) in
      (p.who ∙ same.0, p.branch ∙ same.1)
