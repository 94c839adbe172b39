-- A call's board is again one that calls from a fresh board leave, whatever the slices hold.
use mathlib.Core.Path.{◌≡◌, refl, sym, ap, ◌∙◌, subst}
use mathlib.Core.Bool.{Bool, true, false, ◌||◌}
use mathlib.Core.List.{List, [], ◌∷◌}
use Prim.Native.Nat.{ℕ}
use native.Mathlib.Omega.{arith}
use lib.ListN.{length}
use lib.IntN.{ℤ}
use mir.Syntax.{w32}
use mir.Val.{Fits}
use Rattle.bytes_le.specs.Buffer.{over}
use Rattle.std.specs.Prelude.{Result, Ok, Err}
use Rattle.std.specs.Result.{result_and, result_unwrap_or}
use Rattle.refusal.specs.declared.Refusal.{Refusal}
use Rattle.refusal.specs.declared.Refusal.TheVariants.{OutOfRange}
use Rattle.refusal.specs.Order.{Verdict, no, yes, refuse_if}
use Rattle.slices.specs.Slices.{other_length, Clears}
use Rattle.terms.specs.Rows.{roles}
use Rattle.model.specs.Board as model
use Rattle.model.specs.declared.Answer.{Answer}
use Rattle.model.specs.declared.Answer.TheVariants.{Done, Currents}
use Rattle.model.specs.Answering.{answer_of}
use Rattle.model.specs.Desk.{Call, load, place, move, lift, withdraw, look_up, node, currents, who, sum_up}
use Rattle.model.specs.Model.{no_ticks, loaded_of, withdrawn_of, looked_of, opened_of, listed_of, summed_of}
use Rattle.reading.specs.Reading.{told_currents, told_ticks}
use Rattle.reading.specs.OfLending.Rest.{Rest, State, bare}
use Rattle.reading.specs.OfLending.Lending.{Lent, fresh_rest, fresh_by, fresh_lent, placed_lent, moved_lent, lifted_lent}
use Rattle.reading.specs.OfLending.Lending.{showed_lent, lent_of}
use Rattle.reading.specs.OfLending.Reached as lending
use Rattle.reading.specs.OfLending.inner.Lent.{state_with, LeavesLevels, LeavesPlaces}
use Rattle.reading.proofs.OfLending.Footing.{footing_reached}
use Rattle.board.specs.declared.Board.{Board}
use Rattle.board.specs.declared.Answered.{Answered}
use Rattle.board.specs.Promise.{model_of, board_of, state_in, given_as, handed_as, Reached}
use Rattle.board.specs.Unique.{Allows, AllowsLent, AllowsTotals, AllowsBoth, AllowsList}
use Rattle.board.proofs.Whole.{with_places, with_held, handed, placed_whole, lifted_whole, moved_whole}
use Rattle.board.proofs.Whole.{showed_lent_whole}

one_more : {r : Rest} (volts totals : List ℤ) (c : Call) → lending.Reached r →
    lending.Reached (lent_of (state_with r volts totals) c).state.rest
unfolding lending.rest_after
one_more volts totals c k =
    record {
      calls = record { volts = volts; totals = totals; call = c } ∷ k.calls;
      leaves = ap (λ (r : Rest). (lent_of (state_with r volts totals) c).state.rest) k.leaves;
    }

-- the next number is one above the last at most, so that 32 bits hold it
pub next_fits : {b : Board} → Reached b → Fits w32 b.next
next_fits k = let h = (footing_reached k).footed.numbered in record { fits = omega arith }

-- what is handed back is reached, where what it was handed is
handed_on : (l : Lent) {r : Answered} → r ≡ handed_as l → lending.Reached l.state.rest → Reached r.board
handed_on l e k = subst (λ (x : Answered). Reached x.board) (sym e) k

-- so that what any call gives is reached, whatever the slices hold
pub reached_by : {b : Board} {r : Answered} → Reached b → (volts totals : List ℤ) (c : Call) →
    r ≡ handed_as (lent_of (state_with (model_of b) volts totals) c) → Reached r.board
reached_by {b} k volts totals c e =
    handed_on (lent_of (state_with (model_of b) volts totals) c) e (one_more volts totals c k)

-- ---- what reading a transistor comes to, by the library's words

pub currents_so : (r : Result (List ℤ) Refusal) {x : Result Answer Refusal} → x ≡ result_and r (Ok Currents) →
    answer_of x ≡ told_currents r
currents_so (Ok ticks) e = rw e
currents_so (Err f) e = rw e

pub ticks_so : (r : Result (List ℤ) Refusal) → result_unwrap_or r no_ticks ≡ told_ticks r
ticks_so (Ok ticks) = refl
ticks_so (Err f) = refl

-- ---- a fresh board

fresh_there : (volts totals : List ℤ) (v : Verdict Answer) → (fresh_by volts totals v).state.rest ≡ fresh_rest
fresh_there volts totals (no f) = refl
fresh_there volts totals (yes told) = refl

module _ (volts totals : List ℤ) {b : Board} (e : b ≡ board_of fresh_rest) {v t : List ℤ} where
  -- what was cleared, or left, is what a fresh call leaves
  by_verdict : (w : Verdict Answer) → fresh_lent volts totals ≡ fresh_by volts totals w → {r : Answered} →
      r ≡ handed_as (fresh_by volts totals w) → v ≡ (fresh_by volts totals w).state.volts →
      t ≡ (fresh_by volts totals w).state.totals → AllowsBoth (fresh_lent volts totals) r v t
  unfolding lending.rest_after
  by_verdict w f {r} g p q =
      subst (λ (l : Lent). AllowsBoth l r v t) (sym f) (
        g,
        (
          handed_on (fresh_by volts totals w) g
              (record { calls = []; leaves = sym (fresh_there volts totals w) }),
          (p, q),
        ),
      )

  pub fresh_so : {r : Result (Unit {0}) Refusal} → Clears volts totals r v t → {a : Answer} →
      a ≡ answer_of (result_and r (Ok Done)) →
      AllowsBoth (fresh_lent volts totals) (record { board = b; answer = a; ticks = no_ticks }) v t
  unfolding fresh_lent
  fresh_so {r} k {a} f = go (other_length volts || other_length totals) refl
    where
      told : (x : Result (Unit {0}) Refusal) → r ≡ x → a ≡ answer_of (result_and x (Ok Done))
      told x e = f ∙ ap (λ (y : Result (Unit {0}) Refusal). answer_of (result_and y (Ok Done))) e

      handed_so : {g : Answer} → a ≡ g →
          ◌≡◌ {A = Answered} (record { board = b; answer = a; ticks = no_ticks })
          (record { board = board_of fresh_rest; answer = g; ticks = no_ticks })
      handed_so p = rw (p, e)

      go : (off : Bool) → other_length volts || other_length totals ≡ off →
          AllowsBoth (fresh_lent volts totals) (record { board = b; answer = a; ticks = no_ticks }) v t
      go true o =
          by_verdict (no OutOfRange) (ap (λ (x : Bool). fresh_by volts totals (refuse_if x OutOfRange (yes Done))) o)
          (handed_so (told (Err OutOfRange) (k.told ∙ rw o))) (k.volts_are ∙ rw o) (k.totals_are ∙ rw o)
      go false o =
          by_verdict (yes Done) (ap (λ (x : Bool). fresh_by volts totals (refuse_if x OutOfRange (yes Done))) o)
          (handed_so (told (Ok tt) (k.told ∙ rw o))) (k.volts_are ∙ rw o) (k.totals_are ∙ rw o)

-- ---- calls that take no slices

module _ {b : Board} {r : Answered} (k : Reached b) where
  pub after_load : (name bytes : List ℕ) {a : model.Answered} → r ≡ given_as a →
      a ≡ loaded_of (bare (model_of b)) name bytes → Allows (loaded_of (bare (model_of b)) name bytes) r
  unfolding lent_of
  after_load name bytes e d = let w = e ∙ ap given_as d in (w, reached_by k [] [] (load name bytes) w)

  pub after_withdraw : (n : ℤ) {a : model.Answered} → r ≡ given_as a → a ≡ withdrawn_of (bare (model_of b)) n →
      Allows (withdrawn_of (bare (model_of b)) n) r
  unfolding lent_of
  after_withdraw n e d = let w = e ∙ ap given_as d in (w, reached_by k [] [] (withdraw n) w)

  pub after_look : (name : List ℕ) {a : model.Answered} → r ≡ given_as a → a ≡ looked_of (bare (model_of b)) name →
      Allows (looked_of (bare (model_of b)) name) r
  unfolding lent_of
  after_look name e d = let w = e ∙ ap given_as d in (w, reached_by k [] [] (look_up name) w)

  pub after_currents : (n : ℤ) {a : model.Answered} → r ≡ given_as a → a ≡ opened_of (bare (model_of b)) n →
      Allows (opened_of (bare (model_of b)) n) r
  unfolding lent_of
  after_currents n e d = let w = e ∙ ap given_as d in (w, reached_by k [] [] (currents n) w)

  pub after_sum : (n : ℤ) {a : model.Answered} → r ≡ given_as a → a ≡ summed_of (bare (model_of b)) n →
      Allows (summed_of (bare (model_of b)) n) r
  unfolding lent_of
  after_sum n e d = let w = e ∙ ap given_as d in (w, reached_by k [] [] (sum_up n) w)

  pub after_list : (n : ℤ) (old : List ℕ) {new : List ℕ} {a : model.Answered} → r ≡ given_as a →
      a ≡ listed_of (bare (model_of b)) n (length old) →
      new ≡ over (listed_of (bare (model_of b)) n (length old)).list old →
      AllowsList (listed_of (bare (model_of b)) n (length old)) old r new
  unfolding lent_of
  after_list n old e d l = let w = e ∙ ap given_as d in (w, (reached_by k [] [] (who n (length old)) w, l))

-- ---- calls that take them, from what was left in the arrays that were lent; a number is handed on as `given`

module _ (b : Board) (k : Reached b) (volts totals : List ℤ) where
  -- the state that the call finds
  abbrev found : State
  found = state_in b volts totals

  module _ {answer : Answer} {issues cards seats nodes naming : List ℕ} {left currents : List ℤ} where
    pub after_place : (card : ℤ) (on : List ℤ) → length on ≡ roles → {given : ℤ} → given ≡ card → {next : ℕ} →
        LeavesPlaces (placed_lent found given on) answer issues cards seats nodes naming left currents next →
        AllowsTotals (placed_lent found card on)
        (handed (with_places (model_of b) issues cards seats nodes naming currents next) answer) left
    unfolding lent_of
    after_place card on sized e {next} l =
        let lent =
        subst (λ (n : ℤ).
        LeavesPlaces (placed_lent found n on) answer issues cards seats nodes naming left currents next) e l in
        let w = placed_whole found card on lent in
        (w, (handed_on (placed_lent found card on) w (one_more volts totals (place card on sized) k), lent.totals_are))

    pub after_lift : (n : ℤ) {given : ℤ} → given ≡ n →
        LeavesPlaces (lifted_lent found given) answer issues cards seats nodes naming left currents b.next →
        AllowsTotals (lifted_lent found n)
        (handed (with_places (model_of b) issues cards seats nodes naming currents b.next) answer) left
    unfolding lent_of
    after_lift n e l =
        let lent =
        subst (λ (m : ℤ).
        LeavesPlaces (lifted_lent found m) answer issues cards seats nodes naming left currents b.next) e l in
        let w = lifted_whole found n lent in
        (w, (handed_on (lifted_lent found n) w (one_more volts totals (lift n) k), lent.totals_are))

  pub after_move : (pairs : List ℤ) {answer : Answer} {moved left currents : List ℤ} →
      LeavesLevels (moved_lent found pairs) answer moved left currents →
      AllowsBoth (moved_lent found pairs) (handed (with_held (model_of b) currents) answer) moved left
  unfolding lent_of
  after_move pairs l =
      let w = moved_whole found pairs l in
      (w, (handed_on (moved_lent found pairs) w (one_more volts totals (move pairs) k), (l.volts_are, l.totals_are)))

  pub after_node : (n : ℤ) {given : ℤ} → given ≡ n → {answer : Answer} → answer ≡ (showed_lent found given).answer →
      AllowsLent (showed_lent found n) (handed (model_of b) answer)
  unfolding lent_of
  after_node n e {answer} l =
      let w = showed_lent_whole found n (l ∙ ap (λ (m : ℤ). (showed_lent found m).answer) e) in
      (w, handed_on (showed_lent found n) w (one_more volts totals (node n) k))
