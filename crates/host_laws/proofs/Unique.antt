-- One call has one outcome: whatever two results, boards, slices, buffers and places a promise allows are the same.
use mathlib.Core.Path.{◌≡◌, sym, ap, ◌∙◌}
use mathlib.Core.Bool.{cond}
use mathlib.Core.List.{List}
use Prim.Native.Nat.{ℕ}
use lib.Dec.{eqb}
use lib.IntN.{ℤ}
use Rattle.refusal.specs.Unique.{unique_by_equation}
use Rattle.model.specs.Board as model
use Rattle.lending.specs.Lending.{Lent, fresh_lent}
use Rattle.fetching.specs.OfBoard.Board.{Board}
use Rattle.fetching.specs.OfBoard.Answered.{Answered}
use Rattle.fetching.specs.OfBoard.Promise.{handed_as}
use Rattle.host_lent.specs.InPlace.{MovedInPlace}
use Rattle.host_moves.specs.OfHostChanges.Changes.{Leaves, Begun, Loaded}
use Rattle.host_moves.specs.Moves.{Moved, Lifted}
use Rattle.host_placing.specs.Placing.{Placed}
use Rattle.host_numbers.specs.Filled.{filled_if}
use Rattle.host_queries.specs.Queries.{LookedUp, Shown, Opened, Listed, SummedUp}
use Rattle.host_shelf.specs.Shelf.{ReadOut, Found}

-- ---- calls that change a board

module _ {b' b'' : Board} {r s : ℕ} where
  pub unique_leaves : {e : Answered} → Leaves e b' r → Leaves e b'' s → (r ≡ s) × (b' ≡ b'')
  unique_leaves p q = (unique_by_equation p.result q.result, unique_by_equation p.board q.board)

  pub unique_begun : {b : Board} {v v' v'' t t' t'' : List ℤ} → Begun b b' v v' t t' r → Begun b b'' v v'' t t'' s →
      (r ≡ s) × ((b' ≡ b'') × ((v' ≡ v'') × (t' ≡ t'')))
  unique_begun {b} {v} {v'} {v''} {t} p q =
      let same = unique_by_equation p.result q.result in (
        same,
        (
          p.board ∙ ap (λ (n : ℕ). cond (eqb n 0) (handed_as (fresh_lent v t)).board b) same ∙ sym q.board,
          (unique_by_equation p.volts q.volts, unique_by_equation p.totals q.totals),
        ),
      )

  pub unique_loaded : {a : model.Answered} {i i' i'' : ℕ} → Loaded a b' i i' r → Loaded a b'' i i'' s →
      (r ≡ s) × ((b' ≡ b'') × (i' ≡ i''))
  unique_loaded p q =
      let same = unique_leaves p.leaves q.leaves in
      (same.0, (same.1, unique_by_equation p.issue q.issue))

  pub unique_placed : {l : Lent} {t' t'' : List ℤ} {i i' i'' w w' w'' k k' k'' : ℕ} → Placed l b' t' i i' w w' k k' r →
      Placed l b'' t'' i i'' w w'' k k'' s →
      (r ≡ s) × ((b' ≡ b'') × ((t' ≡ t'') × ((i' ≡ i'') × ((w' ≡ w'') × (k' ≡ k'')))))
  unique_placed p q =
      let same = unique_leaves p.leaves q.leaves in (
        same.0,
        (
          same.1,
          (
            unique_by_equation p.totals q.totals,
            (
              unique_by_equation p.issue q.issue,
              (unique_by_equation p.who q.who, unique_by_equation p.branch q.branch),
            ),
          ),
        ),
      )

  pub unique_moved : {l : Lent} {v' v'' t' t'' : List ℤ} {w w' w'' k k' k'' : ℕ} → Moved l b' v' t' w w' k k' r →
      Moved l b'' v'' t'' w w'' k k'' s → (r ≡ s) × ((b' ≡ b'') × ((v' ≡ v'') × ((t' ≡ t'') × ((w' ≡ w'') × (k' ≡ k'')))))
  unique_moved p q =
      let same = unique_leaves p.leaves q.leaves in (
        same.0,
        (
          same.1,
          (
            unique_by_equation p.volts q.volts,
            (
              unique_by_equation p.totals q.totals,
              (unique_by_equation p.who q.who, unique_by_equation p.branch q.branch),
            ),
          ),
        ),
      )

  pub unique_lifted : {l : Lent} {t' t'' : List ℤ} → Lifted l b' t' r → Lifted l b'' t'' s →
      (r ≡ s) × ((b' ≡ b'') × (t' ≡ t''))
  unique_lifted p q =
      let same = unique_leaves p.leaves q.leaves in
      (same.0, (same.1, unique_by_equation p.totals q.totals))

-- a move on a board's own arrays; what it leaves of them besides the currents is what it was lent
pub unique_moved_in_place : {l : Lent} {v' v'' t' t'' c' c'' : List ℤ} {w w' w'' k k' k'' r s : ℕ} →
    MovedInPlace l v' t' c' w w' k k' r → MovedInPlace l v'' t'' c'' w w'' k k'' s →
    (r ≡ s) × ((v' ≡ v'') × ((t' ≡ t'') × ((c' ≡ c'') × ((w' ≡ w'') × (k' ≡ k'')))))
unique_moved_in_place p q = (
  unique_by_equation p.result q.result,
  (
    unique_by_equation p.volts q.volts,
    (
      unique_by_equation p.totals q.totals,
      (
        unique_by_equation p.currents q.currents,
        (unique_by_equation p.who q.who, unique_by_equation p.branch q.branch),
      ),
    ),
  ),
)

-- ---- calls that only read it

pub unique_looked_up : {a : model.Answered} {i i' i'' r s : ℕ} → LookedUp a i i' r → LookedUp a i i'' s →
    (r ≡ s) × (i' ≡ i'')
unique_looked_up p q = (unique_by_equation p.result q.result, unique_by_equation p.issue q.issue)

pub unique_shown : {l : Lent} {x x' x'' y y' y'' : ℤ} {r s : ℕ} → Shown l x x' y y' r → Shown l x x'' y y'' s →
    (r ≡ s) × ((x' ≡ x'') × (y' ≡ y''))
unique_shown p q = (
  unique_by_equation p.result q.result,
  (unique_by_equation p.microvolts q.microvolts, unique_by_equation p.ticks q.ticks),
)

pub unique_opened : {a : model.Answered} {old new new' : List ℤ} {r s : ℕ} → Opened a old new r → Opened a old new' s →
    (r ≡ s) × (new ≡ new')
unique_opened {a} {old} p q =
    let same = unique_by_equation p.result q.result in
    (same, p.currents ∙ ap (λ (n : ℕ). filled_if (eqb n 0) a.ticks old) same ∙ sym q.currents)

pub unique_listed : {a : model.Answered} {old new new' : List ℕ} {n n' n'' r s : ℕ} → Listed a old new n n' r →
    Listed a old new' n n'' s → (r ≡ s) × ((new ≡ new') × (n' ≡ n''))
unique_listed p q = (
  unique_by_equation p.result q.result,
  (unique_by_equation p.list q.list, unique_by_equation p.count q.count),
)

pub unique_summed_up : {a : model.Answered} {t t' t'' c c' c'' l l' l'' r s : ℕ} → SummedUp a t t' c c' l l' r →
    SummedUp a t t'' c c'' l l'' s → (r ≡ s) × ((t' ≡ t'') × ((c' ≡ c'') × (l' ≡ l'')))
unique_summed_up p q = (
  unique_by_equation p.result q.result,
  (
    unique_by_equation p.transistors q.transistors,
    (unique_by_equation p.cards q.cards, unique_by_equation p.largest q.largest),
  ),
)

-- ---- a library

pub unique_read_out : {s ns ns' ns'' ws ws' ws'' : List ℕ} {c c' c'' v v' v'' r q : ℕ} →
    ReadOut s ns ns' ws ws' c c' v v' r → ReadOut s ns ns'' ws ws'' c c'' v v'' q →
    (r ≡ q) × ((ns' ≡ ns'') × ((ws' ≡ ws'') × ((c' ≡ c'') × (v' ≡ v''))))
unique_read_out p q = (
  unique_by_equation p.result q.result,
  (
    unique_by_equation p.names q.names,
    (
      unique_by_equation p.words q.words,
      (unique_by_equation p.cards q.cards, unique_by_equation p.version q.version),
    ),
  ),
)

pub unique_found : {s x : List ℕ} {a a' a'' z z' z'' r q : ℕ} → Found s x a a' z z' r → Found s x a a'' z z'' q →
    (r ≡ q) × ((a' ≡ a'') × (z' ≡ z''))
unique_found p q = (
  unique_by_equation p.result q.result,
  (unique_by_equation p.at q.at, unique_by_equation p.size q.size),
)
