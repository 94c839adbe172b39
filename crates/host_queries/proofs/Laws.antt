-- What reading a transistor's currents leaves, from what the board's method and the words of its answer ensure.
use mathlib.Core.Path.{◌≡◌, sym, ap, ◌∙◌}
use mathlib.Core.Bool.{Bool, true, false}
use mathlib.Core.List.{List}
use Prim.Native.Nat.{ℕ}
use lib.Dec.{leb}
use lib.ListN.{length}
use lib.IntN.{ℤ}
use borrow.Author.Tests.{ne_eqb}
use Rattle.refusal.specs.declared.Refusal.TheVariants.{ShortOutput}
use Rattle.refusal.specs.Told.{number_of}
use Rattle.model.specs.Board as model
use Rattle.model.specs.Model.{opened_of}
use Rattle.lending.specs.Rest.{bare}
use Rattle.board.specs.declared.Board.{Board}
use Rattle.board.specs.declared.Answered.{Answered}
use Rattle.board.specs.Promise.{model_of, given_as}
use Rattle.board.specs.Unique.{Allows}
use Rattle.host_words.specs.Words.{result_of}
use Rattle.host_numbers.specs.Filled.{filled_if}
use Rattle.host_queries.specs.Queries.{opening_of, Opened}

module _ {a : Answered} (b : Board) (n : ℤ) (old : List ℤ) {n° : ℤ} {r : ℕ} (e : n° ≡ n)
    (p : Allows (opened_of (bare (model_of b)) n°) a) (q : r ≡ result_of a.answer) where
  abbrev opens : model.Answered
  opens = opened_of (bare (model_of b)) n

  same : a ≡ given_as opens
  same = p.0 ∙ ap (λ (z : ℤ). given_as (opened_of (bare (model_of b)) z)) e

  told : r ≡ result_of opens.answer
  told = q ∙ ap (λ (z : Answered). result_of z.answer) same

  pub opens_not : (r ≡ 0 → ⊥) → Opened opens old old r
  unfolding opening_of
  opens_not k = record { result = rw (← told) (rw (ne_eqb r 0 k)); currents = rw (ne_eqb r 0 k) }

  none : r ≡ 0 → result_of opens.answer ≡ 0
  none z = sym told ∙ z

  -- what was put, by whether there was room
  module _ (t : Bool) (f : t ≡ leb (length a.ticks) (length old)) where
    room : {u : Bool} → t ≡ u → leb (length opens.ticks) (length old) ≡ u
    room k = ap (λ (x : Answered). leb (length x.ticks) (length old)) (sym same) ∙ sym f ∙ k

    pub opens_all : {new : List ℤ} → r ≡ 0 → t ≡ true → new ≡ filled_if t a.ticks old → Opened opens old new 0
    unfolding opening_of
    opens_all z k g =
        record {
          result = rw (none z, room k);
          currents = g ∙ ap (λ (u : Bool). filled_if u a.ticks old) k
              ∙ ap (λ (x : Answered). filled_if true x.ticks old) same;
        }

    pub opens_short : {new : List ℤ} → r ≡ 0 → t ≡ false → new ≡ filled_if t a.ticks old →
        Opened opens old new (number_of ShortOutput)
    unfolding opening_of
    opens_short z k g =
        record { result = rw (none z, room k); currents = g ∙ ap (λ (u : Bool). filled_if u a.ticks old) k }
