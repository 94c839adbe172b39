-- What each call leaves, from what the board's method and the words of its answer ensure.
use mathlib.Core.Path.{◌≡◌, ap, ◌∙◌}
use Prim.Native.Nat.{ℕ}
use Rattle.board.specs.declared.Answered.{Answered}
use Rattle.board.specs.Promise.{Reached}
use Rattle.host_words.specs.Words.{result_of}
use Rattle.host_changes.specs.Changes.{Leaves}

pub leaves : (e a : Answered) {r : ℕ} → a ≡ e → Reached a.board → r ≡ result_of a.answer → Leaves e a.board r
leaves e a q h k =
    record {
      result = k ∙ ap (λ (x : Answered). result_of x.answer) q;
      board = ap (λ (x : Answered). x.board) q;
      reached = h;
    }
