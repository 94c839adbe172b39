-- Reading a transistor's currents changes nothing.
use mathlib.Core.Path.{◌≡◌}
use mathlib.Core.List.{List, []}
use Prim.Native.Nat.{ℕ}
use lib.IntN.{ℤ}
use Rattle.refusal.specs.Order.{Verdict, no, yes}
use Rattle.lending.specs.OfModel.Board.{Board}
use Rattle.lending.specs.OfModel.Answer.{Answer}
use Rattle.lending.specs.OfModel.Model.{opened, opened_of, may_open}

pub opened_whole : (b : Board) (n : ℤ) {answer : Answer} {ticks : List ℤ} →
    (answer ≡ (opened_of b n).answer) × (ticks ≡ (opened_of b n).ticks) →
    record { board = b; answer = answer; ticks = ticks; list = [] } ≡ opened_of b n
unfolding opened_of
opened_whole b n {answer} {ticks} e = go (may_open b n) e
  where
    go : (v : Verdict ℕ) → (answer ≡ (opened b v).answer) × (ticks ≡ (opened b v).ticks) →
        record { board = b; answer = answer; ticks = ticks; list = [] } ≡ opened b v
    go (no f) e = rw (e.0, e.1)
    go (yes i) e = rw (e.0, e.1)
