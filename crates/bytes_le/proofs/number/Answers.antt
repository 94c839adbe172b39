use Rattle.std.proofs.Common.{rules, ap, sym, ◌∙◌, ◌-◌, ℕ, List, take, get_or, arith}
use native.Mathlib.Nat.{lt_of_le_of_lt, le-add_right}
use lib.ListN.{drop_of_length-le}
use lib.Seq.{take-nil}
use Rattle.bytes_le.specs.Le.{le}
use Rattle.bytes_le.proofs.Laws.{rest, some, down_first, down_more, down_fits, down_last}
use Rattle.bytes_le.proofs.number.Goals as goal

pub returns-then-s-at : goal.returns-then-s-at
returns-then-s-at c =
    let s = c.args.s.now in
    let w = c.args.w in
    (sym (ap le (ap (take w) (drop_of_length-le s c.if-s-at.true) ∙ take-nil w)), some w)

pub loop-i-init : goal.loop-i-init
loop-i-init c = down_first _ c.args.w

pub overflow_mul-x : goal.overflow_mul-x
overflow_mul-x c =
    record {
      fits = lt_of_le_of_lt (le-add_right _ 0)
          (down_fits c.loop-i.invariant c.loop-i-test.true 0 (search rules) (omega arith));
    }

pub overflow_add-x : goal.overflow_add-x
overflow_add-x c =
    record { fits = down_fits c.loop-i.invariant c.loop-i-test.true _ (search rules) c.byte.ensures.1 }

pub loop-i-preserved : goal.loop-i-preserved
loop-i-preserved c =
    let here = ap (λ (l : List ℕ). get_or l (c.loop-i.i - 1) 0) (rest c.args.s.now c.args.at) in
    down_more c.loop-i.invariant c.loop-i-test.true _ (c.byte.ensures.0 ∙ here) c.byte.ensures.1

pub returns : goal.returns
returns c = down_last c.loop-i.invariant c.loop-i-test.false
