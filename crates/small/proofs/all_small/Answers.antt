-- `all_small` judges the digits of the totals, alone or with those of what comes and goes.
use Rattle.std.proofs.Common.{ltb-true}
use Rattle.small.proofs.Small.{below_or}
use Rattle.small.proofs.all_small.Goals as goal

pub returns-then-few : goal.returns-then-few
returns-then-few c = λ e. record {
  totals_small = c.digits_of-own.ensures (ltb-true _ _ e);
  near = c.requires.near c.if-few.true;
}

pub returns : goal.returns
returns c = λ e.
    let b = below_or c.digits_of-own.result c.digits_of_both.result (ltb-true _ _ e) in
    record { totals_small = c.digits_of-own.ensures b.0; near = c.digits_of_both.ensures b.1 }
