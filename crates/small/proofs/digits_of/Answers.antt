-- `digits_of` has the digits of every number.
use Rattle.std.proofs.Common.{◌≡◌, get_or, pos, arith, rules}
use Rattle.whole.specs.laws.Machine.{held}
use Rattle.small.proofs.Small.{small_none, small_more, small_all}
use Rattle.small.proofs.digits_of.Goals as goal

pub loop-v-init : goal.loop-v-init
loop-v-init c = small_none

pub loop-v-preserved : goal.loop-v-preserved
loop-v-preserved c =
    let z = get_or c.args.numbers.now c.loop-v.v-index (pos 0) in
    let t : held z ≡ z = search rules in
    small_more t c.around-digits.ensures c.loop-v.invariant

pub returns : goal.returns
returns c = small_all (omega arith) c.loop-v.invariant
