-- Zero, minus zero, and a size that the search found or not.
use Rattle.std.proofs.Common.{arith, rules}
use Rattle.shortest.proofs.Forms.{zero_form, no_minus_zero, searched_form}
use Rattle.shortest.proofs.Fewest.{formed_is}
use Rattle.shortest.proofs.form_of.Goals as goal

pub returns-then-w-eq0 : goal.returns-then-w-eq0
returns-then-w-eq0 c = formed_is _ _ (zero_form _ (search rules))

pub returns-then-size-eq0 : goal.returns-then-size-eq0
returns-then-size-eq0 c = formed_is _ _ (no_minus_zero (search rules) (search rules))

pub returns : goal.returns
returns c = formed_is _ _ (searched_form c.search.result (omega arith) (omega arith) c.search.ensures)
