-- The bytes are compared one by one.
use Rattle.std.proofs.Common.{◌∙◌, ap}
use Rattle.std.proofs.Common.{List, ℕ}
use lib.Dec.{eqb}
use lib.Pointwise.{pointwise}
use Rattle.name.proofs.Equal.{same_bytes}
use Rattle.line_head.proofs.is_npn.Goals as goal

pub returns : goal.returns
returns c =
    c.eq.ensures ∙ ap (λ (l : List ℕ). pointwise eqb c.args.w.now l) c.as_slice.ensures ∙ same_bytes c.args.w.now _
