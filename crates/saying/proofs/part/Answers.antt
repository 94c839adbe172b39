-- The rest from the place on, and a part of it.
use Rattle.saying.proofs.Parts.{gets, next_part}
use Rattle.saying.proofs.part.Goals as goal

pub returns : goal.returns
returns c =
    let s = c.args.s.now in
    let n = c.args.n in
    next_part s c.args.at n (gets s c.args.at _ _ _ c.get.ensures.lookup c.unwrap_or_default.ensures (λ e. e))
    (gets c.unwrap_or_default.result.now 0 n _ _ c.get-2.ensures.lookup c.unwrap_or_default-2.ensures (λ e. e))
