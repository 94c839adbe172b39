-- The size of the difference is divided, and the quotient turned where it is negative.
use Rattle.std.proofs.Common.{◌∙◌, sym, ap, arith, ℕ, ◌<◌, ◌≤◌, ◌^◌}
use Rattle.std.specs.Prelude.{pos, neg_ℤ}
use Rattle.whole.specs.Scale.{held_within}
use Rattle.quotients.specs.Quotient.{held_size, quotient_up, quotient_down, held_size_up, held_size_down}
use Rattle.quotients.proofs.Signs.{plus_fits, plus_is, minus_fits, minus_is}
use Rattle.quotients.proofs.quotient.Goals as goal
use Rattle.quotients.proofs.quotient.Goals.{After-shifted_quotient, After-shifted_quotient-else-a-b}

below : (c : After-shifted_quotient) → c.shifted_quotient.result < 2 ^ 63
below c =
    let l : c.shifted_quotient.result ≤ c.args.over = rw c.shifted_quotient.ensures (held_within _ _) in omega arith

above : (c : After-shifted_quotient-else-a-b) → c.shifted_quotient-else-a-b.result < 2 ^ 63
above c =
    let l : c.shifted_quotient-else-a-b.result ≤ c.args.over =
    rw c.shifted_quotient-else-a-b.ensures (held_within _ _) in
    omega arith

pub overflow_cast-result : goal.overflow_cast-result
overflow_cast-result c = plus_fits _ (below (goal.at.overflow_cast-result c).After-shifted_quotient)

pub overflow_sub-result : goal.overflow_sub-result
overflow_sub-result c = minus_fits _ (below (goal.at.overflow_sub-result c).After-shifted_quotient)

pub overflow_cast-result-else-a-b : goal.overflow_cast-result-else-a-b
overflow_cast-result-else-a-b c =
    plus_fits _ (above (goal.at.overflow_cast-result-else-a-b c).After-shifted_quotient-else-a-b)

pub returns-then-a-b : goal.returns-then-a-b
returns-then-a-b c =
    let a = c.args in
    minus_is _ (below (goal.at.returns-then-a-b c).After-shifted_quotient)
    ∙ ap (λ (n : ℕ). neg_ℤ (pos n)) c.shifted_quotient.ensures
    ∙ sym (held_size_down a.over _)
    ∙ ap (held_size a.over) (sym (quotient_down a.a a.b a.s a.d c.if-a-b.true))

pub returns-else-a-b : goal.returns-else-a-b
returns-else-a-b c =
    let a = c.args in
    plus_is _ (above (goal.at.returns-else-a-b c).After-shifted_quotient-else-a-b)
    ∙ ap pos c.shifted_quotient-else-a-b.ensures
    ∙ sym (held_size_up a.over _)
    ∙ ap (held_size a.over) (sym (quotient_up a.a a.b a.s a.d c.if-a-b.false))
