-- `ends::looked_at` meets its contract: what is given, or the inner role's for each.
use mathlib.Core.List.{[], ◌∷◌}
use lib.ListN.{get_or}
use lib.IntN.{pos}
use mir.Syntax.{w64}
use mir.ValLaws.{to_z-of_z}
use borrow.Author.Rules.{rules}
use Rattle.terms.specs.Looked.{looked_at}
use Rattle.ends.proofs.looked_at.Goals as goal

pub returns-then-wide : goal.returns-then-wide
unfolding looked_at
returns-then-wide c = rw c.if-wide.true

pub returns : goal.returns
unfolding looked_at
returns c =
    let e1 = to_z-of_z w64 (get_or c.args.given 0 (pos 0)) (search rules) in
    let b1 = to_z-of_z w64 (get_or c.args.given 1 (pos 0)) (search rules) in
    let b2 = to_z-of_z w64 (get_or c.args.given 2 (pos 0)) (search rules) in
    let c1 = to_z-of_z w64 (get_or c.args.given 3 (pos 0)) (search rules) in
    let c2 = to_z-of_z w64 (get_or c.args.given 4 (pos 0)) (search rules) in
    let c4 = to_z-of_z w64 (get_or c.args.given 5 (pos 0)) (search rules) in
    let t = to_z-of_z w64 (get_or c.args.given 6 (pos 0)) (search rules) in
    rw c.if-wide.false
    (λ i. e1 i ∷ b1 i ∷ b2 i ∷ c1 i ∷ c2 i ∷ c4 i ∷ t i ∷ e1 i ∷ b1 i ∷ c4 i ∷ c4 i ∷ [])
