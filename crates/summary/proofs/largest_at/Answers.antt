use Rattle.std.proofs.Common.{arith, rules, sym, subst, ◌≡◌, ◌∙◌, ◌-◌, ◌||◌, cond, eqb, get_or, false}
use Rattle.std.proofs.Common.{nat_abs, pos, to_z, of_z, w64}
use Rattle.terms.specs.Rows.{rows_for, roles}
use Rattle.totals.specs.inner.Sums.{Wired}
use Rattle.totals.proofs.Roles.{wired_froms, wired_tos}
use Rattle.model.specs.Largest.{ends_at}
use Rattle.given.specs.laws.Larger.{max_larger}
use Rattle.summary.proofs.Ends.{from_last, from_more, from_all}
use Rattle.summary.proofs.largest_at.Goals as goal
use Rattle.summary.proofs.largest_at.Goals.{After-size_there}

pub loop-k-init : goal.loop-k-init
loop-k-init c = from_last _ _ _

-- the size of the branch that a turn looks at
size_is : (c : After-size_there) →
    let a = c.args in
    let k = c.loop-k.k - 1 in
    c.size_there.result ≡ cond (ends_at a.n a.on.now k) (nat_abs (get_or a.own.now k (pos 0))) 0
size_is c =
    let a = c.args in
    let k = c.loop-k.k - 1 in
    let z = get_or a.own.now k (pos 0) in
    let held : to_z w64 (of_z w64 z) ≡ z = search rules in
    c.size_there.ensures
    ∙ (λ j. cond
    (eqb (get_or a.on.now (get_or (c.from_roles-from.ensures j) k 0) 0) a.n ||
    eqb (get_or a.on.now (get_or (c.to_roles-to.ensures j) k 0) 0) a.n)
    (nat_abs (held j)) 0)

pub loop-k-preserved : goal.loop-k-preserved
loop-k-preserved c =
    from_more _ _ _ c.loop-k.invariant c.loop-k-test.true (omega arith)
    (size_is ((goal.at.loop-k-preserved c).After-size_there))
    (c.max-most.ensures ∙ max_larger _ _)

pub bounds-on-t : goal.bounds-on-t
bounds-on-t c =
    (subst (Wired roles) (sym c.to_roles-to.ensures) (wired_tos (rows_for false))).wired (c.loop-k.k - 1)

pub bounds-on-f : goal.bounds-on-f
bounds-on-f c =
    (subst (Wired roles) (sym c.from_roles-from.ensures) (wired_froms (rows_for false))).wired (c.loop-k.k - 1)

pub returns : goal.returns
returns c = from_all _ _ _ c.loop-k.invariant (omega arith)
