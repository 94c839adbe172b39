-- `branch::answering::keep_all` meets its contract: each turn keeps one voltage more, or finds it outside.
use Rattle.std.proofs.Common.{◌≡◌, refl, ap, ◌∙◌, length, rules, arith, w64, ℤ, pos}
use Rattle.std.specs.Prelude.{get_or}
use mir.ValLaws.{to_z-of_z}
use Rattle.volts.specs.Volts.{keeping}
use Rattle.volts.specs.laws.Keeping.{kept_is, outside_is}
use Rattle.terms.specs.Rows.{roles}
use Rattle.branch.proofs.Kept.{kept_more, keeps_all, keeps_none}
use Rattle.branch.proofs.answering.keep_all.Goals as goal
use Rattle.branch.proofs.answering.keep_all.Goals.{Start, After-keep}

-- as many voltages as roles
long : (c : Start) → length c.args.volts ≡ roles
long c = search rules

-- the voltage of the turn
abbrev voltage : After-keep → ℤ
voltage c = get_or c.args.volts c.loop-k.k (pos 0)

found : (c : After-keep) → c.keep.result ≡ keeping (voltage c)
found c = c.keep.ensures ∙ ap keeping (to_z-of_z w64 (voltage c) (search rules))

pub returns-in_err-kept : goal.returns-in_err-kept
returns-in_err-kept c =
    let p = goal.at.returns-in_err-kept c in
    let turn = p.After-keep in
    let l = long p.Start in
    c.from_residual.ensures
    ∙ keeps_none c.args.volts l (omega arith) (outside_is {v = voltage turn} refl (found turn) c.in_err-kept.was)

pub loop-k-preserved : goal.loop-k-preserved
loop-k-preserved c =
    let turn = (goal.at.loop-k-preserved c).After-keep in
    let l = long (goal.at.loop-k-preserved c).Start in
    kept_more (omega arith) (kept_is {v = voltage turn} refl (found turn) c.in_ok-kept.was) c.loop-k.invariant

pub returns : goal.returns
returns c =
    let l = long (goal.at.returns c).Start in keeps_all c.args.volts l (omega arith) c.loop-k.invariant
