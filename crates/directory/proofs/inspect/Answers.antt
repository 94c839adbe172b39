-- `directory::inspect` meets its contract: 1 by the header, then 2 and 3 by the directory.
use Rattle.std.proofs.Common.{◌≡◌, true, false, sym, ap, ◌∙◌, arith}
use mathlib.Core.Bool.{not}
use Rattle.refusal.specs.declared.Refusal.TheVariants.{Malformed}
use Rattle.directory.specs.Format.{words_of, headed}
use Rattle.directory.specs.Judged.{library_judged}
use Rattle.directory.proofs.Headers.{sized, headed_by}
use Rattle.directory.proofs.Inspections.{by_header}
use Rattle.directory.proofs.Verdicts.{drawn}
use Rattle.directory.proofs.inspect.Goals as goal
use Rattle.directory.proofs.inspect.Goals.{After-agrees}

said : (c : After-agrees) → c.agrees.result ≡ headed c.args.s.now
said c =
    headed_by c.args.s.now c.u16_at-version.ensures c.u16_at-count.ensures c.u32_at-directory.ensures
    c.u32_at-records.ensures c.u32_at-whole.ensures c.agrees.ensures

pub returns-then-not-agrees : goal.returns-then-not-agrees
unfolding library_judged
returns-then-not-agrees c =
    let e = said (goal.at.returns-then-not-agrees c).After-agrees in
    let f : headed c.args.s.now ≡ false = cc in
    sym (drawn (ap not f) Malformed _)

pub slice_bounds-names-end : goal.slice_bounds-names-end
slice_bounds-names-end c =
    let e = said (goal.at.slice_bounds-names-end c).After-agrees in
    let h = sized c.args.s.now (let f : headed c.args.s.now ≡ true = cc in f) in
    let n = c.u16_at-count.ensures in
    omega arith

pub returns : goal.returns
returns c =
    let e = said (goal.at.returns c).After-agrees in
    by_header c.args.s.now (let f : headed c.args.s.now ≡ true = cc in f) c.u16_at-count.ensures
    (c.width-words.ensures.0 ∙ ap words_of c.u16_at-version.ensures) c.judge.ensures
