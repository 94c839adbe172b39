-- `directory::judge` meets its contract: 2 before 3, and then what is handed in.
use Rattle.std.proofs.Common.{◌≡◌, true, false}
use Rattle.roll.specs.Directory.{names_in, all_named, twice}
use Rattle.directory.specs.Judged.{names_judged}
use Rattle.directory.proofs.judge.Goals as goal

pub returns-then-not-all_named : goal.returns-then-not-all_named
unfolding names_judged
returns-then-not-all_named c = let e : all_named (names_in c.args.d.now) ≡ false = cc in rw e

pub returns-then-doubled : goal.returns-then-doubled
unfolding names_judged
returns-then-doubled c =
    let e : all_named (names_in c.args.d.now) ≡ true = cc in
    let f : twice (names_in c.args.d.now) ≡ true = cc in
    rw (e, f)

pub returns : goal.returns
unfolding names_judged
returns c =
    let e : all_named (names_in c.args.d.now) ≡ true = cc in
    let f : twice (names_in c.args.d.now) ≡ false = cc in
    rw (e, f)
