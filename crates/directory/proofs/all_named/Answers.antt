-- `directory::all_named` meets its contract: each piece of the directory is well-formed.
use Rattle.std.proofs.Common.{◌&&◌, refl, ◌∙◌, lit<, rules, tests}
use Rattle.std.specs.List.{list_all}
use Rattle.std.proofs.lemmas.Iterator.Search.{all_from_yields_List}
use Rattle.std.proofs.lemmas.List.Recursion.{same_from_clauses}
use Rattle.name.specs.Name.{well_formed}
use Rattle.roll.specs.Directory.{name_bytes, names_in, all_named}
use Rattle.roll.proofs.Chunks.{YieldsList-from_chunks_exact}
use Rattle.directory.proofs.all_named.Goals as goal

pub returns : goal.returns
returns c =
    let d = c.args.d.now in
    all_from_yields_List well_formed _ _ _ c.all.ensures.ran
    (YieldsList-from_chunks_exact name_bytes d (lit< tt) c.chunks_exact.ensures.rest c.chunks_exact.ensures.size)
    (λ x b q k. search (rules, tests))
    ∙ same_from_clauses (list_all well_formed) all_named (λ x t. well_formed x && t) refl (λ _ _. refl) (λ _ _. refl)
    (names_in d)
