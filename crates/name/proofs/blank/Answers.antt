-- `name::blank` meets its contract: every byte is zero.
use Rattle.std.proofs.Common.{◌&&◌, eqb, refl, ◌∙◌, rules, tests}
use Rattle.std.specs.List.{list_all}
use Rattle.std.proofs.lemmas.Iterator.{YieldsList-from_slice}
use Rattle.std.proofs.lemmas.Iterator.Search.{all_from_yields_List}
use Rattle.std.proofs.lemmas.List.Recursion.{same_from_clauses}
use Rattle.name.specs.Name.{zeros}
use Rattle.name.proofs.blank.Goals as goal

pub returns : goal.returns
returns c =
    all_from_yields_List (λ b. eqb b 0) _ _ _ c.all.ensures.ran (YieldsList-from_slice c.args.s.now (cc))
    (λ x b q k. search (rules, tests))
    ∙ same_from_clauses (list_all (λ b. eqb b 0)) zeros (λ b t. eqb b 0 && t) refl (λ _ _. refl) (λ _ _. refl)
    c.args.s.now
