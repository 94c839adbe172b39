-- `name::leading` meets its contract: it counts the bytes before the first that a name may not hold.
use Rattle.std.proofs.Common.{◌≡◌, ℕ, List, cond, suc, refl, ap, ◌∙◌, one-add, rules, tests}
use Rattle.std.specs.List.{prefix_len}
use Rattle.std.proofs.lemmas.Iterator.{YieldsList-from_slice}
use Rattle.std.proofs.lemmas.Iterator.Consumers.{count_from_yields_List, YieldsList-at}
use Rattle.std.proofs.lemmas.Iterator.Search.{YieldsList-from_take_while}
use Rattle.std.proofs.lemmas.List.Folds.{length-prefix_len}
use Rattle.std.proofs.lemmas.List.Recursion.{same_from_clauses}
use Rattle.name.specs.Name.{mark, run}
use Rattle.name.proofs.leading.Goals as goal

-- std counts the bytes that pass from the front, as the definition does
counts : (s : List ℕ) → prefix_len mark s ≡ run s
counts =
    same_from_clauses (prefix_len mark) run (λ b n. cond (mark b) (suc n) 0) refl
    (λ b s. ap (λ n. cond (mark b) n 0) (one-add (prefix_len mark s)))
    (λ _ _. refl)

pub returns : goal.returns
returns c =
    count_from_yields_List c.take_while.result _ c.count.ensures.ran
    (YieldsList-from_take_while _ mark
    (YieldsList-at c.take_while.ensures.source (YieldsList-from_slice c.args.s.now (cc)))
    c.take_while.ensures.closure c.take_while.ensures.done
    (λ x b q k. search (rules, tests)))
    ∙ length-prefix_len mark c.args.s.now
    ∙ counts c.args.s.now
