-- The keys before the one that is found have other words, and where none is found all have.
use Rattle.std.proofs.Common.{◌≡◌, rules, tests}
use Rattle.std.proofs.lemmas.Iterator.{IsFirst-from_position, YieldsList-from_slice}
use Rattle.keys.proofs.Searches.{numbered}
use Rattle.keys.proofs.number_of.Goals as goal

pub returns : goal.returns
returns c =
    let x = c.packed-x.result in
    numbered c.args.word.now c.packed-x.ensures (search rules) c.position.result
    (IsFirst-from_position _ _ _ (λ y. x ≡ y) (λ y. x ≡ y → ⊥) c.position.ensures.ran
    (YieldsList-from_slice c.args.packed.now.numbers cc) (λ y q k. search (rules, tests)) (λ y q k. search (rules, tests)))
