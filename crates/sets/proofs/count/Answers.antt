-- `count` counts the digits that are set.
use mathlib.Core.Path.{ap, ◌∙◌}
use Prim.Native.Nat.{ℕ}
use lib.Count.{ones}
use borrow.Author.Rules.{rules}
use Rattle.stretches.specs.OfPlaces.Counts.{transistors_most}
use Rattle.stretches.specs.OfPlaces.Sets.{member}
use Rattle.stretches.specs.OfPlaces.laws.Members.{set_of_members}
use Rattle.stretches.specs.OfPlaces.laws.Walks.{ones_list}
use Rattle.sets.proofs.count.Goals as goal

pub returns : goal.returns
returns c =
    ap ones (set_of_members transistors_most c.args.set (search rules))
    ∙ ones_list (member c.args.set) (λ (i : ℕ). i) transistors_most
