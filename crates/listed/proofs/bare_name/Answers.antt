-- The bytes before the first zero are the name's, and all where there is none.
use Rattle.std.proofs.Common.{◌≡◌, ◌<◌, length, rules, tests}
use Rattle.std.specs.List.{AllWithin, HoldsAt}
use Rattle.std.specs.Option.{MatchOption}
use Rattle.std.proofs.lemmas.Iterator.{IsFirst-from_position, YieldsList-from_slice}
use Rattle.listed.proofs.Bares.{bare_first, bare_whole}
use Rattle.listed.proofs.bare_name.Goals as goal
use Rattle.listed.proofs.bare_name.Goals.{After-position}

-- the first zero, or none
first : (c : After-position)
    → MatchOption c.position.result (AllWithin (λ b. b ≡ 0 → ⊥) c.args.padded.now 0 (length c.args.padded.now))
    (λ i. (i < length c.args.padded.now) × HoldsAt (λ b. b ≡ 0) c.args.padded.now i
    × AllWithin (λ b. b ≡ 0 → ⊥) c.args.padded.now 0 i)
first c =
    IsFirst-from_position _ _ _ (λ b. b ≡ 0) (λ b. b ≡ 0 → ⊥) c.position.ensures.ran
    (YieldsList-from_slice c.args.padded.now c.iter.ensures.rest) (λ y q k. search (rules, tests))
    (λ y q k. search (rules, tests))

pub returns-in-Some : goal.returns-in-Some
returns-in-Some c =
    bare_first c.args.padded.now (rw c.in-Some.is at (first (goal.at.returns-in-Some c).After-position))

pub returns-in-None : goal.returns-in-None
returns-in-None c =
    bare_whole c.args.padded.now (rw c.in-None.is at (first (goal.at.returns-in-None c).After-position))
