-- One input has one result: any two findings that a contract permits are equal.
use Rattle.std.specs.Prelude.{◌≡◌, ℕ, Result, Ok, Err}
use Rattle.std.proofs.Common.{ap}
use Rattle.refusal.specs.Unique.{unique_by_equation}
use Rattle.refusal.specs.Order.{Verdict, no, yes}
use Rattle.refusal.specs.declared.Refusal.{Refusal}
use Rattle.directory.specs.declared.Numbers.{Numbers}
use Rattle.directory.specs.Judged.{found}

-- a finding is had back from its verdict

abbrev as_found : Verdict (ℕ × ℕ) → Result Numbers Refusal
as_found (yes p) = Ok (record { cards = p.0; words = p.1 })
as_found (no f) = Err f

found_back : (r : Result Numbers Refusal) {v : Verdict (ℕ × ℕ)} → found r ≡ v → r ≡ as_found v
found_back (Ok a) e = ap as_found e
found_back (Err f) e = ap as_found e

pub unique_inspection : {r r' : Result Numbers Refusal} {v : Verdict (ℕ × ℕ)} → found r ≡ v → found r' ≡ v → r ≡ r'
unique_inspection {r} {r'} a b = unique_by_equation (found_back r a) (found_back r' b)
