-- One input has one result: any two answers, and any two parts, that a contract permits are equal.
use Rattle.std.specs.Prelude.{◌≡◌, List, ℕ, Result, Ok, Err}
use Rattle.std.proofs.Common.{ap}
use Rattle.std.specs.Borrow.{Bor}
use Rattle.refusal.specs.Unique.{unique_by_equation}
use Rattle.refusal.specs.Order.{Verdict, no, yes, tells, tells_one}
use Rattle.refusal.specs.declared.Refusal.{Refusal}
use Rattle.finding.specs.declared.Place.{Place}
use Rattle.finding.specs.Answers.{told_located, locating, Finds, HandsOut}

-- the answer that a verdict is: one whatever tells it

abbrev pub as_located : Verdict (ℕ × ℕ) → Result Place Refusal
as_located (yes p) = Ok (record { at = p.0; size = p.1 })
as_located (no f) = Err f

pub located_told : (r : Result Place Refusal) (v : Verdict (ℕ × ℕ)) → told_located r ≡ tells v → r ≡ as_located v
located_told (Ok p) v e = ap as_located (tells_one (yes (p.at, p.size)) v e)
located_told (Err f) v e = ap as_located (tells_one (no f) v e)

pub unique_locate : (s x : List ℕ) (r r' : Result Place Refusal)
    → told_located r ≡ tells (locating s x) → told_located r' ≡ tells (locating s x) → r ≡ r'
unique_locate s x r r' a b =
    let v = locating s x in unique_by_equation (located_told r v a) (located_told r' v b)

pub unique_find : {l : Bor (List ℕ)} {x : List ℕ} {r r' : Bor (List ℕ)}
    → Finds l x r → Finds l x r' → (r.now ≡ r'.now) × (r.ref_ptr ≡ r'.ref_ptr)
unique_find a b = (unique_by_equation a.bytes b.bytes, unique_by_equation a.place b.place)

pub unique_record_at : {l : Bor (List ℕ)} {k : ℕ} {r r' : Bor (List ℕ)}
    → HandsOut l k r → HandsOut l k r' → (r.now ≡ r'.now) × (r.ref_ptr ≡ r'.ref_ptr)
unique_record_at a b = (unique_by_equation a.bytes b.bytes, unique_by_equation a.place b.place)
