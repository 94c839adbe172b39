-- What locating, finding and handing out answer, the refusals in their order.
use Rattle.std.specs.Prelude.{◌≡◌, not, Result, Ok, Err, cond, ◌&&◌, List, [], ℕ, ◌+◌, ◌*◌, leb, ltb, length, take, drop}
use Rattle.std.specs.Borrow.{Bor}
use Rattle.bytes_le.specs.Le.{word_bytes}
use Rattle.name.specs.Name.{asked, padded}
use Rattle.refusal.specs.declared.Refusal.{Refusal}
use Rattle.refusal.specs.declared.Refusal.TheVariants.{BadName, NameNotHeld}
use Rattle.refusal.specs.Order.{Verdict, no, yes, refuse_if, and_then, Answer, tells}
use Rattle.finding.specs.declared.Place.{Place}
use Rattle.roll.specs.Directory.{names_in, among, place_of}
use Rattle.directory.specs.Judged.{numbers_of, library_judged}
use Rattle.directory.specs.Format.{records_at, count, directory}

-- ---- what locating and finding answer

abbrev pub verdict_located : Result Place Refusal → Verdict (ℕ × ℕ)
verdict_located (Ok p) = yes (p.at, p.size)
verdict_located (Err f) = no f

abbrev pub told_located : Result Place Refusal → Answer (ℕ × ℕ)
told_located r = tells (verdict_located r)

-- among n records of k words, the place of card i's and its size, in bytes
abbrev pub record_of : ℕ × ℕ → ℕ → ℕ × ℕ
record_of p i = (records_at p.0 + word_bytes * (p.1 * i), word_bytes * p.1)

-- 1, 2, 3, then 2 for the name that is asked for, then 4 where it is not held; else its card's record
unfoldable pub locating : List ℕ → List ℕ → Verdict (ℕ × ℕ)
locating s x =
    and_then (library_judged s)
    (λ (p : ℕ × ℕ).
    refuse_if (not (asked x)) BadName
    (refuse_if (not (among (padded x) (names_in (directory s)))) NameNotHeld
    (yes (record_of p (place_of (padded x) (names_in (directory s)))))))

-- the bytes that are handed out: a record's, or none
abbrev pub handed : Verdict (ℕ × ℕ) → List ℕ → List ℕ
handed (no f) s = []
handed (yes p) s = take p.1 (drop p.0 s)

-- where they stand, the block and the byte in it: a record at its place in the library
abbrev pub standing : Verdict (ℕ × ℕ) → Bor (List ℕ) → ℕ × ℕ
standing (no f) l = l.ref_ptr
standing (yes p) l = (l.ref_ptr.0, p.0 + l.ref_ptr.1)

-- finding x in the library l: the bytes of r, and that they are the library's own
pub record Finds (l : Bor (List ℕ)) (x : List ℕ) (r : Bor (List ℕ)) : Type 0 where
  pub bytes : r.now ≡ handed (locating l.now x) l.now
  pub place : r.ref_ptr ≡ standing (locating l.now x) l

-- ---- what handing a record out answers

-- the place and size of card k's record by the header's two numbers; no bytes, at the start, where k is none of the
-- cards or the library ends before the record does
unfoldable pub record_at : List ℕ → ℕ → ℕ × ℕ
record_at s k =
    let p : ℕ × ℕ = record_of (numbers_of s) k in
    cond (ltb k (count s) && leb (p.0 + p.1) (length s)) p (0, 0)

-- handing out the record of card k of the library l: the bytes of r, and that they are the library's own
pub record HandsOut (l : Bor (List ℕ)) (k : ℕ) (r : Bor (List ℕ)) : Type 0 where
  pub bytes : r.now ≡ handed (yes (record_at l.now k)) l.now
  pub place : r.ref_ptr ≡ standing (yes (record_at l.now k)) l
