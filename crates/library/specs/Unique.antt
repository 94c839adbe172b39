-- One input has one result: any two answers, and any two contents of a lent buffer, that a contract permits are equal.
use Rattle.std.specs.Prelude.{◌≡◌, Result, Ok, Err, List, ℕ, length}
use Rattle.std.proofs.Common.{ap}
use Rattle.refusal.specs.Unique.{unique_by_equation}
use Rattle.refusal.specs.Order.{Verdict, no, yes, tells, tells_one}
use Rattle.refusal.specs.declared.Refusal.{Refusal}
use Rattle.library.specs.declared.Contents.{Contents}
use Rattle.library.specs.Answers.{told_read, read, Reads, told_written, written, Writes}

-- the answer that a verdict is: one whatever tells it

abbrev pub as_reading : Verdict (ℕ × ℕ) → Result Contents Refusal
as_reading (yes p) = Ok (record { cards = p.0; version = p.1 })
as_reading (no f) = Err f

abbrev pub as_writing : Verdict ℕ → Result ℕ Refusal
as_writing (yes n) = Ok n
as_writing (no f) = Err f

pub reading_told : (r : Result Contents Refusal) (v : Verdict (ℕ × ℕ)) → told_read r ≡ tells v → r ≡ as_reading v
reading_told (Ok c) v e = ap as_reading (tells_one (yes (c.cards, c.version)) v e)
reading_told (Err f) v e = ap as_reading (tells_one (no f) v e)

pub writing_told : (r : Result ℕ Refusal) (v : Verdict ℕ) → told_written r ≡ tells v → r ≡ as_writing v
writing_told (Ok n) v e = ap as_writing (tells_one (yes n) v e)
writing_told (Err f) v e = ap as_writing (tells_one (no f) v e)

pub unique_read : {s ns ws : List ℕ} {r r' : Result Contents Refusal} {n n' w w' : List ℕ}
    → Reads s ns ws r n w → Reads s ns ws r' n' w' → (r ≡ r') × (n ≡ n') × (w ≡ w')
unique_read {s} {ns} {ws} {r} {r'} a b =
    let v = read s (length ns) (length ws) in (
      unique_by_equation (reading_told r v a.answer) (reading_told r' v b.answer),
      unique_by_equation a.names b.names,
      unique_by_equation a.words b.words,
    )

pub unique_write : {v : ℕ} {ns ws l : List ℕ} {r r' : Result ℕ Refusal} {m m' : List ℕ}
    → Writes v ns ws l r m → Writes v ns ws l r' m' → (r ≡ r') × (m ≡ m')
unique_write {v} {ns} {ws} {l} {r} {r'} a b =
    let w = written v ns ws (length l) in (
      unique_by_equation (writing_told r w a.answer) (writing_told r' w b.answer),
      unique_by_equation a.library b.library,
    )
