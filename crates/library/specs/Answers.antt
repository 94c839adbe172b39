-- What reading and writing answer, the refusals in their order, and what they leave in a lent buffer.
use Rattle.std.specs.Prelude.{◌≡◌, Result, Ok, Err, ◌||◌, List, ℕ, ◌*◌, ltb, length}
use Rattle.bytes_le.specs.Buffer.{over}
use Rattle.refusal.specs.declared.Refusal.{Refusal}
use Rattle.refusal.specs.declared.Refusal.TheVariants.{ShortOutput}
use Rattle.refusal.specs.Order.{Verdict, no, yes, refuse_if, and_then, Answer, tells}
use Rattle.library.specs.declared.Contents.{Contents}
use Rattle.roll.specs.Directory.{name_bytes}
use Rattle.directory.specs.Judged.{library_judged, offer_judged}
use Rattle.directory.specs.Format.{whole_of, version, directory, records, words_in, library_of}

-- ---- what is left of a lent buffer

-- a refusal leaves all of old; else new stands at its start
abbrev pub left : {A : Type 0} → Verdict A → List ℕ → List ℕ → List ℕ
left (no f) new old = old
left (yes a) new old = over new old

-- ---- what reading answers

abbrev pub verdict_read : Result Contents Refusal → Verdict (ℕ × ℕ)
verdict_read (Ok c) = yes (c.cards, c.version)
verdict_read (Err f) = no f

abbrev pub told_read : Result Contents Refusal → Answer (ℕ × ℕ)
told_read r = tells (verdict_read r)

-- 1, 2, 3, then 5 where one of the outputs, a bytes and b words, is shorter than what it must hold; else the count of
-- cards and the version
unfoldable pub read : List ℕ → ℕ → ℕ → Verdict (ℕ × ℕ)
read s a b =
    and_then (library_judged s)
    (λ (p : ℕ × ℕ). refuse_if (ltb a (name_bytes * p.0) || ltb b (p.1 * p.0)) ShortOutput (yes (p.0, version s)))

-- reading s into ns and ws: the answer r, and what stands in both buffers after it
pub record Reads (s ns ws : List ℕ) (r : Result Contents Refusal) (ns' ws' : List ℕ) : Type 0 where
  pub answer : told_read r ≡ tells (read s (length ns) (length ws))
  pub names : ns' ≡ left (read s (length ns) (length ws)) (directory s) ns
  pub words : ws' ≡ left (read s (length ns) (length ws)) (words_in (records s)) ws

-- ---- what writing answers

abbrev pub verdict_written : Result ℕ Refusal → Verdict ℕ
verdict_written (Ok n) = yes n
verdict_written (Err f) = no f

abbrev pub told_written : Result ℕ Refusal → Answer ℕ
told_written r = tells (verdict_written r)

-- 1, 2, 3, then 5 where the output of a bytes is shorter than the library; else the library's length
unfoldable pub written : ℕ → List ℕ → List ℕ → ℕ → Verdict ℕ
written v ns ws a =
    and_then (offer_judged v ns ws)
    (λ (p : ℕ × ℕ). refuse_if (ltb a (whole_of p.1 p.0)) ShortOutput (yes (whole_of p.1 p.0)))

-- writing ns and ws as a library of version v into l: the answer r, and what stands in the buffer after it
pub record Writes (v : ℕ) (ns ws l : List ℕ) (r : Result ℕ Refusal) (l' : List ℕ) : Type 0 where
  pub answer : told_written r ≡ tells (written v ns ws (length l))
  pub library : l' ≡ left (written v ns ws (length l)) (library_of v ns ws) l
