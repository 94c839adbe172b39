-- A version other than 1 and 2 is refused with 1, in reading and in writing, and nothing is changed.
use mathlib.Core.Path.{◌≡◌, refl, sym, ap}
use mathlib.Core.Bool.{not}
use mathlib.Core.List.{List}
use Prim.Native.Nat.{ℕ}
use lib.ListN.{length}
use Rattle.refusal.specs.declared.Refusal.TheVariants.{Malformed}
use Rattle.refusal.specs.Order.{no}
use Rattle.std.proofs.Common.{Result, Err}
use Rattle.refusal.specs.declared.Refusal.{Refusal}
use Rattle.library.specs.declared.Contents.{Contents}
use Rattle.directory.specs.Format.{version, count, directory_offset, records_offset, whole_length}
use Rattle.directory.specs.Judged.{library_judged}
use Rattle.directory.proofs.Headers.{agree_version, other_version}
use Rattle.directory.proofs.Verdicts.{drawn}
use Rattle.directory.proofs.Offers.{offer_version}
use Rattle.library.specs.Answers.{Reads, Writes}
use Rattle.library.specs.Unique.{unique_read, unique_write}
use Rattle.library.proofs.Outcomes.{read_refused}
use Rattle.library.proofs.Writings.{write_refused}

other_judged : (s : List ℕ) → (version s ≡ 1 → ⊥) → (version s ≡ 2 → ⊥) → library_judged s ≡ no Malformed
unfolding library_judged
other_judged s f g =
    drawn
    (ap not
    (sym
    (agree_version (version s) (count s) (directory_offset s) (records_offset s) (whole_length s) (length s) refl
    (other_version (version s) f g)))) Malformed _

pub read_other_version : {s ns ws ns' ws' : List ℕ} {r : Result Contents Refusal}
    → (version s ≡ 1 → ⊥) → (version s ≡ 2 → ⊥) → Reads s ns ws r ns' ws'
    → (r ≡ Err Malformed) × (ns' ≡ ns) × (ws' ≡ ws)
read_other_version {s} {ns} {ws} f g d = unique_read d (read_refused s ns ws (other_judged s f g))

pub write_other_version : {v : ℕ} {ns ws l l' : List ℕ} {r : Result ℕ Refusal}
    → (v ≡ 1 → ⊥) → (v ≡ 2 → ⊥) → Writes v ns ws l r l' → (r ≡ Err Malformed) × (l' ≡ l)
write_other_version {v} {ns} {ws} {l} f g w =
    unique_write w (write_refused v ns ws l (sym (offer_version v ns ws refl (other_version v f g))))
