-- Each way out of writing, over plain values.
use mathlib.Core.Path.{◌≡◌, refl, sym, ◌∙◌, ap}
use mathlib.Core.Bool.{Bool}
use mathlib.Core.List.{List, ◌++◌}
use Prim.Native.Nat.{ℕ, ◌<◌, ◌≤◌}
use native.Mathlib.Omega.{arith}
use borrow.Author.Tests.{lt-ltb, le-ltb}
use lib.Dec.{ltb}
use lib.ListN.{length, length-append}
use Rattle.refusal.specs.declared.Refusal.{Refusal}
use Rattle.refusal.specs.declared.Refusal.TheVariants.{ShortOutput}
use Rattle.std.proofs.Common.{Result, Ok, Err}
use Rattle.directory.specs.Format.{whole_of, bytes_of_all, header_of, library_of, header_bytes, records_at}
use Rattle.library.specs.Answers.{left, written, Writes, verdict_written}
use Rattle.directory.specs.Judged.{offer_judged}
use Rattle.copying.proofs.BytesWritten.{then_part, length_header, part_from, part_put}
use Rattle.refusal.specs.Order.{Verdict, no, refuse_if, tells, yes}
use Rattle.bytes_le.specs.Buffer.{over}
use Rattle.directory.proofs.Offers.{Offered}

module _ (v : ℕ) (ns ws l : List ℕ) where
  writes_by : (w : Verdict ℕ) → written v ns ws (length l) ≡ w → (r : Result ℕ Refusal) → verdict_written r ≡ w
      → Writes v ns ws l r (left w (library_of v ns ws) l)
  writes_by w e r g = record {
    answer = ap tells (g ∙ sym e);
    library = ap (λ (a : Verdict ℕ). left a (library_of v ns ws) l) (sym e);
  }

  pub write_refused : {f : Refusal} → offer_judged v ns ws ≡ no f → Writes v ns ws l (Err f) l
  unfolding written
  write_refused {f} e = writes_by (no f) (rw e) (Err f) refl

  module _ {n k : ℕ} (o : Offered v ns ws n k) where
    to_five : {t : Bool} → ltb (length l) (whole_of k n) ≡ t
        → written v ns ws (length l) ≡ refuse_if t ShortOutput (yes (whole_of k n))
    unfolding written
    to_five e = rw o.judged (ap (λ (b : Bool). refuse_if b ShortOutput (yes (whole_of k n))) e)

    pub write_yes : whole_of k n ≤ length l → written v ns ws (length l) ≡ yes (whole_of k n)
    write_yes h = to_five (le-ltb (length l) _ h)

    pub write_short : length l < whole_of k n → Writes v ns ws l (Err ShortOutput) l
    write_short h = writes_by (no ShortOutput) (to_five (lt-ltb (length l) _ h)) (Err ShortOutput) refl

    -- l₁ is the buffer after the header; y and z are what the names' part and the words' part came to
    pub write_bytes : whole_of k n ≤ length l → (l₁ : List ℕ) → l₁ ≡ over (header_of v n) l
        → (y : List ℕ) → y ≡ over ns (part_from header_bytes l₁)
        → (z : List ℕ) → z ≡ over (bytes_of_all ws) (part_from (records_at n) (part_put header_bytes l₁ y))
        → Writes v ns ws l (Ok (whole_of k n)) (part_put (records_at n) (part_put header_bytes l₁ y) z)
    write_bytes h l₁ e₁ y ey z ez =
        let head : List ℕ = header_of v n in
        let l₂ : List ℕ = part_put header_bytes l₁ y in
        let s₂ : l₂ ≡ over (head ++ ns) l = then_part head ns l l₁ header_bytes e₁ (length_header v n) y ey in
        let k₂ : length (head ++ ns) ≡ records_at n =
        length-append head ns ∙ omega (arith, length_header v n, o.names_long) in
        let s₃ = then_part (head ++ ns) (bytes_of_all ws) l l₂ (records_at n) s₂ k₂ z ez in
        let same : head ++ ns ++ bytes_of_all ws ≡ library_of v ns ws =
        ap (λ (m : ℕ). header_of v m ++ ns ++ bytes_of_all ws) o.is_count in
        rw (s₃, same)
        (writes_by (yes (whole_of k n)) (write_yes h) (Ok (whole_of k n)) refl)
