-- What has room on a page is written whole.
use Rattle.std.specs.Prelude.{◌≡◌, Bool, List, [], ◌∷◌, ◌++◌, ℕ, suc, ◌+◌, ◌≤◌, ◌<◌, length, set}
use Rattle.std.proofs.Common.{sym, ap, ap₂, ◌∙◌, append_assoc, add-zero, zero-add, arith, lt-ltb, length-append}
use Rattle.std.proofs.Math.Seq.{set-append_seam}
use Rattle.bytes_le.specs.Buffer.{over}
use Rattle.page.specs.declared.Page.{Page}
use Rattle.page.specs.Page.{page, byte_if, with_byte, with_bytes, Writes}

-- the first bytes are used, and l has room after them
after : {N : ℕ} (a l old : List ℕ) → length l ≤ length old
    → with_bytes (page {N = N} (a ++ old) (length a)) l ≡ page (a ++ over l old) (length a + length l)
unfolding with_bytes with_byte
after {N} a [] old h = ap (page {N = N} (a ++ old)) (sym (add-zero (length a)))
after {N} a (b ∷ l) [] h = absurd (omega arith)
after {N} a (b ∷ l) (x ∷ old) h =
    let long : length (a ++ x ∷ old) ≡ length a + suc (length old) = length-append a (x ∷ old) in
    let room : length a < length (a ++ x ∷ old) = omega arith in
    let kept : set (a ++ x ∷ old) (length a) b ≡ (a ++ b ∷ []) ++ old =
    set-append_seam a x old b ∙ sym (append_assoc a (b ∷ []) old) in
    let used : length a + 1 ≡ length (a ++ b ∷ []) = sym (length-append a (b ∷ [])) in
    ap (λ (t : Bool). with_bytes (byte_if t (page {N = N} (a ++ x ∷ old) (length a)) b) l)
    (lt-ltb (length a) (length (a ++ x ∷ old)) room)
    ∙ ap₂ (λ (p : List ℕ) (n : ℕ). with_bytes (page {N = N} p n) l) kept used ∙ after (a ++ b ∷ []) l old (omega arith)
    ∙ ap₂ (page {N = N}) (append_assoc a (b ∷ []) (over l old)) (omega (arith, length-append a (b ∷ [])))

pub page_whole : {N : ℕ} {l old : List ℕ} {new : Page N} → length l ≤ length old → Writes l (page old 0) new
    → new ≡ page (over l old) (length l)
page_whole {N} {l} {old} h w = w.written ∙ after [] l old h ∙ ap (page {N = N} (over l old)) (zero-add (length l))
