-- Bytes written on a page, step after step.
use mathlib.Core.Path.{◌≡◌, refl, sym, ap, ◌∙◌}
use mathlib.Core.Bool.{Bool}
use mathlib.Core.List.{List, [], ◌∷◌, ◌++◌}
use Prim.Native.Nat.{ℕ, suc, ◌+◌, ◌<◌, ◌≤◌}
use borrow.Author.Tests.{lt-ltb, le-ltb}
use lib.ListN.{length, drop, set}
use Rattle.std.proofs.Common.{ap₂, append_assoc, length-append, length-drop, take, min, zero, ◌-◌, add-zero}
use Rattle.std.proofs.Math.Nat.{min_comm}
use Rattle.std.proofs.lemmas.List.{take_min}
use mathlib.Core.List.{append-nil}
use lib.Seq.{length-take-le}
use lib.ListN.{take-append-drop}
use borrow.Rule.Slice.PartMut.{put_mid}
use Rattle.std.proofs.Math.Seq.{set-append_seam}
use native.Mathlib.Omega.{arith}
use Rattle.bytes_le.specs.Buffer.{over}
use Rattle.page.specs.declared.Page.{Page}
use Rattle.page.specs.Page.{page, byte_if, with_byte, with_bytes, Writes, WritesAfter}

-- the same bytes by another name
pub as_bytes : {N : ℕ} {x y : List ℕ} {old new : Page N} → x ≡ y → Writes x old new → Writes y old new
as_bytes e w = rw e at w

pub write_two : {N : ℕ} (p : Page N) (a b : List ℕ) → with_bytes p (a ++ b) ≡ with_bytes (with_bytes p a) b
unfolding with_bytes
write_two p [] b = refl
write_two p (x ∷ a) b = write_two (with_byte p x) a b

pub then : {N : ℕ} {a b : List ℕ} {old mid new : Page N} → Writes a old mid → Writes b mid new → Writes (a ++ b) old new
then {N} {a} {b} {old} p q =
    record { written = q.written ∙ ap (λ (x : Page N). with_bytes x b) p.written ∙ sym (write_two old a b) }

pub then_after : {a b old mid new : List ℕ} {at on end : ℕ} → WritesAfter a old at mid on → WritesAfter b mid on new end
    → WritesAfter (a ++ b) old at new end
then_after p q = record { on_page = λ n. then (p.on_page n) (q.on_page n) }

pub write_nothing : {N : ℕ} {old : Page N} → Writes [] old old
unfolding with_bytes
write_nothing = record { written = refl }

-- ---- a full page takes no more

full : {N : ℕ} (p : Page N) (l : List ℕ) → length p.bytes ≤ p.used → with_bytes p l ≡ p
unfolding with_bytes with_byte
full p [] h = refl
full {N} p (b ∷ l) h =
    let e = le-ltb p.used (length p.bytes) h in
    ap (λ (t : Bool). with_bytes (byte_if t p b) l) e ∙ full p l h

pub on_full : {N : ℕ} (p : Page N) (l : List ℕ) → length p.bytes ≤ p.used → Writes l p p
on_full p l h = record { written = sym (full p l h) }

-- ---- as much as there is room for, at once

take_none : (n : ℕ) → take {A = ℕ} n [] ≡ []
take_none zero = refl
take_none (suc n) = refl

room_after : {N : ℕ} (a l old : List ℕ) → with_bytes (page {N = N} (a ++ old) (length a)) l
    ≡ page (a ++ over (take (length old) l) old) (length a + length (take (length old) l))
unfolding with_bytes with_byte
room_after {N} a [] old = rw (take_none (length old)) (ap (page {N = N} (a ++ old)) (sym (add-zero (length a))))
room_after {N} a (b ∷ l) [] =
    let long : length (a ++ []) ≡ length a = ap length (append-nil a) in
    let h : length (a ++ []) ≤ length a = omega arith in
    full (page {N = N} (a ++ []) (length a)) (b ∷ l) h
    ∙ ap (page {N = N} (a ++ [])) (sym (add-zero (length a)))
room_after {N} a (b ∷ l) (x ∷ old) =
    let long : length (a ++ x ∷ old) ≡ length a + suc (length old) = length-append a (x ∷ old) in
    let room : length a < length (a ++ x ∷ old) = omega arith in
    let kept : set (a ++ x ∷ old) (length a) b ≡ (a ++ b ∷ []) ++ old =
    set-append_seam a x old b ∙ sym (append_assoc a (b ∷ []) old) in
    let used : length a + 1 ≡ length (a ++ b ∷ []) = sym (length-append a (b ∷ [])) in
    ap (λ (t : Bool). with_bytes (byte_if t (page {N = N} (a ++ x ∷ old) (length a)) b) l)
    (lt-ltb (length a) (length (a ++ x ∷ old)) room)
    ∙ ap₂ (λ (p : List ℕ) (n : ℕ). with_bytes (page {N = N} p n) l) kept used ∙ room_after (a ++ b ∷ []) l old
    ∙ ap₂ (page {N = N}) (append_assoc a (b ∷ []) (over (take (length old) l) old)) (omega (arith, length-append a (b ∷ [])))

pub put_at_once : {N : ℕ} (p : Page N) (s : List ℕ) {new : List ℕ} {k : ℕ} → p.used < length p.bytes
    → k ≡ min (length s) (length p.bytes - p.used) → new ≡ take k s
    → Writes s p (page (put_mid p.used (p.used + k - p.used) p.bytes new) (p.used + k))
put_at_once {N} p s {new} {k} h e f =
    let a = take p.used p.bytes in
    let old = drop p.used p.bytes in
    let before : length a ≡ p.used = length-take-le p.used p.bytes (omega arith) in
    let left : length old ≡ length p.bytes - p.used = length-drop p.used p.bytes in
    let kept : take k s ≡ take (length old) s =
    ap (λ (n : ℕ). take n s) (e ∙ min_comm (length s) _ ∙ ap (λ (n : ℕ). min n (length s)) (sym left)) ∙ take_min (length old) s in
    let t : new ≡ take (length old) s = f ∙ kept in
    let long : length (take (length old) s) ≡ k = ap length (sym kept) ∙ length-take-le k s (omega arith) in
    let part : p.used + k - p.used ≡ length (take (length old) s) = omega arith in
    record {
      written =
          ap₂ page (ap₂ (λ (x : List ℕ) (n : ℕ). a ++ (x ++ drop n old)) t part) (omega arith) ∙ sym (room_after a s old)
          ∙ ap₂ (λ (l : List ℕ) (n : ℕ). with_bytes (page {N = N} l n) s) (take-append-drop p.used p.bytes) before;
    }
