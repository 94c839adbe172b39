-- Bytes gathered in a text: what has been added so far, step after step.
use mathlib.Core.Path.{◌≡◌, refl, sym, ap, ap₂, ◌∙◌}
use mathlib.Core.Bool.{false}
use mathlib.Core.List.{List, [], ◌∷◌, ◌++◌, append-nil, append_assoc}
use Prim.Native.Nat.{ℕ, zero, suc, ◌+◌, ◌-◌, ◌<◌, ◌≤◌}
use native.Mathlib.Nat.{not-suc-le-zero, le_of_lt, le_of_eq}
use native.Mathlib.Decide.{dec_lt}
use native.Mathlib.Omega.{arith}
use borrow.Author.Tests.{lt-ltb, le-ltb}
use lib.Dec.{ltb}
use lib.ListN.{length, take, set, replicate, length-append}
use lib.Seq.{take_all, take-append-le, length-take-le, set_at, append_snoc}
use Rattle.sheet.specs.declared.Text.{Text}
use Rattle.sheet.specs.Text.{room, text_of, empty_text, pushed, appended, Adds}

-- ---- steps one after the other

pub append_two : (t : Text) (a b : List ℕ) → appended t (a ++ b) ≡ appended (appended t a) b
unfolding appended
append_two t [] b = refl
append_two t (x ∷ a) b = append_two (pushed t x) a b

pub none : {t r : Text} → r ≡ t → Adds t [] r
unfolding appended
none e = record { sum = e }

pub one : {t r : Text} {b : ℕ} → pushed t b ≡ r → Adds t (b ∷ []) r
unfolding appended
one e = record { sum = sym e }

pub then : {t r s : Text} {a b : List ℕ} → Adds t a r → Adds r b s → Adds t (a ++ b) s
then {t} {a = a} {b = b} p q =
    record { sum = q.sum ∙ ap (λ (u : Text). appended u b) p.sum ∙ sym (append_two t a b) }

-- ---- what has been gathered from nothing on is the text

abbrev holding : List ℕ → ℕ → Text
holding l n = record { bytes = l; len = n }

more_zeros : (k : ℕ) → 0 < k → replicate {A = ℕ} k 0 ≡ 0 ∷ replicate (k - 1) 0
more_zeros zero h = absurd (not-suc-le-zero h)
more_zeros (suc k) h = let e : k ≡ suc k - 1 = omega arith in ap (λ (n : ℕ). 0 ∷ replicate n 0) e

module _ (m : List ℕ) (b : ℕ) where
  longer : length (m ++ b ∷ []) ≡ length m + 1
  longer = length-append m (b ∷ [])

  fresh : length m < room → pushed (text_of m) b ≡ text_of (m ++ b ∷ [])
  unfolding text_of pushed
  fresh h =
      let all : take room m ≡ m = take_all room m (le_of_lt h) in
      let more : take room (m ++ b ∷ []) ≡ m ++ b ∷ [] = take_all room (m ++ b ∷ []) (rw longer (omega arith)) in
      let left : room - length m - 1 ≡ room - length (m ++ b ∷ []) = rw longer (omega arith) in
      let n = length (m ++ b ∷ []) in
      let stored : set (m ++ replicate (room - length m) 0) (length m) b ≡ (m ++ b ∷ []) ++ replicate (room - n) 0 =
      ap (λ (l : List ℕ). set (m ++ l) (length m) b) (more_zeros (room - length m) (omega arith))
      ∙ set_at m 0 (replicate (room - length m - 1) 0) b (length m) refl
      ∙ sym (append_snoc m b (replicate (room - length m - 1) 0))
      ∙ ap (λ (n : ℕ). (m ++ b ∷ []) ++ replicate n 0) left in
      rw (all, more, lt-ltb (length m) room h) (ap₂ holding stored (sym longer))

  full : room ≤ length m → pushed (text_of m) b ≡ text_of (m ++ b ∷ [])
  unfolding text_of pushed
  full h =
      let n : length (take room m) ≡ room = length-take-le room m h in
      let front : take room (m ++ b ∷ []) ≡ take room m = take-append-le room m (b ∷ []) h in
      let none_left : room - length m ≡ room - length (m ++ b ∷ []) = rw longer (omega arith) in
      let test : ltb (length (take room m)) room ≡ false = le-ltb (length (take room m)) room (le_of_eq (sym n)) in
      rw (test, front, none_left)

  push_text : pushed (text_of m) b ≡ text_of (m ++ b ∷ [])
  push_text = by (dec_lt (length m) room)
    where
      by : Dec (length m < room) → pushed (text_of m) b ≡ text_of (m ++ b ∷ [])
      by (yes h) = fresh h
      by (no h) = full (omega arith)

append_text : (m l : List ℕ) → appended (text_of m) l ≡ text_of (m ++ l)
unfolding appended
append_text m [] = ap text_of (sym (append-nil m))
append_text m (b ∷ l) =
    ap (λ (t : Text). appended t l) (push_text m b) ∙ append_text (m ++ b ∷ []) l ∙ ap text_of
    (append_assoc m (b ∷ []) l)

pub gathered : {t r : Text} {l : List ℕ} → t ≡ empty_text → Adds t l r → r ≡ text_of l
unfolding text_of
gathered {l = l} e a = a.sum ∙ ap (λ (t : Text). appended t l) e ∙ append_text [] l
