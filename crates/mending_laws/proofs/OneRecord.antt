-- One record mended: I_CSs is +0 where it was a finite number below zero, and no other word changes.
use mathlib.Core.Path.{◌≡◌, refl, sym, ◌∙◌, ap}
use mathlib.Core.Bool.{Bool, true, false, cond, ◌&&◌}
use mathlib.Core.List.{List, [], ◌∷◌, ◌++◌, append_assoc}
use Prim.Native.Nat.{ℕ, zero, suc, ◌+◌, ◌-◌, ◌*◌, ◌<◌, ◌≤◌}
use native.Mathlib.Decide.{dec_lt}
use native.Mathlib.Omega.{arith}
use lib.ListN.{length, take, drop, replicate}
use lib.Seq.{take-take, take_at, drop_at, drop-append-add, drop-drop}
use lib.Ieee.{of_bits, lt}
use lib.Ieee.Scale.{finite}
use Rattle.bytes_le.specs.Le.{le, word_bytes}
use Rattle.clip.specs.Numbers as number
use Rattle.clip.specs.Limits as limits
use Rattle.clip.specs.Record.{word_at}
use Rattle.signals.specs.Records.{signals, icss_at, icss_end, cleared, mended_record}
use Rattle.signals.proofs.Records.{front, front_end}

-- a part of a list's first n elements is that part of the list
pub part_of : (at w n : ℕ) (l : List ℕ) → at + w ≤ n → take w (drop at (take n l)) ≡ take w (drop at l)
part_of zero w n l h = take-take w n l (omega arith)
part_of (suc at) w zero l h = absurd (omega arith)
part_of (suc at) w (suc n) [] h = refl
part_of (suc at) w (suc n) (x ∷ l) h = part_of at w n l (omega arith)

-- two lists that start alike have the same parts there
pub same_part : (at w n : ℕ) (a b : List ℕ) → at + w ≤ n → take n a ≡ take n b
    → take w (drop at a) ≡ take w (drop at b)
same_part at w n a b h e =
    sym (part_of at w n a h) ∙ ap (λ (l : List ℕ). take w (drop at l)) e ∙ part_of at w n b h

-- +0 is no number below zero
pub zero_not_below : lt limits.zero limits.zero ≡ false
unfolding of_bits lt
zero_not_below = refl

-- and so no signal
zero_quiet : (finite limits.zero && lt limits.zero limits.zero) ≡ false
unfolding of_bits lt
zero_quiet = refl

-- nor is where there are no bytes
pub none_quiet : signals [] ≡ false
none_quiet = zero_quiet

module _ (r : List ℕ) (h : icss_end ≤ length r) where
  -- the bytes of +0
  zeros : List ℕ
  zeros = replicate word_bytes 0

  icss_cleared : word_at (cleared r) number.icss ≡ 0
  unfolding zeros
  icss_cleared =
      ap (λ (l : List ℕ). le (take word_bytes l))
      (ap (drop icss_at) (append_assoc (take icss_at r) zeros (drop icss_end r))
      ∙ drop_at (take icss_at r) (zeros ++ drop icss_end r) icss_at (front r h))

  before_cleared : (j : ℕ) → j < number.icss → word_at (cleared r) j ≡ word_at r j
  unfolding zeros
  before_cleared j l =
      ap le
      (same_part (word_bytes * j) word_bytes icss_at (cleared r) r (omega arith)
      (ap (take icss_at) (append_assoc (take icss_at r) zeros (drop icss_end r))
      ∙ take_at (take icss_at r) (zeros ++ drop icss_end r) icss_at (front r h)))

  after_cleared : (j : ℕ) → number.icss < j → word_at (cleared r) j ≡ word_at r j
  unfolding zeros
  after_cleared j l =
      let m : ℕ = word_bytes * j - icss_end in
      let e : word_bytes * j ≡ icss_end + m = omega arith in
      let p : List ℕ = take icss_at r ++ zeros in
      let f : word_bytes * j ≡ length p + m = e ∙ ap (λ (n : ℕ). n + m) (sym (front_end r h)) in
      ap (λ (q : List ℕ). le (take word_bytes q))
      (ap (λ (n : ℕ). drop n (cleared r)) f ∙ drop-append-add p (drop icss_end r) m
      ∙ drop-drop m icss_end r ∙ ap (λ (n : ℕ). drop n r) (sym e))

  other_cleared : (j : ℕ) → (j ≡ number.icss → ⊥) → word_at (cleared r) j ≡ word_at r j
  other_cleared j d = of (dec_lt j number.icss)
    where
      of : Dec (j < number.icss) → word_at (cleared r) j ≡ word_at r j
      of (yes l) = before_cleared j l
      of (no g) = after_cleared j (omega arith)

  -- every other word stays
  pub other_words_stay : (j : ℕ) → (j ≡ number.icss → ⊥) → word_at (mended_record r) j ≡ word_at r j
  other_words_stay j d = of (signals r)
    where
      of : (b : Bool) → word_at (cond b (cleared r) r) j ≡ word_at r j
      of true = other_cleared j d
      of false = refl

  -- I_CSs is +0 where it was below zero, and stays where it was not: -0, an infinity and what is no number too
  pub icss_becomes : word_at (mended_record r) number.icss ≡ cond (signals r) 0 (word_at r number.icss)
  icss_becomes = of (signals r)
    where
      of : (b : Bool) → word_at (cond b (cleared r) r) number.icss ≡ cond b 0 (word_at r number.icss)
      of true = icss_cleared
      of false = refl

  -- and is no longer below zero
  pub mended_quiet : signals (mended_record r) ≡ false
  mended_quiet = of (signals r) refl
    where
      of : (b : Bool) → signals r ≡ b → signals (cond b (cleared r) r) ≡ false
      of true e = rw icss_cleared zero_quiet
      of false e = e
