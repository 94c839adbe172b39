-- Stretches of a list, read and written: what is written is read back, and other places' stretches stay.
use Rattle.std.specs.Prelude.{◌≡◌, Bool, List, set, replicate}
use Rattle.std.proofs.Math.Path.{refl}
use Rattle.std.proofs.Common.{sym, ap, ◌∙◌, add-one, get_or-set_same, ext_get_or}
use Rattle.std.proofs.Math.Bool.{true, false}
use Prim.Native.Nat.{ℕ, zero, suc, ◌+◌, ◌-◌, ◌*◌, ◌≤◌, ◌<◌}
use Rattle.std.proofs.Math.Nat.{mul-le-mul_left}
use native.Mathlib.Omega.{arith}
use Rattle.std.proofs.Math.Dec.{eqb, ltb}
use Rattle.std.proofs.Math.ListN.{length, get_or, take, drop, length-set, length-drop}
use Rattle.std.proofs.Math.Seq.{get_or-set_other, paste, paste-zero, paste-suc, get_or-take, get_or-drop, length-take-le}
use Rattle.std.proofs.lemmas.Slice.{put_mid-paste}
use borrow.Rule.Slice.PartMut.{put_mid}
use borrow.Author.Tests.{eqb-true, eqb-false, ltb-true, ltb-false}
use Rattle.deck.specs.Stretch.{stretch, written}
use Rattle.deck.specs.laws.Ups.{length_up, get_or_up, up_same, up_all}

module _ {A : Type 0} (d : A) where
  pub length_stretch : (l : List A) (at n : ℕ) → length (stretch d l at n) ≡ n
  unfolding stretch
  length_stretch l at n = length_up (λ (k : ℕ). get_or l k d) n at

  pub get_or_stretch : (l : List A) (at n k : ℕ) → k < n → get_or (stretch d l at n) k d ≡ get_or l (at + k) d
  unfolding stretch
  get_or_stretch l at n k h = get_or_up (λ (j : ℕ). get_or l j d) n at k d h

  pub length_written : (l : List A) (at : ℕ) (xs : List A) (n : ℕ) → length (written d l at xs n) ≡ length l
  unfolding written
  length_written l at xs zero = refl
  length_written l at xs (suc k) = length-set (written d l at xs k) (at + k) (get_or xs k d) ∙ length_written l at xs k

  -- one more written
  pub written_none : (l : List A) (at : ℕ) (xs : List A) → l ≡ written d l at xs 0
  unfolding written
  written_none l at xs = refl

  pub written_more : (l : List A) (at : ℕ) (xs : List A) (k : ℕ) {m : List A} → m ≡ written d l at xs k →
      set m (at + k) (get_or xs k d) ≡ written d l at xs (k + 1)
  unfolding written
  written_more l at xs k e = rw (add-one, e)

  written_in : (l : List A) (at : ℕ) (xs : List A) (n k : ℕ) → k < n → at + n ≤ length l →
      get_or (written d l at xs n) (at + k) d ≡ get_or xs k d
  unfolding written
  written_in l at xs zero k h m = absurd (omega arith)
  written_in l at xs (suc n) k h m = go (eqb k n) refl (written_in l at xs n k)
    where
      go : (t : Bool) → eqb k n ≡ t →
          (k < n → at + n ≤ length l → get_or (written d l at xs n) (at + k) d ≡ get_or xs k d) →
          get_or (set (written d l at xs n) (at + n) (get_or xs n d)) (at + k) d ≡ get_or xs k d
      go true p before =
          let e = eqb-true k n p in
          let long = length_written l at xs n in
          rw e (get_or-set_same (written d l at xs n) (at + n) (get_or xs n d) d (omega arith))
      go false p before =
          let e = eqb-false k n p in
          let off : at + k ≡ at + n → ⊥ = λ q. e (omega arith) in
          get_or-set_other (written d l at xs n) (at + n) (at + k) (get_or xs n d) d off
          ∙ before (omega arith) (omega arith)

  written_out : (l : List A) (at : ℕ) (xs : List A) (n j : ℕ) → ((k : ℕ) → k < n → j ≡ at + k → ⊥) →
      get_or (written d l at xs n) j d ≡ get_or l j d
  unfolding written
  written_out l at xs zero j off = refl
  written_out l at xs (suc n) j off =
      get_or-set_other (written d l at xs n) (at + n) j (get_or xs n d) d (off n (omega arith))
      ∙ written_out l at xs n j (λ k h. off k (omega arith))

  -- what is written at once
  written_paste : (l : List A) (at : ℕ) (xs : List A) (n : ℕ) → n ≤ length xs → at + n ≤ length l →
      paste l at xs n ≡ written d l at xs n
  unfolding written
  written_paste l at xs zero h m = sym (paste-zero l at xs)
  written_paste l at xs (suc n) h m =
      sym (paste-suc l at xs n d (omega arith) (omega arith))
      ∙ ap (λ (w : List A). set w (at + n) (get_or xs n d)) (written_paste l at xs n (omega arith) (omega arith))

  pub written_mid : (l : List A) (at n : ℕ) {ys xs : List A} → ys ≡ xs → length xs ≡ n → at + n ≤ length l →
      put_mid at (at + n - at) l ys ≡ written d l at xs n
  written_mid l at n {ys} {xs} e h m =
      put_mid-paste at (at + n - at) l ys xs n e (omega arith) (sym h) ∙ written_paste l at xs n (omega arith) m

  -- a part of a list is a stretch of it
  pub part_stretch : (l : List A) (at n : ℕ) → at + n ≤ length l → take n (drop at l) ≡ stretch d l at n
  part_stretch l at n h =
      let room : n ≤ length (drop at l) = rw length-drop (omega arith) in
      let long = length-take-le n (drop at l) room in
      ext_get_or d (take n (drop at l)) (stretch d l at n) (long ∙ sym (length_stretch l at n))
      (λ j q. get_or-take n (drop at l) j d (omega arith) ∙ get_or-drop at l j d
      ∙ sym (get_or_stretch l at n j (omega arith)))

  pub cut_stretch : (l : List A) (at n : ℕ) → at + n ≤ length l → take (at + n - at) (drop at l) ≡ stretch d l at n
  cut_stretch l at n h =
      let e : at + n - at ≡ n = omega arith in ap (λ (k : ℕ). take k (drop at l)) e ∙ part_stretch l at n h

  -- a stretch written is read back
  pub stretch_written : (l : List A) (at : ℕ) (xs : List A) (n : ℕ) → at + n ≤ length l → length xs ≡ n →
      stretch d (written d l at xs n) at n ≡ xs
  stretch_written l at xs n m h =
      ext_get_or d _ xs (length_stretch _ at n ∙ sym h)
      (λ k q. let b = length_stretch (written d l at xs n) at n in
      get_or_stretch _ at n k (omega arith) ∙ written_in l at xs n k (omega arith) m)

  -- the stretch of another place stays
  pub stretch_apart : (l xs : List A) (w i j : ℕ) → (i ≡ j → ⊥) →
      stretch d (written d l (w * i) xs w) (w * j) w ≡ stretch d l (w * j) w
  unfolding stretch
  stretch_apart l xs w i j other =
      up_same _ _ w (w * j) (λ b q. written_out l (w * i) xs w (w * j + b) (λ a h e. meets a b h q e (ltb i j) refl))
    where
      meets : (a b : ℕ) → a < w → b < w → w * j + b ≡ w * i + a → (t : Bool) → ltb i j ≡ t → ⊥
      meets a b p q e true s = let m = mul-le-mul_left w (ltb-true i j s) in omega arith
      meets a b p q e false s =
          let n = ltb-false i j s in
          let o : j < i = omega arith in
          let m = mul-le-mul_left w o in omega arith

  -- a list of nothing but d, and a stretch of it
  pub get_or_none : (n i : ℕ) → get_or (replicate n d) i d ≡ d
  get_or_none zero i = refl
  get_or_none (suc n) zero = refl
  get_or_none (suc n) (suc i) = get_or_none n i

  pub stretch_none : (m at n : ℕ) → stretch d (replicate m d) at n ≡ replicate n d
  unfolding stretch
  stretch_none m at n = up_all _ d n at (get_or_none m)
