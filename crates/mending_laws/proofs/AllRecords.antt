-- The records of a library, one after the other: cut apart again after mending they are the records mended.
use mathlib.Core.Path.{◌≡◌, refl, sym, ◌∙◌, ap, ap₂}
use mathlib.Core.Bool.{Bool, true, false, cond}
use mathlib.Core.List.{List, [], ◌∷◌, ◌++◌, map}
use Prim.Native.Nat.{ℕ, zero, suc, ◌+◌, ◌*◌, ◌<◌, ◌≤◌}
use native.Mathlib.Nat.{mul-zero}
use native.Mathlib.Omega.{arith}
use lib.ListN.{length, take, drop, get_or, length-append, length-drop, take-append-drop}
use lib.Seq.{length-take-le, take_at, drop_at, drop-drop}
use Rattle.clip.specs.Numbers as number
use Rattle.clip.specs.Record.{word_at}
use Rattle.roll.specs.Directory.{cut}
use Rattle.roll.proofs.Names.{cut_none, cut_more}
use Rattle.signals.specs.Records.{signals, icss_end, cleared, mended_record, mended_all, signalling}
use Rattle.signals.proofs.Records.{length_mended}
use Rattle.mending_laws.proofs.OneRecord.{other_words_stay, icss_becomes, mended_quiet, none_quiet}

-- all have w bytes
abbrev pub AllLong : ℕ → List (List ℕ) → Type 0
AllLong w [] = Unit {0}
AllLong w (r ∷ rs) = (length r ≡ w) × AllLong w rs

pub cut_long : (w n : ℕ) (s : List ℕ) → length s ≡ w * n → 0 < w → AllLong w (cut w s)
cut_long w zero s e p = rw (cut_none w s (omega (arith, mul-zero w))) tt
cut_long w (suc n) s e p =
    let h : w ≤ length s = omega arith in
    let l : length (drop w s) ≡ w * n = length-drop w s ∙ omega arith in
    rw (cut_more w s p h) (length-take-le w s h, cut_long w n (drop w s) l p)

-- cut apart and put together again
joined : List (List ℕ) → List ℕ
joined [] = []
joined (r ∷ rs) = r ++ joined rs

cut_joined : (w n : ℕ) (s : List ℕ) → length s ≡ w * n → 0 < w → joined (cut w s) ≡ s
unfolding joined
cut_joined w zero [] e p = ap joined (cut_none w [] p)
cut_joined w zero (x ∷ s) e p = absurd (omega (arith, mul-zero w))
cut_joined w (suc n) s e p =
    let h : w ≤ length s = omega arith in
    let l : length (drop w s) ≡ w * n = length-drop w s ∙ omega arith in
    ap joined (cut_more w s p h) ∙ ap (λ (q : List ℕ). take w s ++ q) (cut_joined w n (drop w s) l p)
    ∙ take-append-drop w s

-- where none is changed, they come out as they are
none_set : (b : Bool) (r : List ℕ) (n : ℕ) → cond b 1 0 + n ≡ 0 → (cond b (cleared r) r ≡ r) × (n ≡ 0)
none_set true r n e = absurd (omega arith)
none_set false r n e = (refl, omega arith)

quiet_joined : (rs : List (List ℕ)) → signalling rs ≡ 0 → mended_all rs ≡ joined rs
unfolding joined
quiet_joined [] e = refl
quiet_joined (r ∷ rs) e =
    let q = none_set (signals r) r (signalling rs) e in ap₂ ◌++◌ q.0 (quiet_joined rs q.1)

pub quiet_same : (w n : ℕ) (s : List ℕ) → length s ≡ w * n → 0 < w → signalling (cut w s) ≡ 0 → mended_all (cut w s) ≡ s
quiet_same w n s e p z = quiet_joined (cut w s) z ∙ cut_joined w n s e p

-- the record at a place
pub cut_at : (w n i : ℕ) (s : List ℕ) → length s ≡ w * n → 0 < w → i < n → get_or (cut w s) i [] ≡ take w (drop (w * i) s)
cut_at w zero i s e p h = absurd (omega arith)
cut_at w (suc n) zero s e p h = rw (cut_more w s p (omega arith), mul-zero w) refl
cut_at w (suc n) (suc i) s e p h =
    let l : length (drop w s) ≡ w * n = length-drop w s ∙ omega arith in
    let f : w + w * i ≡ w * suc i = omega arith in
    rw (cut_more w s p (omega arith))
    (cut_at w n i (drop w s) l p (omega arith) ∙ ap (take w) (drop-drop (w * i) w s ∙ ap (λ (m : ℕ). drop m s) f))

same_either : (b : Bool) → ◌≡◌ {A = ℕ} (cond b 0 0) 0
same_either true = refl
same_either false = refl

-- ---- records that are long enough for I_CSs

module _ (w : ℕ) (hw : icss_end ≤ w) where
  some : 0 < w
  some = omega arith

  long : (r : List ℕ) → length r ≡ w → length (mended_record r) ≡ w
  long r e = length_mended r (omega arith) ∙ e

  length_all : (rs : List (List ℕ)) → AllLong w rs → length (mended_all rs) ≡ length (joined rs)
  unfolding joined
  length_all [] a = refl
  length_all (r ∷ rs) a =
      length-append (mended_record r) (mended_all rs) ∙ ap₂ ◌+◌ (long r a.0 ∙ sym a.0) (length_all rs a.1)
      ∙ sym (length-append r (joined rs))

  pub length_cut : (n : ℕ) (s : List ℕ) → length s ≡ w * n → length (mended_all (cut w s)) ≡ length s
  length_cut n s e = length_all (cut w s) (cut_long w n s e some) ∙ ap length (cut_joined w n s e some)

  pub cut_again : (rs : List (List ℕ)) → AllLong w rs → cut w (mended_all rs) ≡ map mended_record rs
  cut_again [] a = cut_none w [] some
  cut_again (r ∷ rs) a =
      let l = long r a.0 in
      let h : w ≤ length (mended_record r ++ mended_all rs) =
      rw (length-append (mended_record r) (mended_all rs)) (omega arith) in
      cut_more w (mended_record r ++ mended_all rs) some h
      ∙ ap₂ (λ (x : List ℕ) (l : List (List ℕ)). x ∷ l) (take_at (mended_record r) (mended_all rs) w l)
      (ap (cut w) (drop_at (mended_record r) (mended_all rs) w l) ∙ cut_again rs a.1)

  -- none is changed a second time
  pub all_quiet : (rs : List (List ℕ)) → AllLong w rs → signalling (map mended_record rs) ≡ 0
  all_quiet [] a = refl
  all_quiet (r ∷ rs) a =
      rw (mended_quiet r (let e = a.0 in omega arith)) (omega (arith, all_quiet rs a.1))

  -- of the record at a place: every other word stays, I_CSs is +0 where it was below zero, and is so no longer
  pub other_words_at : (rs : List (List ℕ)) → AllLong w rs → (i j : ℕ) → (j ≡ number.icss → ⊥)
      → word_at (get_or (map mended_record rs) i []) j ≡ word_at (get_or rs i []) j
  other_words_at [] a i j d = refl
  other_words_at (r ∷ rs) a zero j d = other_words_stay r (let e = a.0 in omega arith) j d
  other_words_at (r ∷ rs) a (suc i) j d = other_words_at rs a.1 i j d

  pub icss_at_lem : (rs : List (List ℕ)) → AllLong w rs → (i : ℕ)
      → word_at (get_or (map mended_record rs) i []) number.icss
      ≡ cond (signals (get_or rs i [])) 0 (word_at (get_or rs i []) number.icss)
  icss_at_lem [] a i = sym (same_either (signals []))
  icss_at_lem (r ∷ rs) a zero = icss_becomes r (let e = a.0 in omega arith)
  icss_at_lem (r ∷ rs) a (suc i) = icss_at_lem rs a.1 i

  pub quiet_at : (rs : List (List ℕ)) → AllLong w rs → (i : ℕ) → signals (get_or (map mended_record rs) i []) ≡ false
  quiet_at [] a i = none_quiet
  quiet_at (r ∷ rs) a zero = mended_quiet r (let e = a.0 in omega arith)
  quiet_at (r ∷ rs) a (suc i) = quiet_at rs a.1 i
