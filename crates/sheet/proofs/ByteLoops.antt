-- Loops over the bytes of a slice: what is left after i of them.
use mathlib.Core.Path.{◌≡◌, refl, sym, ap, ◌∙◌}
use mathlib.Core.List.{List, [], ◌∷◌}
use Prim.Native.Nat.{ℕ, ◌+◌, ◌<◌, ◌≤◌}
use lib.ListN.{length, drop, get_or}
use Rattle.sheet.specs.declared.Text.{Text}
use Rattle.sheet.specs.Text.{appended, Adds}
use Rattle.spelling.proofs.ByteLoops.{split, none_left}
use Rattle.sheet.proofs.Texts.{append_two}

-- ---- bytes added to a text: r has all of l but m, from t on

pub record Left (t : Text) (l : List ℕ) (r : Text) (m : List ℕ) : Type 0 where
  pub same : appended t l ≡ appended r m

pub all_left : {t : Text} {l : List ℕ} → Left t l t l
all_left = record { same = refl }

next_left : {t r s : Text} {l m : List ℕ} {x : ℕ} → Left t l r (x ∷ m) → Adds r (x ∷ []) s → Left t l s m
next_left {r = r} {m = m} {x = x} v a =
    record { same = v.same ∙ append_two r (x ∷ []) m ∙ ap (λ (u : Text). appended u m) (sym a.sum) }

last_left : {t r : Text} {l : List ℕ} → Left t l r [] → Adds t l r
unfolding appended
last_left v = record { sum = sym v.same }

module _ (s : List ℕ) (i : ℕ) {t r : Text} {l : List ℕ} where
  pub append_on : {r' : Text} → Left t l r (drop i s) → i < length s → Adds r (get_or s i 0 ∷ []) r'
      → Left t l r' (drop (i + 1) s)
  append_on v h a = next_left (rw (split s i h) at v) a

  pub append_end : Left t l r (drop i s) → length s ≤ i → Adds t l r
  append_end v h = last_left (rw (none_left s i h) at v)
