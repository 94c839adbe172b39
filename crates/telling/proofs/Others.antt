-- The board's answers of which nothing is said.
use mathlib.Core.Path.{◌≡◌, refl}
use mathlib.Core.List.{List, []}
use Prim.Native.Nat.{ℕ}
use lib.IntN.{ℤ}
use Rattle.model.specs.declared.Answer.{Answer}
use Rattle.model.specs.declared.Answer.TheVariants as told
use Rattle.telling.specs.Said.{listed_of, row_of}

-- those but for a list and a refusal
pub listed_none : (a : Answer) (l : List ℕ) → ((n : ℕ) → a ≡ told.Listed n → ⊥) → ((f : _) → a ≡ told.Refused f → ⊥)
    → [] ≡ listed_of a l
unfolding listed_of
listed_none (told.Listed n) l h k = absurd (h n refl)
listed_none (told.Refused f) l h k = absurd (k f refl)
listed_none (told.Issue i) l h k = refl
listed_none told.Done l h k = refl
listed_none (told.Node v t) l h k = refl
listed_none told.Currents l h k = refl
listed_none (told.Summed t c most) l h k = refl

-- those but for a node that is read
pub row_none : (n : ℕ) (a : Answer) → ((v t : ℤ) → a ≡ told.Node v t → ⊥) → [] ≡ row_of n a
unfolding row_of
row_none n (told.Node v t) h = absurd (h v t refl)
row_none n (told.Issue i) h = refl
row_none n told.Done h = refl
row_none n told.Currents h = refl
row_none n (told.Listed k) h = refl
row_none n (told.Summed t c most) h = refl
row_none n (told.Refused f) h = refl
