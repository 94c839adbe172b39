-- The lines of a text are its parts between newlines.
use mathlib.Core.Path.{◌≡◌, refl, ap, ◌∙◌}
use mathlib.Core.Bool.{Bool, true, false, cond}
use mathlib.Core.List.{List, [], ◌∷◌}
use Prim.Native.Nat.{ℕ, zero, suc}
use lib.Dec.{eqb}
use lib.ListN.{take, drop}
use Rattle.std.specs.Prelude.{Option, Some, None}
use Rattle.std.specs.List.{slice_get, slice_split, onto_first}
use Rattle.spelling.specs.Bytes.{newline}
use Rattle.explaining.specs.Lines.{line_length, line_at}

abbrev pub parts : List ℕ → List (List ℕ)
parts text = slice_split (λ b. eqb b newline) text

abbrev pub held : Option (List ℕ) → List ℕ
held (Some l) = l
held None = []

no_line : (k : ℕ) → line_at k [] ≡ []
unfolding line_at
no_line zero = refl
no_line (suc k) = no_line k

first_onto : (b : ℕ) (p : List (List ℕ)) → b ∷ held (slice_get p 0) ≡ held (slice_get (onto_first b p) 0)
first_onto b [] = refl
first_onto b (x ∷ p) = refl

later_onto : (b k : ℕ) (p : List (List ℕ)) → slice_get p (suc k) ≡ slice_get (onto_first b p) (suc k)
later_onto b k [] = refl
later_onto b k (x ∷ p) = refl

pub line_is_part : (k : ℕ) (text : List ℕ) → line_at k text ≡ held (slice_get (parts text) k)
unfolding line_at
line_is_part zero [] = refl
line_is_part (suc k) [] = no_line k
line_is_part zero (b ∷ l) = by (line_is_part zero l) (eqb b newline)
  where
    by : line_at zero l ≡ held (slice_get (parts l) 0) → (t : Bool) → take (cond t 0 (suc (line_length l))) (b ∷ l)
        ≡ held (slice_get (cond t ([] ∷ parts l) (onto_first b (parts l))) 0)
    by same true = refl
    by same false = ap (λ (m : List ℕ). b ∷ m) same ∙ first_onto b (parts l)
line_is_part (suc k) (b ∷ l) = by (line_is_part k l) (line_is_part (suc k) l) (eqb b newline)
  where
    by : line_at k l ≡ held (slice_get (parts l) k) → line_at (suc k) l ≡ held (slice_get (parts l) (suc k)) → (t : Bool)
        → line_at k (drop (suc (cond t 0 (suc (line_length l)))) (b ∷ l))
        ≡ held (slice_get (cond t ([] ∷ parts l) (onto_first b (parts l))) (suc k))
    by here later true = here
    by here later false = later ∙ ap held (later_onto b k (parts l))
