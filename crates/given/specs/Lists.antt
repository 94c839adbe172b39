-- Looking through a list, the larger of two numbers, and numbers of a list: those kept, the largest, put in rising
-- order, and how many of them differ.
use Rattle.std.specs.Prelude.{Bool, true, false, cond, ◌||◌, List, [], ◌∷◌, ℕ, suc, eqb, ltb}

-- one of the elements passes the test
unfoldable pub any_of : {A : Type 0} → (A → Bool) → List A → Bool
any_of p [] = false
any_of p (a ∷ rest) = p a || any_of p rest

abbrev pub keep_if : {A : Type 0} → Bool → A → List A → List A
keep_if true a rest = a ∷ rest
keep_if false a rest = rest

-- those that pass the test
unfoldable pub only : {A : Type 0} → (A → Bool) → List A → List A
only p [] = []
only p (a ∷ rest) = keep_if (p a) a (only p rest)

abbrev pub larger : ℕ → ℕ → ℕ
larger m n = cond (ltb m n) n m

abbrev pub smaller : ℕ → ℕ → ℕ
smaller m n = cond (ltb m n) m n

-- the largest of a list; 0 where there is none
unfoldable pub largest : List ℕ → ℕ
largest [] = 0
largest (n ∷ ns) = larger n (largest ns)

-- x put among numbers that rise: the smaller of it and the first stands first, and the other is put among the rest
unfoldable pub insert : ℕ → List ℕ → List ℕ
insert x [] = x ∷ []
insert x (n ∷ ns) = smaller x n ∷ insert (larger x n) ns

unfoldable pub in_order : List ℕ → List ℕ
in_order [] = []
in_order (n ∷ ns) = insert n (in_order ns)

-- how many different numbers there are: one counts where it does not stand again later
unfoldable pub different : List ℕ → ℕ
different [] = 0
different (n ∷ ns) = cond (any_of (eqb n) ns) (different ns) (suc (different ns))
