-- A flat list in stretches: a stretch read, and a stretch written.
use Rattle.std.specs.Prelude.{List, ℕ, zero, suc, ◌+◌, get_or, set}
use Rattle.rows.specs.inner.FromTerms.{list_up}

-- the n elements of l from the place `at` on; d is read past the end
unfoldable pub stretch : {A : Type 0} → A → List A → ℕ → ℕ → List A
stretch d l at n = list_up (λ (k : ℕ). get_or l k d) n at

-- l with the first n of xs written from the place `at` on
unfoldable pub written : {A : Type 0} → A → List A → ℕ → List A → ℕ → List A
written d l at xs zero = l
written d l at xs (suc k) = set (written d l at xs k) (at + k) (get_or xs k d)
