-- Lists of numbers that rise, each above the one before it.
use Rattle.std.specs.Prelude.{List, [], ◌∷◌, ℕ, ◌<◌}

-- the first number is above low, and each above the one before it
pub data Rising : ℕ → List ℕ → Type 0 where
  end : {low : ℕ} → Rising low []
  next : {low n : ℕ} {rest : List ℕ} → low < n → Rising n rest → Rising low (n ∷ rest)
