-- What is sure of clipped numbers and of a worked card: words of inner contracts, and what callers may count on.
use Rattle.std.specs.Prelude.{List, [], ◌∷◌, ℕ, ◌≤◌}
use Rattle.float.specs.declared.Split.{Split}
use Rattle.float.specs.Split.{IsSplit}
use Rattle.card.specs.declared.WorkedCard.{WorkedCard}
use Rattle.drawn.specs.OfLoading.Octave.{octave_least, octave_most, second_most}
use Rattle.drawn.specs.OfLoading.Knee.{knee_most}

-- a thing that holds of every element of a list
abbrev pub Each : {A : Type 0} → (A → Type 0) → List A → Type 0
Each P [] = Unit {0}
Each P (x ∷ l) = P x × Each P l

-- the fifteen splits in a row
abbrev pub splits_of : WorkedCard → List Split
splits_of c =
    c.sn ∷ c.bulk ∷ c.side ∷ c.nonideal ∷ c.ex ∷ c.sub ∷ c.sf ∷ c.rex ∷ c.rsub ∷ c.reverse
    ∷ c.ge ∷ c.gbc ∷ c.gcc ∷ c.gblx ∷ c.gbli ∷ []

-- the least that a tenth of an octave can be
abbrev pub second_least : ℕ
second_least = 1000000

-- what callers may count on of a worked card (`judged_is_worked` in proofs/WorkedCards)
pub record IsWorked (c : WorkedCard) : Type 0 where
  pub splits : Each IsSplit (splits_of c)
  pub octave_least_lem : octave_least ≤ c.octave
  pub octave_most_lem : c.octave ≤ octave_most
  pub second_least_lem : second_least ≤ c.second
  pub second_most_lem : c.second ≤ second_most
  pub knee_most_lem : c.knee ≤ knee_most
