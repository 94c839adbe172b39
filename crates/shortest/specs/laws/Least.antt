-- What a shortest form is, in the words of the rule: the fewest digits that read back to a word, and of those the
-- smallest.
use Rattle.std.specs.Prelude.{◌≡◌, Bool, false, Option, Some, None, ℕ, ◌^◌, ◌≤◌, ◌<◌}
use Rattle.decimal.specs.declared.Decimal.{Decimal}
use Rattle.decimal.specs.Decimal.{digits_end, no_power, powers_end, word_of}

-- a number that a line can have, and that is read as the word w
pub record ReadsBack (w : ℕ) (minus : Bool) (d q : ℕ) : Type 0 where
  pub digits : d < digits_end
  pub power : q < powers_end
  pub bits : word_of minus d q ≡ w

-- one of them that has no more than k digits wherever another has no more than k, and none with smaller ones; zero is
-- 0e0
pub record Shortest (w : ℕ) (minus : Bool) (d q : ℕ) : Type 0 where
  pub form : ReadsBack w minus d q
  pub fewest : (m : Bool) (e p k : ℕ) → ReadsBack w m e p → e < 10 ^ k → d < 10 ^ k
  pub smallest : (m : Bool) (e p : ℕ) → ReadsBack w m e p → d ≤ e
  pub plain : d ≡ 0 → minus ≡ false
  pub zero : d ≡ 0 → q ≡ no_power

-- the shortest form, or none where nothing reads back to the word
abbrev pub Formed : ℕ → Option Decimal → Type 0
Formed w (Some x) = Shortest w x.minus x.digits x.power
Formed w None = (minus : Bool) (d q : ℕ) → ReadsBack w minus d q → ⊥
