-- What is written for a word reads back to it, and no text of a number that does has fewer digits.
use mathlib.Core.Path.{◌≡◌, ap, subst, ◌∙◌}
use mathlib.Core.Bool.{Bool}
use Prim.Native.Nat.{ℕ, ◌^◌, ◌<◌}
use Rattle.std.specs.Prelude.{Some, None}
use Rattle.decimal.specs.Decimal.{decimal}
use Rattle.shortest.specs.Form.{form_of}
use Rattle.shortest.specs.laws.Least.{ReadsBack, Formed}
use Rattle.shortest.proofs.Fewest.{formed}
use Rattle.decimal_read.specs.Text.{read_as, word_read}
use Rattle.decimal_write.specs.Written.{number_text}
use Rattle.decimal_write.proofs.Back.{number_back}

module _ (w : ℕ) (m : Bool) (d q : ℕ) (e : form_of w ≡ Some (decimal m d q)) where
  pub read_of_written : word_read (number_text m d q) ≡ Some w
  unfolding word_read
  read_of_written =
      let f = (subst (Formed w) e (formed w)).form in
      ap read_as (number_back m d q f.digits f.power) ∙ ap (λ (x : ℕ). Some x) f.bits

  -- where another number that reads back to the word has at most k digits, so has the one that is written
  pub fewest : (n : Bool) (c p k : ℕ) → ReadsBack w n c p → c < 10 ^ k → d < 10 ^ k
  fewest = (subst (Formed w) e (formed w)).fewest

-- a word that has no form is no number's
pub none_reads : (w : ℕ) → form_of w ≡ None → (m : Bool) (d q : ℕ) → ReadsBack w m d q → ⊥
none_reads w e = subst (Formed w) e (formed w)
