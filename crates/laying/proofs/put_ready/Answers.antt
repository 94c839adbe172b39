-- `put_ready` lays out each array's numbers.
use Rattle.std.proofs.Common.{◌≡◌, ℕ, List, false}
use Rattle.deck.specs.Stretch.{written}
use Rattle.laying.proofs.put_ready.Goals as goal

laid : {A : Type 0} (d : A) (l : List A) (at n : ℕ) {m xs ys : List A} → xs ≡ ys → m ≡ written d l at xs n →
    m ≡ written d l at ys n
laid d l at n e h = rw (← e) h

pub returns : goal.returns
returns c =
    record {
      numbers_laid = laid 0 _ _ _ c.numbers_of.ensures (c.put_stretch.ensures 0);
      powers_laid = laid 0 _ _ _ c.powers_of.ensures (c.put_stretch-2.ensures 0);
      ticks_laid = laid 0 _ _ _ c.ticks_of.ensures (c.put_stretch-3.ensures 0);
      switches_laid = laid false _ _ _ c.switches_of.ensures (c.put_stretch-4.ensures false);
    }
