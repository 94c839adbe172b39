-- What is worked once for a card, and what working its terms asks.
use Rattle.std.specs.Prelude.{◌≡◌, List, ℕ, length}
use Rattle.reverse.specs.OfVolts.Volts.{AllNear}
use Rattle.reverse.specs.OfOctave.Table.{entries}
use Rattle.reverse.specs.OfOctave.Exponential.{exponential_of}
use Rattle.reverse.specs.OfOctave.inner.Reciprocal.{reciprocal_of, no_reciprocal}
use Rattle.card_laws.specs.OfCard.WorkedCard.{WorkedCard}
use Rattle.card_laws.specs.OfCard.Judge.{no_worked}
use Rattle.card_laws.specs.OfCard.inner.Worked.{IsWorked}
use Rattle.reverse.specs.OfScaling.inner.Shifts.{alone_of}
use Rattle.terms.specs.declared.Ready.{Ready}
use Rattle.terms.specs.Rows.{roles}
use Rattle.terms.specs.Values.{doubled_octave, knee_volts}

unfoldable pub ready_of : WorkedCard → Ready
ready_of c =
    record {
      card = c;
      plain = reciprocal_of c.octave;
      second = reciprocal_of c.second;
      doubled = reciprocal_of (doubled_octave c);
      knee = exponential_of (knee_volts c) (doubled_octave c);
      bulk = alone_of c.bulk;
      side = alone_of c.side;
      nonideal = alone_of c.nonideal;
      ex = alone_of c.ex;
      sub = alone_of c.sub;
      sf = alone_of c.sf;
      reverse = alone_of c.reverse;
    }

-- what stands where there is no card
abbrev pub no_ready : Ready
no_ready =
    record {
      card = no_worked;
      plain = no_reciprocal;
      second = no_reciprocal;
      doubled = no_reciprocal;
      knee = record { m = 0; n = 0 };
      bulk = 0;
      side = 0;
      nonideal = 0;
      ex = 0;
      sub = 0;
      sf = 0;
      reverse = 0;
    }

-- a card made ready
pub record IsReady (r : Ready) : Type 0 where
  pub worked : IsWorked r.card
  pub is : r ≡ ready_of r.card

-- asked by `all_terms`, and by whoever calls it: the table, a card made ready, and the kept voltages of its roles
pub record Askable (table : List ℕ) (r : Ready) (v : List ℕ) : Type 0 where
  pub table_is : table ≡ entries
  pub ready : IsReady r
  pub long : length v ≡ roles
  pub near : AllNear v
