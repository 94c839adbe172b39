-- How a card made ready is laid out: which of its numbers stand where in the stretch that its place has of each array.
use Rattle.std.specs.Prelude.{◌≡◌, Bool, false, List, [], ◌∷◌, ℕ, ◌+◌, ◌*◌, get_or}
use Rattle.float.specs.declared.Split.{Split}
use Rattle.octave.specs.declared.Reciprocal.{Reciprocal}
use Rattle.rows.specs.OfCard.WorkedCard.{WorkedCard}
use Rattle.rows.specs.OfTerms.Ready.{Ready}
use Rattle.deck.specs.Stretch.{stretch, written}

-- the places
abbrev pub cards_most : ℕ
cards_most = 16

-- how many of each array's numbers a place has
abbrev pub numbers_each : ℕ
numbers_each = 30

abbrev pub powers_each : ℕ
powers_each = 15

abbrev pub ticks_each : ℕ
ticks_each = 12

abbrev pub switches_each : ℕ
switches_each = 5

-- ---- a card's own numbers, in order

abbrev pub numbers_of : Ready → List ℕ
numbers_of r =
    r.card.sn.a ∷ r.card.bulk.a ∷ r.card.side.a ∷ r.card.nonideal.a ∷ r.card.ex.a ∷ r.card.sub.a
    ∷ r.card.sf.a ∷ r.card.rex.a ∷ r.card.rsub.a ∷ r.card.reverse.a ∷ r.card.ge.a ∷ r.card.gbc.a
    ∷ r.card.gcc.a ∷ r.card.gblx.a ∷ r.card.gbli.a ∷ r.card.octave ∷ r.card.second ∷ r.card.knee
    ∷ r.plain.w ∷ r.plain.high ∷ r.plain.low ∷ r.plain.base ∷ r.second.w ∷ r.second.high
    ∷ r.second.low ∷ r.second.base ∷ r.doubled.w ∷ r.doubled.high ∷ r.doubled.low ∷ r.doubled.base ∷ []

abbrev pub powers_of : WorkedCard → List ℕ
powers_of c =
    c.sn.down ∷ c.bulk.down ∷ c.side.down ∷ c.nonideal.down ∷ c.ex.down ∷ c.sub.down ∷ c.sf.down
    ∷ c.rex.down ∷ c.rsub.down ∷ c.reverse.down ∷ c.ge.down ∷ c.gbc.down ∷ c.gcc.down
    ∷ c.gblx.down ∷ c.gbli.down ∷ []

abbrev pub ticks_of : Ready → List ℕ
ticks_of r =
    r.plain.add ∷ r.second.add ∷ r.doubled.add ∷ r.knee.m ∷ r.knee.n ∷ r.bulk ∷ r.side ∷ r.nonideal ∷ r.ex
    ∷ r.sub ∷ r.sf ∷ r.reverse ∷ []

abbrev pub switches_of : WorkedCard → List Bool
switches_of c = c.exsub ∷ c.rcbli_zero ∷ c.pnp ∷ c.rcblx_zero ∷ c.wide ∷ []

-- ---- and back: the card of such numbers

abbrev pub split_from : List ℕ → List ℕ → ℕ → Split
split_from numbers powers k = record { a = get_or numbers k 0; down = get_or powers k 0 }

abbrev pub worked_from : List ℕ → List ℕ → List Bool → WorkedCard
worked_from numbers powers switches =
    record {
      sn = split_from numbers powers 0;
      bulk = split_from numbers powers 1;
      side = split_from numbers powers 2;
      nonideal = split_from numbers powers 3;
      ex = split_from numbers powers 4;
      sub = split_from numbers powers 5;
      sf = split_from numbers powers 6;
      rex = split_from numbers powers 7;
      rsub = split_from numbers powers 8;
      reverse = split_from numbers powers 9;
      ge = split_from numbers powers 10;
      gbc = split_from numbers powers 11;
      gcc = split_from numbers powers 12;
      gblx = split_from numbers powers 13;
      gbli = split_from numbers powers 14;
      octave = get_or numbers 15 0;
      second = get_or numbers 16 0;
      knee = get_or numbers 17 0;
      exsub = get_or switches 0 false;
      rcbli_zero = get_or switches 1 false;
      pnp = get_or switches 2 false;
      rcblx_zero = get_or switches 3 false;
      wide = get_or switches 4 false;
    }

abbrev pub reciprocal_from : List ℕ → List ℕ → ℕ → ℕ → Reciprocal
reciprocal_from numbers ticks k t =
    record {
      w = get_or numbers k 0;
      high = get_or numbers (k + 1) 0;
      low = get_or numbers (k + 2) 0;
      base = get_or numbers (k + 3) 0;
      add = get_or ticks t 0;
    }

abbrev pub ready_from : List ℕ → List ℕ → List ℕ → List Bool → Ready
ready_from numbers powers ticks switches =
    record {
      card = worked_from numbers powers switches;
      plain = reciprocal_from numbers ticks 18 0;
      second = reciprocal_from numbers ticks 22 1;
      doubled = reciprocal_from numbers ticks 26 2;
      knee = record { m = get_or ticks 3 0; n = get_or ticks 4 0 };
      bulk = get_or ticks 5 0;
      side = get_or ticks 6 0;
      nonideal = get_or ticks 7 0;
      ex = get_or ticks 8 0;
      sub = get_or ticks 9 0;
      sf = get_or ticks 10 0;
      reverse = get_or ticks 11 0;
    }

-- ---- the stretches of place i, and the card there

abbrev pub numbers_at : List ℕ → ℕ → List ℕ
numbers_at numbers i = stretch 0 numbers (numbers_each * i) numbers_each

abbrev pub powers_at : List ℕ → ℕ → List ℕ
powers_at powers i = stretch 0 powers (powers_each * i) powers_each

abbrev pub ticks_at : List ℕ → ℕ → List ℕ
ticks_at ticks i = stretch 0 ticks (ticks_each * i) ticks_each

abbrev pub switches_at : List Bool → ℕ → List Bool
switches_at switches i = stretch false switches (switches_each * i) switches_each

unfoldable pub ready_at : List ℕ → List ℕ → List ℕ → List Bool → ℕ → Ready
ready_at numbers powers ticks switches i =
    ready_from (numbers_at numbers i) (powers_at powers i) (ticks_at ticks i) (switches_at switches i)

-- the card r written at place i of the four arrays, and nothing else
pub record Laid (i : ℕ) (r : Ready) (numbers powers ticks : List ℕ) (switches : List Bool)
    (numbers' powers' ticks' : List ℕ) (switches' : List Bool) : Type 0 where
  pub numbers_laid : numbers' ≡ written 0 numbers (numbers_each * i) (numbers_of r) numbers_each
  pub powers_laid : powers' ≡ written 0 powers (powers_each * i) (powers_of r.card) powers_each
  pub ticks_laid : ticks' ≡ written 0 ticks (ticks_each * i) (ticks_of r) ticks_each
  pub switches_laid : switches' ≡ written false switches (switches_each * i) (switches_of r.card) switches_each
