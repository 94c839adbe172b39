-- What a card made ready has: its octaves' reciprocals, its T's without an exponential, and values whose products are
-- within bounds.
use mathlib.Core.Path.{◌≡◌, refl, ap, ◌∙◌}
use mathlib.Core.List.{List}
use Prim.Native.Nat.{ℕ, ◌≤◌, ◌<◌}
use native.Mathlib.Nat.{le_trans}
use native.Mathlib.Omega.{arith}
use lib.Dec.{lit≤}
use lib.IntN.{ℤ}
use Rattle.float.specs.declared.Split.{Split}
use Rattle.float.specs.Split.{IsSplit}
use Rattle.reverse.specs.OfOctaveTypes.Exponential.{Exponential}
use Rattle.reverse.specs.OfOctave.Position.{InRange}
use Rattle.reverse.specs.OfOctave.laws.Places.{exponential_size, exponent_small}
use Rattle.reverse.specs.OfOctave.inner.Reciprocal.{IsReciprocal, equals_reciprocal, reciprocal_octave}
use Rattle.card_laws.specs.OfCard.WorkedCard.{WorkedCard}
use Rattle.card_laws.specs.OfCard.inner.Worked.{IsWorked}
use Rattle.terms.specs.declared.Ready.{Ready}
use Rattle.terms.specs.Rows.{roles}
use Rattle.terms.specs.Values.{doubled_octave, knee_volts}
use Rattle.reverse.specs.OfScaling.Scaled.{value_at, exp_of, times, whole_ticks, whole_parts, tick_limit, ratio_limit}
use Rattle.reverse.specs.OfScaling.inner.Shifts.{alone_of, exp_at}
use Rattle.reverse.specs.Sum.{sum_parts, sum_limit}
use Rattle.terms.specs.inner.Ready.{ready_of, IsReady, Askable}
use Rattle.reverse.specs.OfScaling.inner.Shifts.{UpTo, IsExp, Scalable, Junction, scaled_of, more_parts}
use Rattle.reverse.proofs.OfScaling.Scaling.{ticks_upto, parts_upto, alone_upto, exponential_is}

-- both octaves are in range
pub octave_in : {c : WorkedCard} → IsWorked c → InRange c.octave
octave_in h = record { least = le_trans (lit≤ tt) h.octave_least_lem; most = le_trans h.octave_most_lem (lit≤ tt) }

pub doubled_in : {c : WorkedCard} → IsWorked c → InRange (doubled_octave c)
doubled_in h =
    let a = h.octave_least_lem in let b = h.octave_most_lem in record { least = omega arith; most = omega arith }

pub second_in : {c : WorkedCard} → IsWorked c → InRange c.second
second_in h = record { least = h.second_least_lem; most = h.second_most_lem }

-- the values by their names
pub record Splits (c : WorkedCard) : Type 0 where
  pub sn : IsSplit c.sn
  pub bulk : IsSplit c.bulk
  pub side : IsSplit c.side
  pub nonideal : IsSplit c.nonideal
  pub ex : IsSplit c.ex
  pub sub : IsSplit c.sub
  pub sf : IsSplit c.sf
  pub rex : IsSplit c.rex
  pub rsub : IsSplit c.rsub
  pub reverse : IsSplit c.reverse
  pub ge : IsSplit c.ge
  pub gbc : IsSplit c.gbc
  pub gcc : IsSplit c.gcc
  pub gblx : IsSplit c.gblx
  pub gbli : IsSplit c.gbli

pub splits : {c : WorkedCard} → IsWorked c → Splits c
splits h =
    let a = h.splits in
    let b = a.1.1.1 in
    let d = b.1.1.1 in
    let f = d.1.1.1.1 in
    record {
      sn = a.0;
      bulk = a.1.0;
      side = a.1.1.0;
      nonideal = b.0;
      ex = b.1.0;
      sub = b.1.1.0;
      sf = d.0;
      rex = d.1.0;
      rsub = d.1.1.0;
      reverse = d.1.1.1.0;
      ge = f.0;
      gbc = f.1.0;
      gcc = f.1.1.0;
      gblx = f.1.1.1.0;
      gbli = f.1.1.1.1.0;
    }

module _ {r : Ready} (h : IsReady r) where
  pub plain_is : IsReciprocal r.plain
  unfolding ready_of
  plain_is = equals_reciprocal r.card.octave r.plain (octave_in h.worked)
      (ap (λ (x : Ready). x.plain) h.is)

  pub second_is : IsReciprocal r.second
  unfolding ready_of
  second_is = equals_reciprocal r.card.second r.second (second_in h.worked)
      (ap (λ (x : Ready). x.second) h.is)

  pub doubled_is : IsReciprocal r.doubled
  unfolding ready_of
  doubled_is =
      equals_reciprocal (doubled_octave r.card) r.doubled (doubled_in h.worked) (ap (λ (x : Ready). x.doubled)
      h.is)

  pub doubled_octave_lem : r.doubled.w ≡ doubled_octave r.card
  unfolding ready_of
  doubled_octave_lem = ap (λ (x : Ready). x.doubled.w) h.is ∙ reciprocal_octave (doubled_octave r.card)

  -- the exponential of V_Lr
  pub own_knee : IsExp (doubled_octave r.card) (knee_volts r.card) r.knee
  unfolding ready_of
  own_knee =
      rw (ap (λ (x : Ready). x.knee) h.is)
      (record {
        is = exponential_is r.card.knee (doubled_octave r.card) (doubled_in h.worked).least;
        sized =
            record {
              digits = exponential_size (knee_volts r.card) (doubled_octave r.card);
              small =
                  exponent_small r.card.knee (doubled_octave r.card) h.worked.knee_most_lem
                  (doubled_in h.worked);
            };
      })

  pub plain_octave : r.plain.w ≡ r.card.octave
  unfolding ready_of
  plain_octave = ap (λ (x : Ready). x.plain.w) h.is ∙ reciprocal_octave r.card.octave

  pub second_octave : r.second.w ≡ r.card.second
  unfolding ready_of
  second_octave = ap (λ (x : Ready). x.second.w) h.is ∙ reciprocal_octave r.card.second

  -- a T without an exponential
  alone_at : (f : Ready → ℕ) (x : Split) → f (ready_of r.card) ≡ alone_of x
      → UpTo tick_limit (f r) (whole_ticks (value_at x))
  alone_at f x e = rw (ap f h.is ∙ e) (alone_upto x)

  pub own_bulk : UpTo tick_limit r.bulk (whole_ticks (value_at r.card.bulk))
  unfolding ready_of
  own_bulk = alone_at (λ (x : Ready). x.bulk) r.card.bulk refl

  pub own_side : UpTo tick_limit r.side (whole_ticks (value_at r.card.side))
  unfolding ready_of
  own_side = alone_at (λ (x : Ready). x.side) r.card.side refl

  pub own_nonideal : UpTo tick_limit r.nonideal (whole_ticks (value_at r.card.nonideal))
  unfolding ready_of
  own_nonideal = alone_at (λ (x : Ready). x.nonideal) r.card.nonideal refl

  pub own_ex : UpTo tick_limit r.ex (whole_ticks (value_at r.card.ex))
  unfolding ready_of
  own_ex = alone_at (λ (x : Ready). x.ex) r.card.ex refl

  pub own_sub : UpTo tick_limit r.sub (whole_ticks (value_at r.card.sub))
  unfolding ready_of
  own_sub = alone_at (λ (x : Ready). x.sub) r.card.sub refl

  pub own_sf : UpTo tick_limit r.sf (whole_ticks (value_at r.card.sf))
  unfolding ready_of
  own_sf = alone_at (λ (x : Ready). x.sf) r.card.sf refl

  pub own_reverse : UpTo tick_limit r.reverse (whole_ticks (value_at r.card.reverse))
  unfolding ready_of
  own_reverse = alone_at (λ (x : Ready). x.reverse) r.card.reverse refl

-- what `exponential` asks of two roles, with the octave or the second one
pub plain_junction : {table v : List ℕ} {r : Ready} → Askable table r v → {p q : ℕ} → p < roles → q < roles
    → Junction table v p q r.plain
plain_junction a h k =
    record {
      table_is = a.table_is;
      long = a.long;
      near = a.near;
      from = h;
      to = k;
      reciprocal = plain_is a.ready;
    }

pub doubled_junction : {table v : List ℕ} {r : Ready} → Askable table r v → {p q : ℕ} → p < roles → q < roles
    → Junction table v p q r.doubled
doubled_junction a h k =
    record {
      table_is = a.table_is;
      long = a.long;
      near = a.near;
      from = h;
      to = k;
      reciprocal = doubled_is a.ready;
    }

pub second_junction : {table v : List ℕ} {r : Ready} → Askable table r v → {p q : ℕ} → p < roles → q < roles
    → Junction table v p q r.second
second_junction a h k =
    record {
      table_is = a.table_is;
      long = a.long;
      near = a.near;
      from = h;
      to = k;
      reciprocal = second_is a.ready;
    }

-- what `scaled` asks
pub scalable : {x : Split} {g : Exponential} {w : ℕ} {v : ℤ} → IsSplit x → IsExp w v g → (more : ℕ) → more ≤ more_parts
    → Scalable x g more
scalable i e more h = record { split = i; sized = e.sized; near = h }

-- ---- a T and a ratio with the exponential that the code has

octave_exp : {g : Exponential} {w u : ℕ} {v : ℤ} → IsExp w v g → w ≡ u → exp_at g ≡ exp_of v u
octave_exp {v = v} e o = e.is ∙ ap (exp_of v) o

module _ {x : Split} {g : Exponential} {w u : ℕ} {v : ℤ} (i : IsSplit x) (e : IsExp w v g) (o : w ≡ u) {n : ℕ} where
  pub ticks_at_lem : n ≡ scaled_of x g 0 → UpTo tick_limit n (whole_ticks (times (value_at x) (exp_of v u)))
  ticks_at_lem h = rw (h, ← octave_exp e o) (ticks_upto i e.sized)

  pub parts_at : n ≡ scaled_of x g more_parts → UpTo ratio_limit n (whole_parts (times (value_at x) (exp_of v u)))
  parts_at h = rw (h, ← octave_exp e o) (parts_upto i e.sized)

-- a sum with the exponentials that the code has
pub sum_at : {g h : Exponential} {w u : ℕ} {v k : ℤ} {n : ℕ} → IsExp w v g → w ≡ u → IsExp u k h →
    UpTo sum_limit n (sum_parts (exp_at g) (exp_at h)) → UpTo sum_limit n (sum_parts (exp_of v u) (exp_of k u))
sum_at a o b e = rw (← octave_exp a o, ← b.is) e
