-- A record of version 2 that says no more than one of version 1, V_Lr and the series resistors apart.
use Rattle.std.specs.Prelude.{◌≡◌, true, List, ℕ, ◌≤◌, ◌<◌}
use Rattle.std.specs.Float.Ieee.Scale.{finite}
use Rattle.refusal.specs.Order.{Verdict, no, yes}
use Rattle.card.specs.declared.WorkedCard.{WorkedCard}
use Rattle.card.specs.OfClip.Numbers as number
use Rattle.card.specs.OfClip.Limits.{zero, one, wide, narrow}
use Rattle.card.specs.OfClip.Record.{is_wide, is_narrow, word_at, number_at}
use Rattle.card.specs.OfClip.Clip.{clipped_at}
use Rattle.card.specs.OfLoading.Knee.{knee_good}
use Rattle.card.specs.OfWorking.Work.{worked_of, leads_of, all}
use Rattle.card.specs.OfLoading.Numbers.{judged_numbers, parameters_of, spares_good}

-- s is of version 1 and t of version 2, with the same sixteen words; of its own words t has numbers, I_Br is 0 when
-- clipped, the polarity is +1, the spare words are good, V_Lr is within 5 V, and each resistor has a finite conductance
pub record SaysNoMore (s t : List ℕ) : Type 0 where
  pub first : is_narrow s ≡ true
  pub second : is_wide t ≡ true
  pub same : (i : ℕ) → i < narrow → word_at t i ≡ word_at s i
  pub numbers : (i : ℕ) → narrow ≤ i → i < wide → finite (number_at t i) ≡ true
  pub ibr : clipped_at t number.ibr ≡ zero
  pub polarity : clipped_at t number.polarity ≡ one
  pub spares : spares_good t ≡ true
  pub vlr : knee_good (clipped_at t number.vlr) ≡ true
  pub leads : all finite (leads_of (worked_of (parameters_of (judged_numbers t)))) ≡ true

-- a card with the V_Lr and the series resistors of another
abbrev pub with_leads : WorkedCard → WorkedCard → WorkedCard
with_leads d c = record {
  sn = c.sn;
  bulk = c.bulk;
  side = c.side;
  nonideal = c.nonideal;
  ex = c.ex;
  sub = c.sub;
  sf = c.sf;
  rex = c.rex;
  rsub = c.rsub;
  reverse = c.reverse;
  ge = d.ge;
  gbc = d.gbc;
  gcc = d.gcc;
  gblx = d.gblx;
  gbli = d.gbli;
  octave = c.octave;
  second = c.second;
  knee = d.knee;
  exsub = c.exsub;
  rcbli_zero = c.rcbli_zero;
  pnp = c.pnp;
  rcblx_zero = c.rcblx_zero;
  wide = d.wide;
}

abbrev pub judged_with_leads : WorkedCard → Verdict WorkedCard → Verdict WorkedCard
judged_with_leads d (no f) = no f
judged_with_leads d (yes c) = yes (with_leads d c)
