-- Sisters: what is of the other polarity and otherwise the same, of a card, a transistor that stands, and a whole
-- board.
use Rattle.std.specs.Prelude.{◌≡◌, not, map, neg_ℤ}
use Rattle.card.specs.declared.WorkedCard.{WorkedCard}
use Rattle.model.specs.Board.{Board}
use Rattle.model.specs.Model.{volts_of}
use Rattle.days.specs.Perm.{Perm}
use Rattle.days.specs.Fitted.{Fitted, fitted_in}

-- a PNP's NPN sister, and an NPN's PNP sister
abbrev pub sister_of : WorkedCard → WorkedCard
sister_of c =
    record {
      sn = c.sn;
      bulk = c.bulk;
      side = c.side;
      nonideal = c.nonideal;
      ex = c.ex;
      sub = c.sub;
      sf = c.sf;
      rex = c.rex;
      rsub = c.rsub;
      reverse = c.reverse;
      ge = c.ge;
      gbc = c.gbc;
      gcc = c.gcc;
      gblx = c.gblx;
      gbli = c.gbli;
      octave = c.octave;
      second = c.second;
      knee = c.knee;
      exsub = c.exsub;
      rcbli_zero = c.rcbli_zero;
      pnp = not c.pnp;
      rcblx_zero = c.rcblx_zero;
      wide = c.wide;
    }

-- a transistor on such a card, on the same nodes
abbrev pub sister_fitted : Fitted → Fitted
sister_fitted f = record { worked = sister_of f.worked; nodes = f.nodes }

-- c is the mirror of b: it has the sisters of all that stands on b, in any order and under any numbers, and every
-- voltage negated
pub record Mirrored (b c : Board) : Type 0 where
  pub standing : Perm (fitted_in c) (map sister_fitted (fitted_in b))
  pub volts : volts_of c ≡ map neg_ℤ (volts_of b)
