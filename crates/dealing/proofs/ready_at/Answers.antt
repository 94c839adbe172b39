-- `ready_at` reads a card made ready.
use native.Mathlib.Omega.{arith}
use Rattle.deck.specs.Layout.{ready_at}
use Rattle.dealing.proofs.Readings.{tick_is}
use Rattle.dealing.proofs.ready_at.Goals as goal

pub returns : goal.returns
unfolding ready_at
returns c =
    let ticks = c.args.ticks.now in
    λ j. record {
      card = c.worked_at.ensures j;
      plain = c.reciprocal_at.ensures j;
      second = c.reciprocal_at-2.ensures j;
      doubled = c.reciprocal_at-3.ensures j;
      knee =
          record {
            m = tick_is ticks c.args.i 3 (omega arith) j;
            n = tick_is ticks c.args.i 4 (omega arith) j;
          };
      bulk = tick_is ticks c.args.i 5 (omega arith) j;
      side = tick_is ticks c.args.i 6 (omega arith) j;
      nonideal = tick_is ticks c.args.i 7 (omega arith) j;
      ex = tick_is ticks c.args.i 8 (omega arith) j;
      sub = tick_is ticks c.args.i 9 (omega arith) j;
      sf = tick_is ticks c.args.i 10 (omega arith) j;
      reverse = tick_is ticks c.args.i 11 (omega arith) j;
    }
