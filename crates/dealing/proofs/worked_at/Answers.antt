-- `worked_at` reads a worked card, value by value.
use native.Mathlib.Omega.{arith}
use Rattle.dealing.proofs.Readings.{number_is, first_switch, switch_is}
use Rattle.dealing.proofs.worked_at.Goals as goal

pub returns : goal.returns
returns c =
    let numbers = c.args.numbers.now in
    let switches = c.args.switches.now in
    λ j. record {
      sn = c.split_at.ensures j;
      bulk = c.split_at-2.ensures j;
      side = c.split_at-3.ensures j;
      nonideal = c.split_at-4.ensures j;
      ex = c.split_at-5.ensures j;
      sub = c.split_at-6.ensures j;
      sf = c.split_at-7.ensures j;
      rex = c.split_at-8.ensures j;
      rsub = c.split_at-9.ensures j;
      reverse = c.split_at-10.ensures j;
      ge = c.split_at-11.ensures j;
      gbc = c.split_at-12.ensures j;
      gcc = c.split_at-13.ensures j;
      gblx = c.split_at-14.ensures j;
      gbli = c.split_at-15.ensures j;
      octave = number_is numbers c.args.i 15 (omega arith) j;
      second = number_is numbers c.args.i 16 (omega arith) j;
      knee = number_is numbers c.args.i 17 (omega arith) j;
      exsub = first_switch switches c.args.i j;
      rcbli_zero = switch_is switches c.args.i 1 (omega arith) j;
      pnp = switch_is switches c.args.i 2 (omega arith) j;
      rcblx_zero = switch_is switches c.args.i 3 (omega arith) j;
      wide = switch_is switches c.args.i 4 (omega arith) j;
    }
