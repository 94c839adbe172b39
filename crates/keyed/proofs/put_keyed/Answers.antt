-- A word with a form, and one without.
use Rattle.std.proofs.Common.{arith}
use Rattle.decimal_write.proofs.Puts.{then, made}
use Rattle.keyed.proofs.Lettered.{has_form, form_range, keyed_text, no_form}
use Rattle.keyed.proofs.put_keyed.Goals as goal

pub put_number-requires-clause-digits_lt_digits_end : goal.put_number-requires-clause-digits_lt_digits_end
put_number-requires-clause-digits_lt_digits_end c = (form_range _ c.in_ok-x.ensures).0

pub put_number-requires-clause-power_lt_powers_end : goal.put_number-requires-clause-power_lt_powers_end
put_number-requires-clause-power_lt_powers_end c = (form_range _ c.in_ok-x.ensures).1

pub returns-in_err-x : goal.returns-in_err-x
returns-in_err-x c = no_form _ _ _ _ _ _ c.from_residual.ensures c.in_err-x.ensures

pub returns : goal.returns
returns c =
    record {
      most = omega arith;
      added =
          made (then c.put_key-next.ensures.1 c.put_number.ensures.1) (keyed_text c.args.w c.in_ok-x.ensures c.args.k);
      form = has_form c.args.w c.in_ok-x.ensures;
    }
