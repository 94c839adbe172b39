-- `signals::put_record` meets its contract: the record is copied, and where it signals the bytes of +0 are put over it.
use Rattle.std.proofs.Common.{◌≡◌, true}
use Rattle.signals.specs.Records.{signals}
use Rattle.signals.proofs.Records.{clears}
use Rattle.signals.proofs.put_record.Goals as goal

pub returns-then-is_signal-clause-dst_after : goal.returns-then-is_signal-clause-dst_after
returns-then-is_signal-clause-dst_after c =
    let e : signals c.args.bytes.now ≡ true = cc in
    let r =
    clears c.args.bytes.now c.requires.icss_end_in_bounds c.args.dst.now _ _ c.copy.ensures
    c.copy-then-is_signal.ensures in
    rw e r
