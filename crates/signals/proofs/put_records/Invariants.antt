use Rattle.std.proofs.Common.{◌*◌, length, drop}
use Rattle.signals.proofs.Records.{Going}
use Rattle.signals.proofs.put_records.Given as goal

-- the buffer starts with the records passed, each mended
abbrev pub invariant-loop-i : goal.invariant-loop-i
invariant-loop-i l =
    Going l.size l.records l.initial.dst l.dst (drop (l.size * length l.yielded) l.records) (l.size * length l.yielded) l.n
