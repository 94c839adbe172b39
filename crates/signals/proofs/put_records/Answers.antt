-- `signals::put_records` meets its contract: each turn puts the next record, mended.
use Rattle.std.proofs.Common.{◌<◌, arith}
use Rattle.std.proofs.lemmas.List.{length_push}
use Rattle.std.proofs.lemmas.Iterator.Consumers.{YieldsList-at, YieldsList-from_enumerate, YieldsList-turn, YieldsList-end}
use Rattle.roll.proofs.Chunks.{YieldsList-from_chunks_exact}
use Rattle.signals.proofs.Records.{counted, turn_more, turns_end, go_told, go_all}
use Rattle.signals.proofs.put_records.Goals as goal

pub loop-i-preserved : goal.loop-i-preserved
loop-i-preserved c =
    let p : 0 < c.args.size = omega (arith, c.requires.icss_end_le_size) in
    let t =
    YieldsList-turn
    (YieldsList-at c.into_iter-i-iterator.ensures.into_iter_gives
    (YieldsList-from_enumerate
    (YieldsList-at c.enumerate-i-items.ensures.source
    (YieldsList-from_chunks_exact c.args.size c.args.records.now p c.chunks_exact.ensures.rest
    c.chunks_exact.ensures.size))
    c.enumerate-i-items.ensures.count))
    c.loop-i.yielded _ c.loop-i.yielded_by _ _ (c.in-Some.i, c.in-Some.record) c.in-Some.is c.next.ensures.steps in
    turn_more c.loop-i.invariant c.requires.icss_end_le_size t (counted c.from-n.ensures c.put_record.ensures.value)
    c.put_record.ensures.dst_after (length_push c.loop-i.yielded (c.in-Some.i, c.in-Some.record))

pub returns : goal.returns
returns c =
    let p : 0 < c.args.size = omega (arith, c.requires.icss_end_le_size) in
    let t =
    YieldsList-end
    (YieldsList-at c.into_iter-i-iterator.ensures.into_iter_gives
    (YieldsList-from_enumerate
    (YieldsList-at c.enumerate-i-items.ensures.source
    (YieldsList-from_chunks_exact c.args.size c.args.records.now p c.chunks_exact.ensures.rest
    c.chunks_exact.ensures.size))
    c.enumerate-i-items.ensures.count))
    c.loop-i.yielded _ c.loop-i.yielded_by _ _ c.in-None.is c.next.ensures.steps in
    let v = c.loop-i.invariant in
    let h = turns_end c.args.size c.args.records.now p t.1 in
    record { value = (go_told v h, omega (arith, v.few, v.within)); dst_after = go_all v h }
