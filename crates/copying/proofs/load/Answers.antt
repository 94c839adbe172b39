-- `copying::load` meets its contract: each turn puts the word of the next piece.
use Rattle.std.proofs.Common.{lit<}
use Rattle.std.proofs.lemmas.List.{length_push}
use Rattle.std.proofs.lemmas.Iterator.Consumers.{YieldsList-at, YieldsList-from_enumerate, YieldsList-turn, YieldsList-end}
use Rattle.bytes_le.specs.Le.{word_bytes}
use Rattle.roll.proofs.Chunks.{YieldsList-from_chunks_exact}
use Rattle.copying.proofs.WordsRead.{load_first, load_more, load_all}
use Rattle.copying.proofs.load.Goals as goal

pub loop-i-init : goal.loop-i-init
loop-i-init c = load_first _ c.requires

-- what the loop goes through: the pieces, with their numbers
pub loop-i-preserved : goal.loop-i-preserved
loop-i-preserved c =
    let t =
    YieldsList-turn
    (YieldsList-at c.into_iter-i-iterator.ensures.into_iter_gives
    (YieldsList-from_enumerate
    (YieldsList-at c.enumerate-i-items.ensures.source
    (YieldsList-from_chunks_exact word_bytes c.args.src.now (lit< tt) c.chunks_exact.ensures.rest
    c.chunks_exact.ensures.size))
    c.enumerate-i-items.ensures.count))
    c.loop-i.yielded _ c.loop-i.yielded_by _ _ (c.in-Some.i, c.in-Some.x) c.in-Some.is c.next.ensures.steps in
    load_more c.args.src.now c.loop-i.invariant t c.u64_at.ensures
    (length_push c.loop-i.yielded (c.in-Some.i, c.in-Some.x))

pub returns : goal.returns
returns c =
    let t =
    YieldsList-end
    (YieldsList-at c.into_iter-i-iterator.ensures.into_iter_gives
    (YieldsList-from_enumerate
    (YieldsList-at c.enumerate-i-items.ensures.source
    (YieldsList-from_chunks_exact word_bytes c.args.src.now (lit< tt) c.chunks_exact.ensures.rest
    c.chunks_exact.ensures.size))
    c.enumerate-i-items.ensures.count))
    c.loop-i.yielded _ c.loop-i.yielded_by _ _ c.in-None.is c.next.ensures.steps in
    load_all c.args.src.now c.loop-i.invariant t.1
