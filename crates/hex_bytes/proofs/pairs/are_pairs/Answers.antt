use Rattle.std.proofs.Common.{sym, ◌∙◌, arith}
use Rattle.hex_bytes.proofs.HexPairs.{after_two, pairs_on, pairs_first, pairs_second, pairs_end}
use Rattle.hex_bytes.proofs.pairs.are_pairs.Goals as goal

pub returns-then-not-is_hex : goal.returns-then-not-is_hex
returns-then-not-is_hex c =
    pairs_first c.loop-t.invariant (omega arith) (sym c.if-not-is_hex.ensures)

pub returns-then-not-is_hex-2 : goal.returns-then-not-is_hex-2
returns-then-not-is_hex-2 c =
    pairs_second c.loop-t.invariant (omega arith) (sym c.if-not-is_hex.ensures) (sym c.if-not-is_hex-2.ensures)

pub loop-t-preserved : goal.loop-t-preserved
loop-t-preserved c =
    rw (after_two c.loop-t.t.now)
    (pairs_on c.loop-t.invariant (omega arith) (sym c.if-not-is_hex.ensures) (sym c.if-not-is_hex-2.ensures))

pub returns : goal.returns
returns c = c.is_empty.ensures ∙ pairs_end c.loop-t.invariant (omega arith)
