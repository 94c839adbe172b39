use Rattle.hex_bytes.proofs.HexPairs.{spell_first, spell_on, spell_end}
use Rattle.std.proofs.Common.{refl}
use Rattle.hex_bytes.proofs.pairs.fill.Goals as goal

pub loop-i-init : goal.loop-i-init
loop-i-init c = spell_first c.args.word.now c.requires

pub loop-i-preserved : goal.loop-i-preserved
loop-i-preserved c =
    spell_on c.args.word.now c.loop-i.invariant c.loop-i-test.true _ _ _ c.nibble.ensures.0
    c.nibble-in-loop-i.ensures.0 refl

pub returns : goal.returns
returns c = spell_end c.args.word.now c.loop-i.invariant c.loop-i-test.false
