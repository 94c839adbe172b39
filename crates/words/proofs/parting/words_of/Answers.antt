use Rattle.words.proofs.Parts.{parted_first, parted_on, parted_end}
use Rattle.words.proofs.parting.words_of.Goals as goal

pub loop-span-init : goal.loop-span-init
loop-span-init c = parted_first c.args.line.now _ c.no_words-words.ensures

pub loop-span-preserved : goal.loop-span-preserved
loop-span-preserved c = parted_on _ _ c.loop-span.invariant c.in-Some.ensures c.push.ensures

pub returns : goal.returns
returns c = parted_end c.loop-span.invariant c.in_default.ensures
