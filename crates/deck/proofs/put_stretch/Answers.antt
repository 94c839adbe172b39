use Rattle.deck.specs.laws.Stretches.{written_mid}
use Rattle.std.proofs.Common.{rules}
use Rattle.deck.proofs.put_stretch.Goals as goal

pub returns : goal.returns
returns g c = λ d. written_mid d c.args.all.now _ _ (search rules) (search rules) c.requires
