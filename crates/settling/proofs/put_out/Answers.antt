-- What stands at the place is put in where it goes out.
use borrow.Author.Rules.{rules}
use Rattle.settling.proofs.put_out.Goals as goal

pub put_in-requires : goal.put_in-requires
put_in-requires c = (rw c.currents_at-old.ensures c.requires.1, search rules)

pub returns : goal.returns
returns c = rw c.currents_at-old.ensures at c.put_in.ensures
