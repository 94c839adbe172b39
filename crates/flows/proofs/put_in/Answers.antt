-- `put_in` gives the currents to the nodes.
use Rattle.flows.proofs.Currents.{gives_ticks}
use Rattle.flows.proofs.put_in.Goals as goal

pub returns : goal.returns
returns c = gives_ticks _ _ c.requires.1 c.put.ensures
