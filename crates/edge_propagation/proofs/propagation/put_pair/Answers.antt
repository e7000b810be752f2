use Rattle.edge_propagation.proofs.Planes.{set-fits}
use Rattle.edge_propagation.proofs.propagation.put_pair.Goals as goal

pub put-requires-clause-fits : goal.put-requires-clause-fits
put-requires-clause-fits g c = set-fits (g.C.Compose.algebra c.args.c.now) c.args.rel g.row.P c.requires.within c.requires.enough

pub put-requires-2-clause-fits : goal.put-requires-2-clause-fits
put-requires-2-clause-fits g c = set-fits (g.C.Compose.algebra c.args.c.now) c.converse.result g.row.P c.converse.ensures.within c.requires.enough
