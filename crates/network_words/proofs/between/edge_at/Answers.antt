use Rattle.std.proofs.Common.{refl}
use Rattle.network_words.specs.Edge.{edge_at}
use Rattle.network_words.proofs.Edges.{edge_at-lt}
use Rattle.network_words.proofs.between.edge_at.Goals as goal

pub returns-clause-value : goal.returns-clause-value
unfolding edge_at
returns-clause-value c = refl

pub returns-clause-below : goal.returns-clause-below
unfolding edge_at
returns-clause-below c = edge_at-lt c.args.nodes c.args.i c.args.j c.requires.order c.requires.below
