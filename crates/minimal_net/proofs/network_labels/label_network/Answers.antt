use Rattle.std.specs.Prelude.{false}
use Rattle.minimal_net.specs.Searching.{task_over}
use Rattle.minimal_net.proofs.network_labels.label_network.Goals as goal

pub join-requires-clause-shares : goal.join-requires-clause-shares
join-requires-clause-shares g c = (
  task_over (g.C.Compose.algebra c.args.c.now) c.args.closed.now.nodes c.args.class.now c.args.closed.now.words c.args.budget
      false,
  c.edges-edges.ensures,
  rw c.deref.ensures.value c.in_ok-pieces.ensures.each,
)

pub returns : goal.returns
returns g c =
    c.join.ensures (task_over (g.C.Compose.algebra c.args.c.now) c.args.closed.now.nodes c.args.class.now
    c.args.closed.now.words c.args.budget false) c.edges-edges.ensures (rw c.deref.ensures.value c.in_ok-pieces.ensures.each)
