use Rattle.minimal_net.proofs.Steps.{first-task}
use Rattle.minimal_net.proofs.labeller.Labeller.new.Goals as goal

pub returns-clause-task : goal.returns-clause-task
returns-clause-task g c =
    first-task (g.C.Compose.algebra c.args.c.now) c.args.closed.now.nodes c.args.closed.now.words c.args.class.now
    c.args.budget c.args.is_straight c.in_ok-levels.levels c.size.result c.in_ok-path.path c.requires.closed
    c.in_ok-levels.ensures c.in_ok-path.ensures c.size.ensures.value
