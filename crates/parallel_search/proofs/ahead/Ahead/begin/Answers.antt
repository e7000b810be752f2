use Rattle.parallel_search.proofs.Walking.{child-stage}
use Rattle.parallel_search.proofs.ahead.Ahead.begin.Goals as goal

pub add_job-requires-clause-job : goal.add_job-requires-clause-job
add_job-requires-clause-job g c =
    child-stage (g.C.Compose.algebra c.args.site.now.c.now) c.args.site.now.nodes c.args.site.now.class.now
    c.args.walk.now
    c.args.child.net c.class.result.now c.requires.walk c.requires.child.network c.requires.child.nodes_are
    c.class.ensures
