use Rattle.parallel_search.proofs.Walking.{answered-for, walk-kept}
use Rattle.parallel_search.proofs.crew.take_over.Goals as goal

pub take_over-requires-clause-answered : goal.take_over-requires-clause-answered
take_over-requires-clause-answered g c =
    answered-for (g.C.Compose.algebra c.args.site.now.c.now) c.args.site.now.nodes c.args.site.now.class.now
    c.args.walk.now c.args.answered
    c.requires.walk c.requires.answered

pub returns-clause-walk : goal.returns-clause-walk
returns-clause-walk g c =
    walk-kept (g.C.Compose.algebra c.args.site.now.c.now) c.args.site.now.nodes c.args.site.now.class.now
    c.args.walk.now c.take_over.new.self
    c.requires.walk c.in_ok-take_over.ensures.walk c.in_ok-take_over.ensures.task
