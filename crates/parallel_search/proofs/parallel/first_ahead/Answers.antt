use Rattle.parallel_search.proofs.parallel.first_ahead.Goals as goal

pub returns-then-workers-lt2 : goal.returns-then-workers-lt2
returns-then-workers-lt2 g c = c.nothing-ahead.ensures (g.C.Compose.algebra c.args.site.now.c.now) c.args.site.now.nodes
    c.args.site.now.class.now

pub look-requires-clause-ahead : goal.look-requires-clause-ahead
look-requires-clause-ahead g c = c.nothing-ahead.ensures (g.C.Compose.algebra c.args.site.now.c.now)
    c.args.site.now.nodes c.args.site.now.class.now
