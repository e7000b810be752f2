use Rattle.parallel_search.proofs.Walking.{walk-within}
use Rattle.parallel_search.proofs.crew.within.Goals as goal

pub returns : goal.returns
returns g c =
    walk-within (g.C.Compose.algebra c.args.site.now.c.now) c.args.site.now.nodes c.args.site.now.class.now c.args.child
    c.in_ok-child.child
    c.args.left c.requires.child c.in_ok-child.ensures.walk c.in_ok-child.ensures.task
