use Rattle.std.proofs.Common.{refl, sym, ap, ◌∙◌}
use Rattle.network_words.specs.Network.{Network}
use Rattle.parallel_search.proofs.Walking.{walk-begun}
use Rattle.parallel_search.proofs.parallel.solve_parallel.Goals as goal

pub search-requires-clause-walk : goal.search-requires-clause-walk
search-requires-clause-walk g c κs within =
    walk-begun (g.C.Compose.algebra c.args.c.now) c.nodes.result c.in_ok-copy.field-0 c.args.class.now c.args.class.now
    c.args.budget c.in_ok-root.root
    (ap (λ (x : Network). x.nodes) c.in_ok-copy.ensures ∙ sym c.nodes.ensures.value) refl c.in_ok-root.ensures.walk
    c.in_ok-root.ensures.task
