use Rattle.refutation.proofs.Firsts.{arrived-first}
use Rattle.refutation.proofs.walking.check_networks.Goals as goal

pub walk-requires-clause-arrived : goal.walk-requires-clause-arrived
walk-requires-clause-arrived g c =
    arrived-first (g.C.Compose.algebra c.args.c.now) c.args.net.now.nodes c.args.net.now.words c.args.nodes.now c.requires.formed c.requires.network c.requires.some c.in-Ok.networks c.in-Ok.ensures.first
