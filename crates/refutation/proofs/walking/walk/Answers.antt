use Rattle.std.proofs.Common.{◌∷◌, reverse, arith}
use Rattle.refutation.proofs.Pendings.{standing-end}
use Rattle.refutation.proofs.walking.walk.Goals as goal

pub returns : goal.returns
returns c =
    let s = c.loop-x.networks in
    standing-end c.args.networks.now.algebra c.args.net.now.nodes c.args.net.now.words c.args.nodes.now c.loop-x.x (reverse c.loop-x.way.items) (s.top ∷ s.under) (omega arith) c.loop-x.invariant.standing
