use Rattle.std.proofs.Common.{ap, refl}
use Rattle.network_words.specs.Network.{Network}
use Rattle.stepped_networks.specs.declared.stepped.Replaced.{Replaced}
use Rattle.stepped_networks.proofs.Trails.{KeepsTrail-replaced}
use Rattle.stepped_networks.proofs.stepped.replace_reserved.Goals as goal

pub returns-clause-trail : goal.returns-clause-trail
returns-clause-trail c =
    let net = c.args.net.now in
    let r : Replaced = record { edge = c.args.edge; old = c.word-old.result } in
    let words = ap (λ (y : Network). y.words) c.set.ensures in
    rw (words, c.push_reserved.ensures.items) (KeepsTrail-replaced net.nodes net.words c.args.trail.now.items c.args.edge c.args.rel r c.requires.below refl c.word-old.ensures)
