use Rattle.std.proofs.Common.{subst}
use Rattle.geo_sound.specs.Bases.{AreJoined}
use Rattle.geo_sound.proofs.Drawings.{drawn-relations, drawn-scenario}
use Rattle.geo_sound.proofs.drawing.drawn.Goals as goal

pub returns-clause-relations : goal.returns-clause-relations
returns-clause-relations g c =
    let bases = c.in_ok-bases.bases.items in
    drawn-relations c.args.polygons.now bases (c.in_ok-pieces.ensures bases
    (subst (λ ps. AreJoined ps bases) c.deref.ensures.value c.in_ok-bases.ensures))

pub returns-clause-scenario : goal.returns-clause-scenario
returns-clause-scenario g c =
    let bases = c.in_ok-bases.bases.items in
    drawn-scenario c.args.polygons.now bases (c.in_ok-pieces.ensures bases
    (subst (λ ps. AreJoined ps bases) c.deref.ensures.value c.in_ok-bases.ensures))
