use Rattle.std.proofs.Common.{[], subst}
use Rattle.std.proofs.lemmas.List.{append-nil}
use Rattle.geo_sound.specs.Bases.{AreJoined}
use Rattle.geo_sound.proofs.Pieces.{empty-joined}
use Rattle.geo_sound.proofs.drawing.join.Goals as goal

pub returns : goal.returns
returns c =
    let bases = c.loop-rest.bases.items in
    subst (AreJoined c.args.pieces.now) (append-nil bases)
    (c.loop-rest.invariant [] (empty-joined c.loop-rest.rest.now c.in_default.len_below))
