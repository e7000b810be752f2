use Rattle.geo_sound.proofs.Places.{row-passed, edge-in_row}
use Rattle.geo_sound.proofs.ends.ends_of.Goals as goal

pub loop-first-preserved : goal.loop-first-preserved
loop-first-preserved c =
    let place = c.loop-first in
    let passed = row-passed c.args.nodes place.first place.left c.args.edge place.invariant.number c.requires.below
    place.invariant.below c.loop-first-test.true in
    record { below = passed.0; number = passed.1 }

pub returns : goal.returns
returns c = edge-in_row c.args.nodes c.args.edge c.loop-first.first c.loop-first.left c.loop-first.invariant.number
    c.loop-first-test.false
