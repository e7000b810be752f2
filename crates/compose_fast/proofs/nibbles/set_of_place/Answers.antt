use Rattle.compose_fast.proofs.Parts.{place-word}
use Rattle.compose_fast.proofs.nibbles.set_of_place.Goals as goal

pub returns : goal.returns
returns c = rw (c.of.ensures, c.from.ensures) (place-word c.args.d c.requires)
