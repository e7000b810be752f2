use Rattle.std.proofs.Common.{◌<◌, ap, arith}
use Rattle.std.specs.Prelude.{bit_and}
use Rattle.calculus_table.specs.Composition.{full_of}
use Rattle.compose_fast.proofs.Parts.{place-word}
use Rattle.stepped_networks.proofs.compositions.set_at.Goals as goal

pub returns : goal.returns
returns c =
    let below : c.args.d < 256 = omega (arith, c.requires) in
    rw (c.meet.ensures, c.full.ensures, c.of.ensures, c.from.ensures) (ap (λ y. bit_and y (full_of c.args.c.now)) (place-word c.args.d below))
