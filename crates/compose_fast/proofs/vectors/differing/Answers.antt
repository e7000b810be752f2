use Rattle.compose_fast.proofs.LaneLemmas.{bit_of_differing, differing-below}
use Rattle.compose_fast.proofs.vectors.differing.Goals as goal

pub returns : goal.returns
returns c = record {
  lanes = bit_of_differing c.args.a c.args.b c.fits-a.0 c.fits-b.0;
  below = differing-below c.args.a c.args.b c.fits-a.0 c.fits-b.0;
}
