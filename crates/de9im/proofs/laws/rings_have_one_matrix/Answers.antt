use Rattle.de9im.proofs.OneMatrix.{matrix-one}
use Rattle.de9im.proofs.laws.rings_have_one_matrix.Goals as goal

pub returns : goal.returns
returns c = matrix-one
