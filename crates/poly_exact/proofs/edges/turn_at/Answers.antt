use Rattle.poly_exact.proofs.Sums.{read_orient}
use Rattle.poly_exact.proofs.Judged.{back}
use Rattle.poly_exact.proofs.edges.turn_at.Goals as goal

pub returns : goal.returns
returns c = back _ _ c.products.type_inv (read_orient c.args.a c.args.b c.args.c c.products.result c.requires.first c.requires.second c.requires.third c.products.ensures)
