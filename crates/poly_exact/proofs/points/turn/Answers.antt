use Rattle.poly_exact.proofs.Sums.{read_turn}
use Rattle.poly_exact.proofs.points.turn.Goals as goal

pub returns : goal.returns
returns c = read_turn c.args.a c.args.b c.args.p c.products.result c.requires.first c.requires.second c.requires.point c.products.type_inv c.products.ensures
