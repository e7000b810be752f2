use Rattle.poly_exact.proofs.Judged.{read_x, read_y}
use Rattle.poly_exact.proofs.Meets.{read_across, read_along}
use Rattle.poly_exact.proofs.edges.are_apart.Goals as goal

pub returns-then-are_beyond : goal.returns-then-are_beyond
returns-then-are_beyond c = λ t. let a = c.args in let r = c.requires in
    read_across a.a a.b a.c a.d _ _ _ _ (read_x a.a r.first) (read_x a.b r.second) (read_x a.c r.third) (read_x a.d r.fourth) (c.are_beyond.ensures t)

pub returns-else-are_beyond : goal.returns-else-are_beyond
returns-else-are_beyond c = λ t. let a = c.args in let r = c.requires in
    read_along a.a a.b a.c a.d _ _ _ _ (read_y a.a r.first) (read_y a.b r.second) (read_y a.c r.third) (read_y a.d r.fourth) (c.are_beyond-else-are_beyond.ensures t)
