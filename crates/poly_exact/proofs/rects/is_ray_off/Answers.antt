use Rattle.poly_exact.proofs.Covering.{read_below, read_above, read_right}
use Rattle.poly_exact.proofs.rects.is_ray_off.Goals as goal

pub returns-then-p-r : goal.returns-then-p-r
returns-then-p-r c = let r = c.requires in λ _. read_below c.args.p c.args.r r.point r.low r.high c.if-p-r.true

pub returns-then-r-p : goal.returns-then-r-p
returns-then-r-p c = let r = c.requires in λ _. read_above c.args.p c.args.r r.point r.low r.high c.if-r-p.true

pub returns : goal.returns
returns c = let r = c.requires in λ t. read_right c.args.p c.args.r r.point r.low r.high t
