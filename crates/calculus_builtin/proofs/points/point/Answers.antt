use Rattle.std.proofs.Common.{rules}
use Rattle.calculus_builtin.specs.Point.{point_table}
use Rattle.calculus_builtin.proofs.PointLaws.{point_lawful}
use Rattle.calculus_builtin.proofs.points.point.Goals as goal

pub constant_calculus-requires : goal.constant_calculus-requires
unfolding point_table
constant_calculus-requires c = point_lawful

pub returns : goal.returns
unfolding point_table
returns c = search rules
