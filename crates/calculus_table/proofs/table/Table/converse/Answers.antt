use Rattle.std.proofs.Common.{◌^◌, arith}
use Rattle.calculus_table.specs.Algebra.{converse_at}
use Rattle.calculus_table.proofs.Unions.{IsUnionBut-start, IsUnionBut-step, IsUnionBut-end}
use Rattle.calculus_table.proofs.table.Table.converse.Goals as goal

pub loop-left-init : goal.loop-left-init
loop-left-init c =
    rw (c.meet-left.ensures, c.full.ensures)
    (IsUnionBut-start c.args.self.now (λ r. 2 ^ converse_at c.args.self.now r) c.args.a)

pub single-requires : goal.single-requires
single-requires c = omega (arith, c.converse_at.ensures.table.bounded)

pub loop-left-preserved : goal.loop-left-preserved
loop-left-preserved c =
    rw (c.union-all.ensures, c.single.ensures, c.converse_at.ensures.value)
    (IsUnionBut-step _ (λ r. 2 ^ converse_at c.args.self.now r) c.args.a c.loop-left.left c.loop-left.all c.least-r.result c.without-left.result c.loop-left.invariant c.without-left.ensures)

pub returns : goal.returns
returns c =
    IsUnionBut-end _ (λ r. 2 ^ converse_at c.args.self.now r) c.args.a c.loop-left.left c.loop-left.all (c.is_empty.ensures.0 c.loop-left-test.false) c.loop-left.invariant
