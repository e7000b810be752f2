use Rattle.calculus_table.specs.Algebra.{entry_at}
use Rattle.calculus_table.proofs.Unions.{IsUnionBut-start, IsUnionBut-step, IsUnionBut-end}
use Rattle.calculus_table.proofs.table.Table.compose_base.Goals as goal

pub loop-left-init : goal.loop-left-init
loop-left-init c =
    rw (c.meet-left.ensures, c.full.ensures)
    (IsUnionBut-start c.args.self.now (λ s. entry_at c.args.self.now c.args.r s) c.args.b)

pub loop-left-preserved : goal.loop-left-preserved
loop-left-preserved c =
    rw (c.union-all.ensures, c.entry_at.ensures.value)
    (IsUnionBut-step _ (λ s. entry_at c.args.self.now c.args.r s) c.args.b c.loop-left.left c.loop-left.all c.least-s.result c.without-left.result c.loop-left.invariant c.without-left.ensures)

pub returns : goal.returns
returns c =
    IsUnionBut-end _ (λ s. entry_at c.args.self.now c.args.r s) c.args.b c.loop-left.left c.loop-left.all (c.is_empty.ensures.0 c.loop-left-test.false) c.loop-left.invariant
