use Rattle.calculus_table.specs.Composition.{row_composition}
use Rattle.calculus_table.proofs.Unions.{IsUnionBut-start, IsUnionBut-step, IsUnionBut-end}
use Rattle.calculus_table.proofs.table.Table.compose.Goals as goal

pub loop-b-init : goal.loop-b-init
loop-b-init c =
    rw (c.meet-left.ensures, c.full.ensures)
    (IsUnionBut-start c.args.self.now (λ r. row_composition c.args.self.now r c.args.b) c.args.a)

pub loop-b-preserved : goal.loop-b-preserved
loop-b-preserved c =
    rw (c.union-all.ensures, c.compose_base.ensures)
    (IsUnionBut-step _ (λ r. row_composition c.args.self.now r c.args.b) c.args.a c.loop-b.left c.loop-b.all c.least-r.result c.without-left.result c.loop-b.invariant c.without-left.ensures)

pub returns : goal.returns
returns c =
    IsUnionBut-end _ (λ r. row_composition c.args.self.now r c.args.b) c.args.a c.loop-b.left c.loop-b.all (c.is_empty.ensures.0 c.loop-b-test.false) c.loop-b.invariant
