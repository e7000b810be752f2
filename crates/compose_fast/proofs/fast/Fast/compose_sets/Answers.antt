use Rattle.calculus_table.specs.Composition.{row_composition}
use Rattle.calculus_table.proofs.Unions.{IsUnionBut-step, IsUnionBut-end}
use Rattle.compose_fast.proofs.ByteUnions.{IsUnionBut-within}
use Rattle.std.proofs.Common.{refl}
use Rattle.compose_fast.proofs.fast.Fast.compose_sets.Goals as goal

pub loop-b-init : goal.loop-b-init
loop-b-init c = IsUnionBut-within c.args.self.now (λ r. row_composition c.args.self.now r c.args.b) c.args.a 0 c.requires.first refl

pub loop-b-preserved : goal.loop-b-preserved
loop-b-preserved c =
    rw (c.union-all.ensures, c.compose_base.ensures)
    (IsUnionBut-step _ (λ r. row_composition c.args.self.now r c.args.b) c.args.a c.loop-b.left c.loop-b.all c.least-r.result c.without-left.result c.loop-b.invariant c.without-left.ensures)

pub returns-clause-value : goal.returns-clause-value
returns-clause-value c =
    IsUnionBut-end _ (λ r. row_composition c.args.self.now r c.args.b) c.args.a c.loop-b.left c.loop-b.all (c.is_empty.ensures.0 c.loop-b-test.false) c.loop-b.invariant
