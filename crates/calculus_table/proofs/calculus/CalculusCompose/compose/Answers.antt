use Rattle.calculus_table.proofs.Compositions.{composition-members, composition-within}
use Rattle.calculus_table.proofs.calculus.CalculusCompose.compose.Goals as goal

pub returns-clause-members : goal.returns-clause-members
returns-clause-members c = rw (← c.self.view_is, c.compose.ensures) (λ t. composition-members c.self.inside.table c.args.a c.args.b t c.self.invariant.lawful.table)

pub returns-clause-within : goal.returns-clause-within
returns-clause-within c = rw (← c.self.view_is, c.compose.ensures) (composition-within c.self.inside.table c.args.a c.args.b c.self.invariant.lawful.table)
