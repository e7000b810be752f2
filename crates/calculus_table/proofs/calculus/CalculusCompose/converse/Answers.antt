use Rattle.calculus_table.proofs.Compositions.{converse-members, converse-within}
use Rattle.calculus_table.proofs.calculus.CalculusCompose.converse.Goals as goal

pub returns-clause-members : goal.returns-clause-members
returns-clause-members c = rw (← c.self.view_is, c.converse.ensures) (λ t. converse-members c.self.inside.table c.args.a t)

pub returns-clause-within : goal.returns-clause-within
returns-clause-within c = rw (← c.self.view_is, c.converse.ensures) (converse-within c.self.inside.table c.args.a c.self.invariant.lawful.table)
