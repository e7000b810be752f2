use Rattle.calculus_table.proofs.Compositions.{composition-members, composition-within}
use Rattle.stepped_networks.proofs.compositions.NibblesCompose.compose.Goals as goal

pub returns-clause-members : goal.returns-clause-members
returns-clause-members c = λ t. rw c.compose_sets.ensures.value (composition-members c.args.self.now c.args.a c.args.b t c.compose_sets.ensures.calculus.table)

pub returns-clause-within : goal.returns-clause-within
returns-clause-within c = rw c.compose_sets.ensures.value (composition-within c.args.self.now c.args.a c.args.b c.compose_sets.ensures.calculus.table)
