use Rattle.calculus_table.proofs.Compositions.{converse-members, converse-within}
use Rattle.stepped_networks.proofs.compositions.NibblesCompose.converse.Goals as goal

pub returns-clause-members : goal.returns-clause-members
returns-clause-members c = λ t. rw c.converse_set.ensures.value (converse-members c.args.self.now c.args.a t)

pub returns-clause-within : goal.returns-clause-within
returns-clause-within c = rw c.converse_set.ensures.value (converse-within c.args.self.now c.args.a c.converse_set.ensures.calculus.table)
