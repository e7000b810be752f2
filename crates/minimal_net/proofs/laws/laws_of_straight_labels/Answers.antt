use Rattle.minimal_net.proofs.StraightLabels.{straight_has, straight_held}
use Rattle.minimal_net.proofs.laws.laws_of_straight_labels.Goals as goal

pub returns-clause-straight_has_at : goal.returns-clause-straight_has_at
returns-clause-straight_has_at c = straight_has

pub returns-clause-straight_is_held : goal.returns-clause-straight_is_held
returns-clause-straight_is_held c = straight_held
