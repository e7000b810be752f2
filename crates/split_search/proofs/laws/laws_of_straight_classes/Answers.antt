use Rattle.split_search.proofs.Least.{least_exist, least_one}
use Rattle.split_search.proofs.Deciding.{closure_decides}
use Rattle.split_search.proofs.EarlyEnds.{straight_ends, straight_yes}
use Rattle.split_search.proofs.Straight.{least_scenario}
use Rattle.split_search.proofs.laws.laws_of_straight_classes.Goals as goal

pub returns-clause-least_are_scenario : goal.returns-clause-least_are_scenario
returns-clause-least_are_scenario c = least_scenario

pub returns-clause-straight_tree_ends : goal.returns-clause-straight_tree_ends
returns-clause-straight_tree_ends c = straight_ends

pub returns-clause-straight_is_yes : goal.returns-clause-straight_is_yes
returns-clause-straight_is_yes c = straight_yes

pub returns-clause-least_exist : goal.returns-clause-least_exist
returns-clause-least_exist c = least_exist

pub returns-clause-least_are_one : goal.returns-clause-least_are_one
returns-clause-least_are_one c = least_one

pub returns-clause-closure_decides : goal.returns-clause-closure_decides
returns-clause-closure_decides c = closure_decides
