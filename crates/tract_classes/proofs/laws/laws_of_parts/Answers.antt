use Rattle.tract_classes.proofs.PartsOfSets.{parts_exist, parts_one, parts_partition, member_part}
use Rattle.tract_classes.proofs.laws.laws_of_parts.Goals as goal

pub returns-clause-parts_exist : goal.returns-clause-parts_exist
returns-clause-parts_exist c = parts_exist

pub returns-clause-parts_are_one : goal.returns-clause-parts_are_one
returns-clause-parts_are_one c = parts_one

pub returns-clause-parts_are_partition : goal.returns-clause-parts_are_partition
returns-clause-parts_are_partition c = parts_partition

pub returns-clause-member_is_its_part : goal.returns-clause-member_is_its_part
returns-clause-member_is_its_part c = member_part
