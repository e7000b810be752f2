use Rattle.tract_classes.proofs.BuiltInClasses.{have_bases, singles_bases}
use Rattle.tract_classes.proofs.laws.laws_of_built_in_classes.Goals as goal

pub returns-clause-bases : goal.returns-clause-bases
returns-clause-bases c = have_bases

pub returns-clause-singles : goal.returns-clause-singles
returns-clause-singles c = singles_bases
