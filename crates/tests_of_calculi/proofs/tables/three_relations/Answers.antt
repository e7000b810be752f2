use Rattle.calculus_table.specs.Algebra.{Algebra}
use Rattle.calculus_table.proofs.Computed.{IsTable-from_test}
use Rattle.tests_of_calculi.proofs.tables.three_relations.Goals as goal

pub new-requires : goal.new-requires
new-requires c =
    let given : Algebra = record { size = 3; identity = 0; converses = c.args.conv; table = c.args.words } in
    rw (c.deref.ensures.value, c.in_ok-names.ensures, c.in_ok-table.ensures) (IsTable-from_test given c.requires)
