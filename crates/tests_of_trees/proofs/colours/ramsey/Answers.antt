use Rattle.std.proofs.Common.{refl, ◌∷◌, []}
use Rattle.calculus_table.specs.Algebra.{Algebra}
use Rattle.calculus_table.proofs.Computed.{IsTable-from_test}
use Rattle.tests_of_trees.proofs.colours.ramsey.Goals as goal

pub new-requires : goal.new-requires
new-requires c =
    let given : Algebra = record { size = 3; identity = 0; converses = 0 ∷ 1 ∷ 2 ∷ []; table = 1 ∷ 2 ∷ 4 ∷ 2 ∷ 5 ∷ 6 ∷ 4 ∷ 6 ∷ 3 ∷ [] } in
    rw (c.deref.ensures.value, c.in_ok-names.ensures, c.in_ok-table.ensures) (IsTable-from_test given refl)
