-- The table of RCC-8 obeys the laws, by tests that compute.
use Rattle.std.proofs.Common.{◌≡◌, true, refl}
use Rattle.calculus_table.specs.Calculus.{IsNamedCalculus}
use Rattle.calculus_table.specs.Checked.{each_below, each_triple, has_shape, obeys_involution, obeys_identity, obeys_converse, obeys_cycle, are_distinct}
use Rattle.calculus_table.proofs.Computed.{IsCalculus-from_tests, AreDistinct-from_test}
use Rattle.calculus_builtin.specs.Rcc8.{rcc8_names, rcc8_table, rcc8_algebra, rcc8_calculus}

rcc8_shape : has_shape rcc8_algebra ≡ true
unfolding rcc8_table
rcc8_shape = refl

rcc8_involution : each_below 8 (obeys_involution rcc8_algebra) ≡ true
unfolding rcc8_table
rcc8_involution = refl

rcc8_identity : each_below 8 (obeys_identity rcc8_algebra) ≡ true
unfolding rcc8_table
rcc8_identity = refl

rcc8_converse : each_triple rcc8_algebra (obeys_converse rcc8_algebra) ≡ true
unfolding rcc8_table
rcc8_converse = refl

rcc8_cycle : each_triple rcc8_algebra (obeys_cycle rcc8_algebra) ≡ true
unfolding rcc8_table
rcc8_cycle = refl

rcc8_distinct : are_distinct rcc8_names ≡ true
rcc8_distinct = refl

pub rcc8_lawful : IsNamedCalculus rcc8_calculus
rcc8_lawful = record {
  lawful = IsCalculus-from_tests rcc8_algebra rcc8_shape rcc8_involution rcc8_identity rcc8_converse rcc8_cycle;
  distinct = AreDistinct-from_test rcc8_names rcc8_distinct;
  one_each = refl;
}
