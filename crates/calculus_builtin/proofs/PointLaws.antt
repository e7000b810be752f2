-- The table of the point calculus obeys the laws, by tests that compute.
use Rattle.std.proofs.Common.{◌≡◌, true, refl}
use Rattle.calculus_table.specs.Calculus.{IsNamedCalculus}
use Rattle.calculus_table.specs.Checked.{each_below, each_triple, has_shape, obeys_involution, obeys_identity, obeys_converse, obeys_cycle, are_distinct}
use Rattle.calculus_table.proofs.Computed.{IsCalculus-from_tests, AreDistinct-from_test}
use Rattle.calculus_builtin.specs.Point.{point_names, point_table, point_algebra, point_calculus}

point_shape : has_shape point_algebra ≡ true
unfolding point_table
point_shape = refl

point_involution : each_below 3 (obeys_involution point_algebra) ≡ true
unfolding point_table
point_involution = refl

point_identity : each_below 3 (obeys_identity point_algebra) ≡ true
unfolding point_table
point_identity = refl

point_converse : each_triple point_algebra (obeys_converse point_algebra) ≡ true
unfolding point_table
point_converse = refl

point_cycle : each_triple point_algebra (obeys_cycle point_algebra) ≡ true
unfolding point_table
point_cycle = refl

point_distinct : are_distinct point_names ≡ true
point_distinct = refl

pub point_lawful : IsNamedCalculus point_calculus
point_lawful = record {
  lawful = IsCalculus-from_tests point_algebra point_shape point_involution point_identity point_converse point_cycle;
  distinct = AreDistinct-from_test point_names point_distinct;
  one_each = refl;
}
