-- The table of Allen's algebra obeys the laws, by tests that compute.
use Rattle.std.proofs.Common.{◌≡◌, true, refl, sym, subst}
use Rattle.calculus_table.specs.Algebra.{Algebra}
use Rattle.calculus_table.specs.Calculus.{IsCalculus, IsNamedCalculus}
use Rattle.calculus_table.specs.Checked.{each_below, each_triple, has_shape, obeys_involution, obeys_identity, obeys_converse, obeys_cycle, are_distinct}
use Rattle.calculus_table.proofs.Computed.{IsCalculus-from_tests, AreDistinct-from_test}
use Rattle.calculus_builtin.specs.Allen.{allen_names, allen_table, allen_algebra, allen_calculus}
use Rattle.calculus_builtin.specs.declared.intervals.TheConstants.{COMPOSITIONS}

-- the table by the rule is the table written down
pub allen_table-written : allen_table ≡ COMPOSITIONS
unfolding allen_table
allen_table-written = refl

-- the algebra with the table written down
abbrev pub written : Algebra
written = record allen_algebra { table = COMPOSITIONS }

written_shape : has_shape written ≡ true
written_shape = refl

written_involution : each_below 13 (obeys_involution written) ≡ true
written_involution = refl

written_identity : each_below 13 (obeys_identity written) ≡ true
written_identity = refl

written_converse : each_triple written (obeys_converse written) ≡ true
written_converse = refl

written_cycle : each_triple written (obeys_cycle written) ≡ true
written_cycle = refl

allen_distinct : are_distinct allen_names ≡ true
allen_distinct = refl

allen_lawful_algebra : IsCalculus allen_algebra
allen_lawful_algebra =
    subst (λ table. IsCalculus (record allen_algebra { table = table })) (sym allen_table-written)
    (IsCalculus-from_tests written written_shape written_involution written_identity written_converse written_cycle)

pub allen_lawful : IsNamedCalculus allen_calculus
allen_lawful = record {
  lawful = allen_lawful_algebra;
  distinct = AreDistinct-from_test allen_names allen_distinct;
  one_each = refl;
}
