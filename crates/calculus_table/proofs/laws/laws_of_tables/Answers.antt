use Rattle.std.proofs.Common.{refl}
use Rattle.calculus_table.proofs.Faults.{fault-one, no-fault}
use Rattle.calculus_table.proofs.FirstPlaces.{calculus_or_fault}
use Rattle.calculus_table.proofs.laws.laws_of_tables.Goals as goal

pub returns : goal.returns
returns c = record {
  limit = refl;
  table_fault_is_one = fault-one;
  calculus_has_no_fault = no-fault;
  calculus_or_fault = calculus_or_fault;
}
