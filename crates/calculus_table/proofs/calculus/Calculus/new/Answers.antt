use Rattle.std.proofs.Common.{◌≡◌, List, String, Global, map, length, subst, arith}
use Rattle.std.proofs.lemmas.Grind.{common_steps}
use Rattle.std.specs.String.{string_bytes}
use Rattle.std.proofs.lemmas.Result.{err_from_is_err_and}
use Rattle.calculus_table.specs.Algebra.{Algebra}
use Rattle.calculus_table.specs.Calculus.{AreDistinct}
use Rattle.calculus_table.specs.TableFault.{IsLawFaultOf}
use Rattle.calculus_table.proofs.Faults.{law_fault}
use Rattle.calculus_table.proofs.calculus.Calculus.new.Goals as goal

pub returns-in_err-check_laws-clause-fault : goal.returns-in_err-check_laws-clause-fault
returns-in_err-check_laws-clause-fault c =
    let given : Algebra = record { size = length c.args.names.items; identity = c.args.id; converses = c.args.conv.now; table = c.args.table.now } in
    let same : c.new-table.result ≡ given = grind (arith, common_steps) in
    let p = err_from_is_err_and c.from_residual-in_err-check_laws.result c.from_residual-in_err-check_laws.ensures.1 in
    rw (p.1, p.2)
    (law_fault (map string_bytes c.args.names.items) given c.in_err-check_laws.field-0.0 (subst (λ (names : List (String Global)). AreDistinct (map string_bytes names)) c.deref.ensures.value c.in_default.ensures)
    (subst (λ m. IsLawFaultOf m c.in_err-check_laws.field-0.0) same c.in_err-check_laws.ensures))
