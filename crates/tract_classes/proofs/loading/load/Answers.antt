use Rattle.std.proofs.Common.{◌≡◌, Ok, subst, sym, rules}
use Rattle.tract_classes.specs.ClassFile.{class_of}
use Rattle.tract_classes.specs.ClassFault.{IsClassFaultOf, IsFaultOf}
use Rattle.tract_classes.proofs.ReadClasses.{fault-of_class}
use Rattle.tract_classes.proofs.loading.load.Goals as goal

pub returns-in-Err-clause-fault : goal.returns-in-Err-clause-fault
returns-in-Err-clause-fault c =
    let m = c.args.c.now.algebra in
    let e : class_of c.args.c.now.names c.args.bytes.now ≡ Ok c.in-Ok.class = search rules in
    let fault = subst (λ a. IsFaultOf a c.in-Ok.class c.in-Err.fault) c.in-Ok-new.ensures c.in-Err.ensures in
    subst (λ t. IsClassFaultOf m t c.in-Err.fault) (sym e) (fault-of_class m c.in-Ok.class c.in-Err.fault fault)
