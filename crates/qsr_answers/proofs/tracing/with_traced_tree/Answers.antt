use Rattle.std.proofs.Common.{ap, subst}
use Rattle.cert_file.specs.Certificate.{Certificate}
use Rattle.qsr_answers.specs.Certificates.{FailsTree}
use Rattle.qsr_answers.proofs.tracing.with_traced_tree.Goals as goal

pub returns-in_ok-tree_failure-in-Err : goal.returns-in_ok-tree_failure-in-Err
returns-in_ok-tree_failure-in-Err c =
    let failure = c.in_ok-tree_failure-in-Err.field-0 in
    subst (FailsTree c.args.calculus.now c.args.net.now failure.number failure.place) (ap (λ (x : Certificate). x.tree) c.certificate.view_is) (record {
      fault = c.in-Err.fault;
      fails = rw c.in_ok-fast.ensures at c.in-Err.ensures.traced;
      numbered = c.in_ok-tree_failure-in-Err.ensures.value;
    })
