use Rattle.std.proofs.Common.{◌≡◌, ℕ, List, IfOk, sym, subst}
use Rattle.std.proofs.lemmas.Result.{IfOk-weaker}
use Rattle.calculus_table.specs.Calculus.{NamedAlgebra}
use Rattle.calculus_builtin.specs.Allen.{FollowsRule, allen_names, allen_algebra, allen_calculus}
use Rattle.calculus_builtin.proofs.AllenLaws.{allen_lawful, allen_table-written}
use Rattle.calculus_builtin.proofs.AllenRule.{allen_rule}
use Rattle.calculus_builtin.proofs.intervals.allen.Goals as goal

pub constant_calculus-requires : goal.constant_calculus-requires
constant_calculus-requires c = rw (← allen_table-written) allen_lawful

pub returns-clause-value : goal.returns-clause-value
returns-clause-value c =
    subst (λ (table : List ℕ). IfOk c.constant_calculus.result (λ k. k ≡ record { names = allen_names; algebra = record allen_algebra { table = table } }))
    (sym allen_table-written) c.constant_calculus.ensures

pub returns-clause-rule : goal.returns-clause-rule
returns-clause-rule c =
    IfOk-weaker c.constant_calculus.result (λ k. k ≡ allen_calculus) (λ k. FollowsRule k.algebra)
    (λ k e. subst (λ (n : NamedAlgebra). FollowsRule n.algebra) (sym e) allen_rule) (returns-clause-value c)
