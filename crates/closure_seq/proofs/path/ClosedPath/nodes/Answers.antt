use Rattle.std.proofs.Common.{◌∙◌}
use Rattle.closure_seq.proofs.Counted.{IsPath-standing}
use Rattle.closure_seq.proofs.path.ClosedPath.nodes.Goals as goal

pub returns-clause-value : goal.returns-clause-value
returns-clause-value c = rw (← c.self.view_is) (c.nodes.ensures.value ∙ c.self.invariant.0.in_step.nodes)

pub returns-clause-path : goal.returns-clause-path
returns-clause-path c =
    let a = c.self.inside in
    rw (← c.self.view_is) (IsPath-standing a.calculus a.pairs a.levels a.tables.bases a.emptied c.self.invariant.0 c.nodes.ensures.sized)
