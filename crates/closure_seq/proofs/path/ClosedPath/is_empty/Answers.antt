use Rattle.std.proofs.Common.{inr, arith}
use Rattle.closure_seq.proofs.Counted.{Contains-told, told-Contains}
use Rattle.closure_seq.proofs.path.ClosedPath.is_empty.Goals as goal

pub returns-else-self-gt0 : goal.returns-else-self-gt0
returns-else-self-gt0 c =
    let a = c.self.inside in
    let s = c.self.invariant.0 in
    rw (← c.self.view_is) (
      λ h. Contains-told a.calculus a.levels.nodes a.emptied a.levels.top s.calculus s.top c.self.invariant.1 (inr (c.is_empty.ensures.0 h)),
      λ h. c.is_empty.ensures.1 (told-Contains a.calculus a.levels.nodes a.emptied a.levels.top s.calculus s.top (omega (arith, c.if-self-gt0.false)) h),
    )
