use Rattle.std.proofs.Common.{◌≡◌, ◌-◌, suc, arith}
use Rattle.closure_seq.proofs.Counted.{level-uncounted}
use Rattle.closure_seq.proofs.path.ClosedPath.back.Goals as goal

pub returns-then-self-gt0 : goal.returns-then-self-gt0
returns-then-self-gt0 c =
    let a = c.self.inside in
    let e : a.emptied ≡ suc (a.emptied - 1) = omega (arith, c.if-self-gt0.true) in
    rw (← c.self.view_is) (level-uncounted a.calculus a.levels a.emptied (a.emptied - 1) e)
