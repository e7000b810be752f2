use Rattle.closure_seq.proofs.Counted.{counted-none, counted_below-none, counted_top-none}
use Rattle.closure_seq.proofs.path.ClosedPath.sets_at.Goals as goal

pub returns : goal.returns
returns c =
    let a = c.self.inside in
    let s = c.self.invariant.0 in
    rw (← c.self.view_is) (
    let none = counted-none a.emptied a.levels.top a.levels.nodes s.top.network.length_is c.self.invariant.1
    (λ h. c.requires (rw (← c.self.view_is) h)) in
    rw (counted_below-none a.emptied a.levels.top a.levels.below none, counted_top-none a.emptied a.levels.top none)
    c.sets_at.ensures
    )
