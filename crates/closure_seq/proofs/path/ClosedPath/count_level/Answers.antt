use Rattle.std.proofs.Common.{◌≡◌, suc, arith}
use Rattle.closure_seq.specs.Paths.{Path}
use Rattle.closure_seq.proofs.Counted.{counted_top-more, counted_below-more}
use Rattle.closure_seq.proofs.path.ClosedPath.count_level.Goals as goal

pub returns-clause-level : goal.returns-clause-level
returns-clause-level c =
    let a = c.self.inside in
    let more : c.in-Some.emptied ≡ suc a.emptied = omega (arith, c.in-Some.ensures) in
    let top = counted_top-more a.emptied c.in-Some.emptied a.levels.top more in
    let below = counted_below-more a.emptied c.in-Some.emptied a.levels.top a.levels.below more in
    rw (← c.self.view_is) (λ i. let r : Path = record { algebra = a.calculus; nodes = a.levels.nodes; top = top i; below = below i } in r)
