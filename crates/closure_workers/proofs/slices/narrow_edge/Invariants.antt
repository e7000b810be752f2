use Rattle.std.proofs.Common.{◌<◌, ℕ}
use Rattle.network_words.specs.Edge.{IsProperTriple}
use Rattle.network_words.specs.Closure.{IsClosedAt}
use Rattle.closure_workers.specs.Slices.{Looks}
use Rattle.closure_workers.proofs.slices.narrow_edge.Given as goal

abbrev pub invariant-loop-j : goal.invariant-loop-j
invariant-loop-j g l =
    let n = l.table.opening.nodes in
    record {
      looks : Looks l.table (λ words. (j : ℕ) → j < l.j → IsProperTriple n l.i j l.k → IsClosedAt (g.C.Compose.algebra l.c) n words l.i j l.k) l.fn.pass l.pass l.snap l.less;
    }
