use Rattle.std.proofs.Common.{◌<◌, ℕ}
use Rattle.closure_workers.specs.Slices.{Looks, IsListedClosed}
use Rattle.closure_workers.proofs.slices.narrow_row.Given as goal

abbrev pub invariant-loop-k : goal.invariant-loop-k
invariant-loop-k g l = record {
  looks : Looks l.table (λ words. (k : ℕ) → l.i < k → k < l.k → IsListedClosed (g.C.Compose.algebra l.c) l.table.opening.nodes l.slice l.i k words) l.fn.pass l.pass l.snap l.less;
}
