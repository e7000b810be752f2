use Rattle.std.proofs.Common.{◌<◌, ℕ}
use Rattle.closure_workers.specs.Slices.{Looks, IsListedClosed}
use Rattle.closure_workers.proofs.slices.narrow_slice.Given as goal

abbrev pub invariant-loop-i : goal.invariant-loop-i
invariant-loop-i g l =
    let n = l.table.opening.nodes in
    record {
      looks : Looks l.table (λ words. (i : ℕ) → i < l.i → (k : ℕ) → i < k → k < n → IsListedClosed (g.C.Compose.algebra l.c) n l.slice i k words) l.fn.pass l.pass l.snap l.less;
    }
