use Rattle.std.proofs.Common.{◌≡◌, count_by}
use Rattle.closure_seq.specs.Paths.{IsInStepBut}
use Rattle.closure_seq.proofs.narrowing.reset_queued.Given as goal

abbrev pub invariant-loop-i : goal.invariant-loop-i
invariant-loop-i g l = record {
  planes : l.pairs.planes ≡ l.initial.pairs.planes;
  in_step : IsInStepBut (g.C.Compose.algebra l.c) l.levels.nodes l.levels.top l.pairs;
}

abbrev pub decreases-loop-i : goal.decreases-loop-i
decreases-loop-i g l = count_by (λ b. b) l.pairs.queued
