use Rattle.std.proofs.Common.{◌≤◌, ◌+◌}
use Rattle.std.specs.Prelude.{sum}
use Rattle.network_words.specs.Edge.{edge_count}
use Rattle.closure_workers.specs.Slices.{LooksOn}
use Rattle.closure_workers.proofs.slices.close_slice.Given as goal

abbrev pub invariant-loop-pass : goal.invariant-loop-pass
invariant-loop-pass g l = record {
  looks_on : LooksOn l.table l.fn.pass l.pass l.snap;
  loads : l.fn.pass.loads + edge_count l.table.opening.nodes ≤ l.pass.loads;
}

abbrev pub decreases-loop-pass : goal.decreases-loop-pass
decreases-loop-pass g l = sum l.pass.actor.seen
