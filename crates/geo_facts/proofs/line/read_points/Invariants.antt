use Rattle.std.proofs.Common.{◌≡◌, ◌+◌, ◌≤◌, length}
use Rattle.geo_facts.specs.LineForm.{points_until_close}
use Rattle.geo_facts.proofs.FormLines.{with_points}
use Rattle.geo_facts.proofs.line.read_points.Given as goal

abbrev pub invariant-loop-point : goal.invariant-loop-point
invariant-loop-point l = record {
  told : with_points l.points.items (points_until_close l.tokens) ≡ points_until_close l.fn.tokens;
  few : length l.points.items + length l.tokens ≤ length l.fn.tokens;
}

abbrev pub decreases-loop-point : goal.decreases-loop-point
decreases-loop-point l = length l.tokens
