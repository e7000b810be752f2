use Rattle.std.proofs.Common.{◌≡◌}
use Rattle.std.specs.Prelude.{slice_index}
use Rattle.minimal_net.specs.Searching.{task_of, IsIdle}
use Rattle.minimal_net.proofs.LabelsOfEdges.{AreLabelsBelow}
use Rattle.minimal_net.proofs.labeller.Labeller.edge_labels.Given as goal

abbrev pub invariant-loop-base : goal.invariant-loop-base
invariant-loop-base l = let t = task_of l.fn.self in record {
  task : task_of l.self ≡ t;
  idle : IsIdle l.self;
  labels : AreLabelsBelow t.algebra t.nodes t.class t.budget t.words l.edge (slice_index t.words l.edge) l.base l.labels;
}
