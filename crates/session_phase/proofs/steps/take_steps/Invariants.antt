use Rattle.std.proofs.Common.{◌≡◌, length, take, drop}
use Rattle.edge_table.specs.Opening.{IsPassOf}
use Rattle.session_phase.specs.Phase.{asked_by, AreTaken}
use Rattle.session_phase.proofs.steps.take_steps.Given as goal

abbrev pub invariant-loop-step : goal.invariant-loop-step
invariant-loop-step g l = record {
  pass : IsPassOf l.table l.pass;
  taken : AreTaken (g.C.Compose.algebra l.c) l.table.opening.nodes (asked_by (take l.step-index l.fn.steps)) l.fn.pass.actor l.pass.actor (take l.step-index l.steps);
  size : length l.steps ≡ length l.fn.steps;
  rest : drop l.step-index l.steps ≡ drop l.step-index l.fn.steps;
}
