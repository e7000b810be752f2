use Rattle.std.proofs.Common.{◌≡◌, ◌+◌, ◌-◌, ◌++◌, length}
use Rattle.std.specs.List.{All}
use Rattle.calculus_table.specs.Composition.{full_of}
use Rattle.narrow_core.specs.Actor.{fresh}
use Rattle.edge_table.specs.Opening.{IsPassOf, algebra_of}
use Rattle.session_phase.specs.Phase.{IsStepFor, steps_of, asked_of, asked_of_sessions, IsReady}
use Rattle.session_phase.proofs.sessions.deal_sessions.Given as goal

abbrev pub invariant-loop-steps : goal.invariant-loop-steps
invariant-loop-steps l = record {
  pass : IsPassOf l.table l.rest;
  actor : l.rest.actor ≡ fresh (l.fn.pass.actor.weight + length l.lines.items - length l.fn.lines.items) l.table.opening.words;
  left : All (All (IsStepFor (full_of (algebra_of l.table.opening)) l.table.opening.nodes)) (steps_of l.lines.items);
  sessions : All (IsReady l.table) l.sessions.items;
  count : length l.sessions.items + length l.lines.items ≡ length l.fn.lines.items;
  asked : asked_of (steps_of l.lines.items) ++ asked_of_sessions l.sessions.items ≡ asked_of (steps_of l.fn.lines.items);
}

abbrev pub decreases-loop-steps : goal.decreases-loop-steps
decreases-loop-steps l = length l.lines.items
