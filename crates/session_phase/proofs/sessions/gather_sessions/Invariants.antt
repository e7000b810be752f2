use Rattle.std.proofs.Common.{◌≡◌, ◌+◌, ◌++◌, length}
use Rattle.std.specs.List.{All}
use Rattle.edge_table.specs.Opening.{IsPassOf, algebra_of}
use Rattle.session_phase.specs.Phase.{steps_of, asked_of, facts_stated, asked_of_sessions, AreShownAbove, HasRun}
use Rattle.session_phase.proofs.sessions.gather_sessions.Given as goal

abbrev pub invariant-loop-session : goal.invariant-loop-session
invariant-loop-session l = record {
  pass : IsPassOf l.table l.all;
  weight : l.all.actor.weight + length l.sessions.items ≡ l.fn.home.actor.weight + length l.fn.sessions.items;
  left : All (HasRun (algebra_of l.table.opening) l.table) l.sessions.items;
  facts : l.all.actor.mine ≡ facts_stated (steps_of l.lines.items);
  asked : asked_of (steps_of l.lines.items) ++ asked_of_sessions l.sessions.items ≡ asked_of_sessions l.fn.sessions.items;
  shown : All (AreShownAbove (algebra_of l.table.opening) l.table.opening.nodes l.table.opening.words l.all.actor.seen) (steps_of l.lines.items);
}

abbrev pub decreases-loop-session : goal.decreases-loop-session
decreases-loop-session l = length l.sessions.items
