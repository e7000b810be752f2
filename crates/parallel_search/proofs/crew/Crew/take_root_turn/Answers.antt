use Rattle.parallel_search.proofs.crew.Crew.take_root_turn.Goals as goal

pub returns-clause-crew : goal.returns-clause-crew
returns-clause-crew g c = record {
  root = c.in_ok-walk.ensures.walk;
  inner = c.in_ok-push_some.ensures;
  ahead = c.in_ok-walk.ensures.ahead;
}
