use Rattle.std.proofs.Common.{refl}
use Rattle.network_words.proofs.Edges.{edge_of, edge_at-order, edge_at-first, edge_at-second}
use Rattle.network_words.proofs.Networks.{IsClosure-unique, IsClosure-between}
use Rattle.network_words.proofs.Refinements.{IsClosed-range, IsClosure-kept}
use Rattle.network_words.proofs.Existence.{closure_of}
use Rattle.network_words.proofs.Meets.{met-from_closure, met-of_closure}
use Rattle.network_words.proofs.NetsOfFacts.{appended_facts_narrow}
use Rattle.network_words.proofs.Scenarios.{IsClosed-as_network, IsScenario-closed, IsScenario-closure, closed-empty}
use Rattle.network_words.proofs.laws.laws_of_networks.Goals as goal

pub returns : goal.returns
returns c = record {
  limit = refl;
  edges_are_in_order = edge_at-order;
  each_number_has_an_edge = edge_of;
  no_number_has_two_edges = λ n i j k l o b p q e. (edge_at-first n i j k l o b p q e, edge_at-second n i j k l o b p q e);
  every_edge_closed_is_closed = IsClosed-range;
  empty_empties_all = closed-empty;
  closure_exists = closure_of;
  closure_is_unique = IsClosure-unique;
  keeping_closed_gives_closure = IsClosure-kept;
  between_has_same_closure = IsClosure-between;
  closure_meets_facts = λ m n words closure facts met c. (met-from_closure m n words closure facts met c, met-of_closure m n words closure facts met c);
  appended_facts_narrow = appended_facts_narrow;
  scenario_is_closed = IsClosed-as_network;
  closed_singles_are_scenario = IsScenario-closed;
  scenario_is_of_closure = IsScenario-closure;
}
