-- Networks in which the set of an edge is met with one base relation, and scenarios that have it there.
use Rattle.std.proofs.Common.{ℕ, ◌^◌, ◌<◌, List, length, sym, subst, inl, inr}
use Rattle.std.specs.Prelude.{slice_index}
use Rattle.std.proofs.lemmas.Bool.{cases_eq}
use Rattle.calculus_table.specs.Rel.{Has, IsWithin}
use Rattle.calculus_table.specs.Algebra.{Algebra}
use Rattle.calculus_table.proofs.Sets.{Has-meet_r, IsWithin-meet}
use Rattle.calculus_table.proofs.Members.{single-member}
use Rattle.network_words.specs.Edge.{edge_count}
use Rattle.network_words.specs.Network.{IsNetwork, Refines}
use Rattle.network_words.specs.Scenario.{IsScenario}
use Rattle.split_search.proofs.SetEdges.{set_to-here, set_to-other, set_to-refines, network-edge, scenario-refines}
use Rattle.split_search.proofs.SetEdges.{scenario-set_to}
use Rattle.minimal_net.specs.Labels.{set_to, HasAt}

-- a network within, whose set of the edge is within the base relation, is within it still
pub set_to-keeps : (words others : List ℕ) (e base : ℕ) → e < length words → Refines others words →
    IsWithin (slice_index others e) (2 ^ base) → Refines others (set_to words e base)
set_to-keeps words others e base below within here = record {
  each = λ d. elim (cases_eq d e) [
    | inl same ↦ subst (λ k. IsWithin (slice_index others k) (slice_index (set_to words e base) k)) (sym same)
        (subst (IsWithin (slice_index others e)) (sym (set_to-here words e base below))
        (IsWithin-meet (slice_index others e) (slice_index words e) (2 ^ base) (within.each e) here))
    | inr other ↦
        subst (IsWithin (slice_index others d)) (sym (set_to-other words e base d other)) (within.each d)
  ];
}

-- ---- scenarios that have a base relation at an edge

pub HasAt-from_set : (m : Algebra) (n : ℕ) (words : List ℕ) (e base : ℕ) (relations : List ℕ) → IsNetwork m n words →
    e < edge_count n → IsScenario m n (set_to words e base) relations → HasAt m n words e base relations
HasAt-from_set m n words e base relations net below s =
    let own : e < length words = network-edge m n words e net below in
    let r = slice_index relations e in
    record {
      scenario = scenario-refines m n (set_to words e base) words relations (set_to-refines words e base own) s;
      here = single-member base r (Has-meet_r (slice_index words e) (2 ^ base) r
          (subst (λ x. Has x r) (set_to-here words e base own) (s.member e below)));
    }

pub IsScenario-set_to : (m : Algebra) (n : ℕ) (words : List ℕ) (e base : ℕ) (relations : List ℕ) → IsNetwork m n words →
    e < edge_count n → HasAt m n words e base relations → IsScenario m n (set_to words e base) relations
IsScenario-set_to m n words e base relations net below h =
    scenario-set_to m n words e base relations net below h.scenario h.here
