-- Networks in which the set of an edge is met with one base relation, and their scenarios.
use Rattle.std.proofs.Common.{◌≡◌, ◌≢◌, ℕ, ◌^◌, ◌<◌, List, length, sym, subst, inl, inr}
use Rattle.std.specs.Prelude.{slice_index, bit_and}
use Rattle.std.proofs.lemmas.Bool.{cases_eq}
use Rattle.std.proofs.lemmas.List.{get_or-set_same, get_or-set_other}
use Rattle.calculus_table.specs.Rel.{Has}
use Rattle.calculus_table.specs.Algebra.{Algebra}
use Rattle.calculus_table.proofs.Sets.{Has-meet, Has-single, IsWithin-meet_l}
use Rattle.network_words.specs.Edge.{edge_count}
use Rattle.network_words.specs.Network.{IsNetwork, Refines}
use Rattle.network_words.specs.Scenario.{IsScenario}
use Rattle.split_trees.specs.Refutes.{met_at}
use Rattle.split_search.proofs.Networks.{set-refines, set-network}

-- the network
abbrev pub set_to : List ℕ → ℕ → ℕ → List ℕ
set_to words e base = met_at words e (2 ^ base)

-- the set of the edge, met with the base relation
abbrev pub meet_at : List ℕ → ℕ → ℕ → ℕ
meet_at words e base = bit_and (slice_index words e) (2 ^ base)

pub set_to-here : (words : List ℕ) (e base : ℕ) → e < length words →
    slice_index (set_to words e base) e ≡ meet_at words e base
set_to-here words e base below = get_or-set_same words e (meet_at words e base) 0 below

pub set_to-other : (words : List ℕ) (e base d : ℕ) → d ≢ e → slice_index (set_to words e base) d ≡ slice_index words d
set_to-other words e base d other = get_or-set_other words e d (meet_at words e base) 0 other

pub set_to-refines : (words : List ℕ) (e base : ℕ) → e < length words → Refines (set_to words e base) words
set_to-refines words e base below =
    set-refines words e (meet_at words e base) below (IsWithin-meet_l (slice_index words e) (2 ^ base))

pub network-edge : (m : Algebra) (n : ℕ) (words : List ℕ) (e : ℕ) → IsNetwork m n words → e < edge_count n →
    e < length words
network-edge m n words e net below = subst (λ k. e < k) (sym net.length_is) below

pub set_to-network : (m : Algebra) (n : ℕ) (words : List ℕ) (e base : ℕ) → IsNetwork m n words → e < edge_count n →
    IsNetwork m n (set_to words e base)
set_to-network m n words e base net below =
    set-network m n words e (meet_at words e base) net (network-edge m n words e net below)
    (IsWithin-meet_l (slice_index words e) (2 ^ base))

pub scenario-refines : (m : Algebra) (n : ℕ) (smaller words relations : List ℕ) → Refines smaller words →
    IsScenario m n smaller relations → IsScenario m n words relations
scenario-refines m n smaller words relations within s = record {
  length_is = s.length_is;
  below = s.below;
  member = λ e h. (within.each e).each (slice_index relations e) (s.member e h);
  composes = s.composes;
}

-- a scenario that has the base relation at the edge
pub scenario-set_to : (m : Algebra) (n : ℕ) (words : List ℕ) (e base : ℕ) (relations : List ℕ) → IsNetwork m n words →
    e < edge_count n → IsScenario m n words relations → slice_index relations e ≡ base →
    IsScenario m n (set_to words e base) relations
scenario-set_to m n words e base relations net below s here =
    let own : e < length words = network-edge m n words e net below in
    let r = slice_index relations e in
    record {
      length_is = s.length_is;
      below = s.below;
      member = λ d l. elim (cases_eq d e) [
        | inl same ↦ subst (λ k. Has (slice_index (set_to words e base) k) (slice_index relations k)) (sym same)
            (subst (λ x. Has x r) (sym (set_to-here words e base own))
            (Has-meet (slice_index words e) (2 ^ base) r (s.member e below)
            (subst (Has (2 ^ base)) (sym here) (Has-single base))))
        | inr other ↦ subst (λ x. Has x (slice_index relations d)) (sym (set_to-other words e base d other))
            (s.member d l)
      ];
      composes = s.composes;
    }
