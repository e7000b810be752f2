-- The machine: words that several actors narrow.
use Rattle.std.specs.Prelude.{◌≡◌, ℕ, ◌<◌, List, [], ◌∷◌, length, slice_index}
use Rattle.std.specs.List.{All, sum_by}
use Rattle.calculus_table.specs.Rel.{IsWithin}
use Rattle.network_words.specs.declared.fact.Fact.{Fact}
use Rattle.network_words.specs.Edge.{edge_count, IsProperPair}
use Rattle.network_words.specs.Network.{Network}
use Rattle.narrow_core.specs.Actor.{ActorState, EachLive, fresh, live_weight}

-- the nodes and the set of all base relations, the words and the weight that the machine was opened with, the words as they
-- stand, and the actors by their numbers
pub record CoreState : Type 0 where
  pub nodes : ℕ
  pub full : ℕ
  pub opening : List ℕ
  pub opening_weight : ℕ
  pub words : List ℕ
  pub actors : List ActorState

-- the machine over a network at its opening: one live actor, with the whole weight, which has seen the network
abbrev pub opened : Network → ℕ → CoreState
opened net weight = record {
  nodes = net.nodes;
  full = net.full;
  opening = net.words;
  opening_weight = weight;
  words = net.words;
  actors = fresh weight net.words ∷ [];
}

-- a set within full for each edge
pub record AreSets (n full : ℕ) (words : List ℕ) : Type 0 where
  pub length_is : length words ≡ edge_count n
  pub within : (e : ℕ) → IsWithin (slice_index words e) full

-- a fact of two nodes that differ, with a set within full
pub record IsProperFact (n full : ℕ) (fact : Fact) : Type 0 where
  pub pair : IsProperPair n fact.i fact.j
  pub within : IsWithin fact.rel full

-- an actor that has seen a set for each edge and has stated proper facts
pub record IsProperActor (n full : ℕ) (a : ActorState) : Type 0 where
  pub seen : AreSets n full a.seen
  pub facts : All (IsProperFact n full) a.mine

-- each live actor has some weight, and together they have the weight of the opening
pub record AreWeighed (opening_weight : ℕ) (actors : List ActorState) : Type 0 where
  pub some : EachLive actors (λ a. 0 < a.weight)
  pub sum : sum_by live_weight actors ≡ opening_weight

-- what every machine of the code keeps
pub record IsCore (s : CoreState) : Type 0 where
  pub opening : AreSets s.nodes s.full s.opening
  pub words : AreSets s.nodes s.full s.words
  pub actors : EachLive s.actors (IsProperActor s.nodes s.full)
  pub weights : AreWeighed s.opening_weight s.actors

-- what no event changes: the nodes, the set of all base relations, and what the machine was opened with
pub record SameOpening (old new : CoreState) : Type 0 where
  pub nodes : new.nodes ≡ old.nodes
  pub full : new.full ≡ old.full
  pub opening : new.opening ≡ old.opening
  pub opening_weight : new.opening_weight ≡ old.opening_weight
