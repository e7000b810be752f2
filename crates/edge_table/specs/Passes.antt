-- What the calls on a table do to a pass: each is an event of the machine, or a few, as far as a pass can see it.
use Rattle.std.specs.Prelude.{◌≡◌, ℕ, ◌+◌, ◌-◌, ◌≤◌, List, length, bit_and, Option, Some, None}
use Rattle.std.specs.List.{All}
use Rattle.calculus_table.specs.Algebra.{Algebra}
use Rattle.calculus_table.specs.Composition.{composition}
use Rattle.network_words.specs.declared.fact.Fact.{Fact}
use Rattle.network_words.specs.Edge.{edge_count, edge_between}
use Rattle.network_words.specs.Network.{IsNetwork, Refines, relation_between, oriented}
use Rattle.network_words.specs.Closure.{IsClosed}
use Rattle.narrow_core.specs.Actor.{ActorState, seeing, stating}
use Rattle.narrow_core.specs.Bound.{IsWithinFact}
use Rattle.edge_table.specs.Opening.{PassState, algebra_of}
use Rattle.edge_table.specs.declared.rule.Opening.{Opening}

-- what the pass has seen from node i to node j
abbrev pub seen_between : Algebra → PassState → ℕ → ℕ → ℕ
seen_between m pass i j = relation_between m pass.nodes pass.actor.seen i j

-- the pass has read the edge by one load, whatever word it found there
pub record Reads (e : ℕ) (old new : PassState) : Type 0 where
  pub word : ℕ
  pub after : new ≡ record old { actor = seeing e word old.actor; loads = old.loads + 1 }

-- the pass has stated the fact, has narrowed the edge's word to the fact's set by one `fetch_and`, whatever word it found, and has
-- seen the result
pub record Asserts (m : Algebra) (fact : Fact) (old new : PassState) : Type 0 where
  pub word : ℕ
  pub after : new ≡ record old {
    actor = seeing (edge_between old.nodes fact.i fact.j) (bit_and word (oriented m fact.i fact.j fact.rel)) (stating fact old.actor);
    fetch_ands = old.fetch_ands + 1;
  }

-- the pass has narrowed the edge's word to the composition of what it had seen along j by one `fetch_and`, whatever word it found,
-- and has seen the result
pub record Narrows (m : Algebra) (i j k : ℕ) (old new : PassState) : Type 0 where
  pub word : ℕ
  pub after : new ≡ record old {
    actor = seeing (edge_between old.nodes i k) (bit_and word (oriented m i k (composition m (seen_between m old i j) (seen_between m old j k)))) old.actor;
    fetch_ands = old.fetch_ands + 1;
  }

-- the pass has read the edges (i, j) and (j, k), and has then narrowed (i, k)
pub record ReadsAndNarrows (m : Algebra) (i j k : ℕ) (old new : PassState) : Type 0 where
  pub first : PassState
  pub second : PassState
  pub reads : Reads (edge_between old.nodes i j) old first
  pub reads_next : Reads (edge_between first.nodes j k) first second
  pub narrows : Narrows m i j k second new

-- the pass has made so many loads and nothing else, so that it has seen less of some edges
pub record ReadsSome (count : ℕ) (old new : PassState) : Type 0 where
  pub rest : new ≡ record old { actor = record old.actor { seen = new.actor.seen }; loads = old.loads + count }
  pub length_is : length new.actor.seen ≡ length old.actor.seen
  pub within : Refines new.actor.seen old.actor.seen

-- the pass has made one load for each edge and nothing else
abbrev pub ReadsAll : PassState → PassState → Type 0
ReadsAll old new = ReadsSome (edge_count old.nodes) old new

-- the number of edges from the number `from` up to and with the one that was found, or up to but without `to`, if none was
abbrev pub edges_until : ℕ → ℕ → Option (ℕ × ℕ) → ℕ
edges_until from to (Some found) = found.0 + 1 - from
edges_until from to None = to - from

-- the pass has stated nothing more, has given away and taken over nothing, has seen no more of any edge, and has only counted on:
-- what any number of reads and narrowings do
pub record GoesOn (old new : PassState) : Type 0 where
  pub id : new.id ≡ old.id
  pub nodes : new.nodes ≡ old.nodes
  pub full : new.full ≡ old.full
  pub live : new.actor.is_live ≡ old.actor.is_live
  pub weight : new.actor.weight ≡ old.actor.weight
  pub facts : new.actor.mine ≡ old.actor.mine
  pub length_is : length new.actor.seen ≡ length old.actor.seen
  pub within : Refines new.actor.seen old.actor.seen
  pub loads : old.loads ≤ new.loads
  pub fetch_ands : old.fetch_ands ≤ new.fetch_ands

-- the words that a table is closed with, by its last pass: they are within the opening, within what the pass has seen and within
-- all that was stated, and lose no closed network within the opening and what was stated; and what the pass has seen is itself
-- within the opening and all that was stated
pub record AreClosedWords (o : Opening) (a : ActorState) (words : List ℕ) : Type 0 where
  pub network : IsNetwork (algebra_of o) o.nodes words
  pub opening : Refines words o.words
  pub seen : Refines words a.seen
  pub facts : All (IsWithinFact (algebra_of o) o.nodes words) a.mine
  pub seen_opening : Refines a.seen o.words
  pub seen_facts : All (IsWithinFact (algebra_of o) o.nodes a.seen) a.mine
  pub kept : (xs : List ℕ) → IsNetwork (algebra_of o) o.nodes xs → IsClosed (algebra_of o) o.nodes xs → Refines xs o.words →
      All (IsWithinFact (algebra_of o) o.nodes xs) a.mine → Refines xs words
