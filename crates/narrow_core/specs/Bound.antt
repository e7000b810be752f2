-- The bound: however the actors' steps interleave, the words contain the closure of what was stated and are within it.
use Rattle.std.specs.Prelude.{◌≡◌, ℕ, List}
use Rattle.std.specs.List.{All}
use Rattle.calculus_table.specs.Rel.{IsWithin}
use Rattle.calculus_table.specs.Algebra.{Algebra}
use Rattle.calculus_table.specs.Composition.{full_of}
use Rattle.calculus_table.specs.Calculus.{IsCalculus}
use Rattle.network_words.specs.declared.fact.Fact.{Fact}
use Rattle.network_words.specs.Network.{IsNetwork, Refines, relation_between}
use Rattle.network_words.specs.Facts.{narrowed_by}
use Rattle.network_words.specs.Closure.{IsClosed, IsClosure}
use Rattle.narrow_core.specs.Actor.{ActorState, IsLiveAt, EachLive}
use Rattle.narrow_core.specs.Machine.{CoreState, AreWeighed, IsCore}

-- the set of the fact's pair is within the fact's set
abbrev pub IsWithinFact : Algebra → ℕ → List ℕ → Fact → Type 0
IsWithinFact m n words fact = IsWithin (relation_between m n words fact.i fact.j) fact.rel

-- ---- of one actor

-- the words are within what the actor has seen and within its facts
pub record IsWithinActor (m : Algebra) (n : ℕ) (words : List ℕ) (a : ActorState) : Type 0 where
  pub seen : Refines words a.seen
  pub facts : All (IsWithinFact m n words) a.mine

-- what the actor has seen is within the opening words and within its facts
pub record HasSeenWithin (m : Algebra) (n : ℕ) (start : List ℕ) (a : ActorState) : Type 0 where
  pub opening : Refines a.seen start
  pub facts : All (IsWithinFact m n a.seen) a.mine

-- ---- of the machine

-- a closed network within the opening words and within every fact of every live actor
pub record IsCandidate (m : Algebra) (s : CoreState) (xs : List ℕ) : Type 0 where
  pub network : IsNetwork m s.nodes xs
  pub closed : IsClosed m s.nodes xs
  pub opening : Refines xs s.opening
  pub facts : EachLive s.actors (λ a. All (IsWithinFact m s.nodes xs) a.mine)

-- the words are within the opening words, within what every live actor has seen and within its facts
pub record AreWordsWithin (m : Algebra) (s : CoreState) : Type 0 where
  pub opening : Refines s.words s.opening
  pub actors : EachLive s.actors (IsWithinActor m s.nodes s.words)

-- no closed network is lost that is within the opening words and every fact of every live actor, the words are within all
-- that live actors have seen and stated, what each has seen is within the opening words and its own facts, and the weights of
-- the live actors are those of the opening
pub record Bound (m : Algebra) (s : CoreState) : Type 0 where
  pub nothing_lost : (xs : List ℕ) → IsCandidate m s xs → Refines xs s.words
  pub words_within : AreWordsWithin m s
  pub seen_within : EachLive s.actors (HasSeenWithin m s.nodes s.opening)
  pub weights : AreWeighed s.opening_weight s.actors

-- a machine of the calculus of which the bound holds: what every step keeps, and what a rule over shared words asks
pub record Holds (m : Algebra) (s : CoreState) : Type 0 where
  pub calculus : IsCalculus m
  pub full : s.full ≡ full_of m
  pub core : IsCore s
  pub bound : Bound m s

-- ---- an actor alone

-- the actor at k is the only live one, and the words lie between the closure of the opening words met with its facts and
-- those words met with its facts; so they have that closure
pub record IsAlone (m : Algebra) (s : CoreState) (k : ℕ) (a : ActorState) : Type 0 where
  pub only : (l : ℕ) (b : ActorState) → IsLiveAt s.actors l b → l ≡ k
  pub upper : Refines s.words (narrowed_by m s.nodes s.opening a.mine)
  pub lower : (closure : List ℕ) → IsClosure m s.nodes (narrowed_by m s.nodes s.opening a.mine) closure → Refines closure s.words
  pub same_closure :
      (closure : List ℕ) → IsClosure m s.nodes (narrowed_by m s.nodes s.opening a.mine) closure → IsClosure m s.nodes s.words closure
