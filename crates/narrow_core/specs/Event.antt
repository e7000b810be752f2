-- The events of the machine: when each is allowed, and what it changes. What an event does not name stays as it was.
use Rattle.std.specs.Prelude.{◌≡◌, ◌≢◌, ℕ, ◌<◌, List, [], ◌∷◌, ◌++◌, slice_get, slice_index, slice_set, Some}
use Rattle.calculus_table.specs.Algebra.{Algebra}
use Rattle.calculus_table.specs.Composition.{composition}
use Rattle.network_words.specs.declared.fact.Fact.{Fact}
use Rattle.network_words.specs.Edge.{edge_count, edge_between, IsProperTriple}
use Rattle.network_words.specs.Network.{relation_between, narrowed_at}
use Rattle.narrow_core.specs.declared.event.Event.{Event}
use Rattle.narrow_core.specs.declared.event.Event.TheVariants.{Assert, Read, Narrow, Split, Join}
use Rattle.narrow_core.specs.Actor.{ActorState, IsLiveAt, fresh, seeing, stating, giving, joining, spent}
use Rattle.narrow_core.specs.Machine.{CoreState, IsProperFact}

-- ---- what each event changes

-- the fact's edge is narrowed to the fact's set as the edge stores it; the actor has the fact and sees the edge
pub record Asserts (m : Algebra) (k : ℕ) (fact : Fact) (old new : CoreState) : Type 0 where
  pub actor : ActorState
  pub is_there : slice_get old.actors k ≡ Some actor
  pub words : List ℕ
  pub words_is : words ≡ narrowed_at m old.nodes old.words fact.i fact.j fact.rel
  pub after :
      let e = edge_between old.nodes fact.i fact.j in
      new ≡ record old { words = words; actors = slice_set old.actors k (seeing e (slice_index words e) (stating fact actor)) }

-- the actor sees the edge
pub record Reads (k e : ℕ) (old new : CoreState) : Type 0 where
  pub actor : ActorState
  pub is_there : slice_get old.actors k ≡ Some actor
  pub after : new ≡ record old { actors = slice_set old.actors k (seeing e (slice_index old.words e) actor) }

-- the edge from h to j is met with the composition of what the actor has seen from h to i and from i to j; the actor sees it
pub record Narrows (m : Algebra) (k h i j : ℕ) (old new : CoreState) : Type 0 where
  pub actor : ActorState
  pub is_there : slice_get old.actors k ≡ Some actor
  pub words : List ℕ
  pub words_is :
      words ≡ narrowed_at m old.nodes old.words h j (composition m (relation_between m old.nodes actor.seen h i) (relation_between m old.nodes actor.seen i j))
  pub after :
      let e = edge_between old.nodes h j in
      new ≡ record old { words = words; actors = slice_set old.actors k (seeing e (slice_index words e) actor) }

-- a new actor, with the next number, has the weight left and has seen the same; the old one keeps the rest of the weight
pub record Splits (k left : ℕ) (old new : CoreState) : Type 0 where
  pub actor : ActorState
  pub is_there : slice_get old.actors k ≡ Some actor
  pub after : new ≡ record old { actors = slice_set old.actors k (giving left actor) ++ fresh left actor.seen ∷ [] }

-- the first actor has what both had, and the other is spent
pub record Joins (k l : ℕ) (old new : CoreState) : Type 0 where
  pub actor : ActorState
  pub is_there : slice_get old.actors k ≡ Some actor
  pub other : ActorState
  pub other_there : slice_get old.actors l ≡ Some other
  pub after : new ≡ record old { actors = slice_set (slice_set old.actors k (joining actor other)) l (spent other) }

-- the event leads from the state old to the state new
abbrev pub IsStep : Algebra → Event → CoreState → CoreState → Type 0
IsStep m (Assert k fact) = Asserts m k fact
IsStep m (Read k e) = Reads k e
IsStep m (Narrow k h i j) = Narrows m k h i j
IsStep m (Split k left) = Splits k left
IsStep m (Join k l) = Joins k l

-- ---- when each event is allowed

-- the machine has a live actor of this number
pub record HasLive (s : CoreState) (k : ℕ) : Type 0 where
  pub actor : ActorState
  pub live : IsLiveAt s.actors k actor

-- a live actor asserts a proper fact
pub record MayAssert (s : CoreState) (k : ℕ) (fact : Fact) : Type 0 where
  pub live : HasLive s k
  pub proper : IsProperFact s.nodes s.full fact

-- a live actor reads one of the edges
pub record MayRead (s : CoreState) (k e : ℕ) : Type 0 where
  pub live : HasLive s k
  pub below : e < edge_count s.nodes

-- a live actor narrows along three nodes that differ
pub record MayNarrow (s : CoreState) (k h i j : ℕ) : Type 0 where
  pub live : HasLive s k
  pub proper : IsProperTriple s.nodes h i j

-- the machine has a live actor of this number, with more than this weight
pub record HasMore (s : CoreState) (k weight : ℕ) : Type 0 where
  pub actor : ActorState
  pub live : IsLiveAt s.actors k actor
  pub more : weight < actor.weight

-- a live actor gives some of its weight, and not all
pub record MaySplit (s : CoreState) (k left : ℕ) : Type 0 where
  pub some : 0 < left
  pub live : HasMore s k left

-- two live actors that differ
pub record MayJoin (s : CoreState) (k l : ℕ) : Type 0 where
  pub differ : k ≢ l
  pub live : HasLive s k
  pub other_live : HasLive s l

abbrev pub IsAllowed : CoreState → Event → Type 0
IsAllowed s (Assert k fact) = MayAssert s k fact
IsAllowed s (Read k e) = MayRead s k e
IsAllowed s (Narrow k h i j) = MayNarrow s k h i j
IsAllowed s (Split k left) = MaySplit s k left
IsAllowed s (Join k l) = MayJoin s k l
