-- An actor: one of those who narrow the words, with what it has stated and what it has seen of them.
use Rattle.std.specs.Prelude.{◌≡◌, ℕ, ◌+◌, ◌-◌, Bool, true, false, IsTrue, if◌then◌else◌, List, [], ◌∷◌, ◌++◌, map, slice_get, slice_index, slice_set, bit_and, Some}
use Rattle.std.specs.List.{zip}
use Rattle.network_words.specs.declared.fact.Fact.{Fact}

-- live or spent, a weight, the facts that it has stated, and the set that it has seen of each edge
pub record ActorState : Type 0 where
  pub is_live : Bool
  pub weight : ℕ
  pub mine : List Fact
  pub seen : List ℕ

-- a live actor that has stated nothing
abbrev pub fresh : ℕ → List ℕ → ActorState
fresh weight seen = record { is_live = true; weight = weight; mine = []; seen = seen }

-- the actor after it has seen the set x on the edge e
abbrev pub seeing : ℕ → ℕ → ActorState → ActorState
seeing e x a = record a { seen = slice_set a.seen e (bit_and (slice_index a.seen e) x) }

-- the actor after it has stated one more fact
abbrev pub stating : Fact → ActorState → ActorState
stating fact a = record a { mine = a.mine ++ fact ∷ [] }

-- the actor after it has given away some of its weight
abbrev pub giving : ℕ → ActorState → ActorState
giving left a = record a { weight = a.weight - left }

-- what both lists have at each place
abbrev pub met_words : List ℕ → List ℕ → List ℕ
met_words xs ys = map (λ p. bit_and p.0 p.1) (zip xs ys)

-- the first actor after it has taken over what the second one has
abbrev pub joining : ActorState → ActorState → ActorState
joining a b = record a { weight = a.weight + b.weight; mine = a.mine ++ b.mine; seen = met_words a.seen b.seen }

-- the actor after another one has taken over what it had
abbrev pub spent : ActorState → ActorState
spent a = record a { is_live = false }

-- the weight of a live actor; a spent one counts for nothing
abbrev pub live_weight : ActorState → ℕ
live_weight a = if a.is_live then a.weight else 0

-- the actor a stands at the place k, and is live
pub record IsLiveAt (actors : List ActorState) (k : ℕ) (a : ActorState) : Type 0 where
  pub is_there : slice_get actors k ≡ Some a
  pub is_live : IsTrue a.is_live

-- a property of every live actor
abbrev pub EachLive : List ActorState → (ActorState → Type 0) → Type 0
EachLive actors P = (k : ℕ) (a : ActorState) → IsLiveAt actors k a → P a
