-- What holds of the machine after every list of events from its opening, and wherever the bound holds.
use Rattle.std.specs.Prelude.{◌≡◌, ℕ, ◌<◌, List}
use Rattle.calculus_table.specs.Algebra.{Algebra}
use Rattle.calculus_table.specs.Composition.{full_of}
use Rattle.calculus_table.specs.Calculus.{IsCalculus}
use Rattle.network_words.specs.Network.{Network, IsNetwork}
use Rattle.narrow_core.specs.declared.event.Event.{Event}
use Rattle.narrow_core.specs.Actor.{ActorState, IsLiveAt}
use Rattle.narrow_core.specs.Machine.{CoreState, opened}
use Rattle.narrow_core.specs.Event.{IsAllowed, IsStep}
use Rattle.narrow_core.specs.Run.{IsRun}
use Rattle.narrow_core.specs.Bound.{Bound, Holds, IsAlone}

-- events of a calculus, however they interleave, lead from the opening of the machine over a network to the state s
pub record IsSchedule (m : Algebra) (net : Network) (weight : ℕ) (events : List Event) (s : CoreState) : Type 0 where
  pub calculus : IsCalculus m
  pub full : net.full ≡ full_of m
  pub network : IsNetwork m net.nodes net.words
  pub some : 0 < weight
  pub run : IsRun m events (opened net weight) s

-- the bound holds after every schedule
abbrev pub EveryScheduleKeepsTheBound : Type 0
EveryScheduleKeepsTheBound =
    (m : Algebra) (net : Network) (weight : ℕ) (events : List Event) (s : CoreState) → IsSchedule m net weight events s → Bound m s

-- after every schedule a live actor with the whole weight is alone
abbrev pub TheWholeWeightIsAlone : Type 0
TheWholeWeightIsAlone =
    (m : Algebra) (net : Network) (weight : ℕ) (events : List Event) (s : CoreState) (k : ℕ) (a : ActorState) →
    IsSchedule m net weight events s → IsLiveAt s.actors k a → a.weight ≡ weight → IsAlone m s k a

-- where the bound holds, a live actor with the whole weight is alone
abbrev pub TheBoundMakesAlone : Type 0
TheBoundMakesAlone =
    (m : Algebra) (s : CoreState) (k : ℕ) (a : ActorState) →
    Holds m s → IsLiveAt s.actors k a → a.weight ≡ s.opening_weight → IsAlone m s k a

-- every allowed event keeps the bound
abbrev pub EveryStepKeepsTheBound : Type 0
EveryStepKeepsTheBound =
    (m : Algebra) (event : Event) (s t : CoreState) → Holds m s → IsAllowed s event → IsStep m event s t → Holds m t
