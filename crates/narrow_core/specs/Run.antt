-- Runs of the machine: events one after another, each allowed where it happens.
use Rattle.std.specs.Prelude.{◌≡◌, ℕ, ◌≤◌, ⊤, List, [], ◌∷◌, length, take, slice_get, Some}
use Rattle.calculus_table.specs.Algebra.{Algebra}
use Rattle.narrow_core.specs.declared.event.Event.{Event}
use Rattle.narrow_core.specs.declared.event.Event.TheVariants.{Assert, Read, Narrow, Split, Join}
use Rattle.narrow_core.specs.Machine.{CoreState}
use Rattle.narrow_core.specs.Event.{IsAllowed, IsStep}

-- the events lead, each allowed, from the state old to the state new
abbrev pub IsRun : Algebra → List Event → CoreState → CoreState → Type 0
IsRun m [] old new = new ≡ old
IsRun m (e ∷ es) old new = (mid : CoreState) × IsAllowed old e × IsStep m e old mid × IsRun m es mid new

-- after the first steps of the events the state is s: all were made, or the next one isn't allowed there
pub record StopsAt (events : List Event) (steps : ℕ) (s : CoreState) : Type 0 where
  pub bounded : steps ≤ length events
  pub stops : (e : Event) → slice_get events steps ≡ Some e → ¬ IsAllowed s e

-- the events that take memory: a fact is kept, a split makes an actor, and a join makes longer lists
abbrev pub TakesMemory : Event → Type 0
TakesMemory (Assert k fact) = ⊤
TakesMemory (Read k e) = ⊥
TakesMemory (Narrow k h i j) = ⊥
TakesMemory (Split k left) = ⊤
TakesMemory (Join k l) = ⊤

-- the first of the events lead from old to new, where the next one is allowed and takes memory
pub record WantsMemory (m : Algebra) (events : List Event) (old new : CoreState) : Type 0 where
  pub steps : ℕ
  pub run : IsRun m (take steps events) old new
  pub event : Event
  pub is_next : slice_get events steps ≡ Some event
  pub allowed : IsAllowed new event
  pub takes : TakesMemory event
