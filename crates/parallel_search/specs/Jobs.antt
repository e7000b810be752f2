-- What is searched beside a search, and what is known of it.
use Rattle.std.specs.Prelude.{◌≡◌, ℕ, List, All, IfSome, ⊤}
use Rattle.calculus_table.specs.Algebra.{Algebra}
use Rattle.calculus_table.specs.Calculus.{EachBase}
use Rattle.network_words.specs.Network.{Network, IsNetwork}
use Rattle.tract_classes.specs.Class.{HasBase}
use Rattle.split_search.specs.declared.walking.Walk.{Walk}
use Rattle.split_search.specs.declared.answered.Answered.{Answered}
use Rattle.split_search.specs.Ruled.{IsVerdict}
use Rattle.split_search.specs.Searches.{Task, task_of}
use Rattle.split_search.specs.Walks.{IsWalk}
use Rattle.parallel_search.specs.declared.job.Job.{Job}
use Rattle.parallel_search.specs.declared.job.Stage.{Stage}
use Rattle.parallel_search.specs.declared.job.Stage.TheVariants.{New, Begun, Lost}
use Rattle.parallel_search.specs.declared.ahead.Ahead.{Ahead}
use Rattle.parallel_search.specs.declared.ahead.Known.{Known}
use Rattle.parallel_search.specs.declared.crew.Turn.{Turn}
use Rattle.parallel_search.specs.declared.crew.Crew.{Crew}

-- a network of so many nodes over this calculus
pub record IsChildNet (m : Algebra) (n : ℕ) (net : Network) : Type 0 where
  pub network : IsNetwork m net.nodes net.words
  pub nodes_are : net.nodes ≡ n

-- a verdict on a network of so many nodes, by this class and with some budget
pub record IsAnsweredBy (m : Algebra) (n : ℕ) (class : List ℕ) (a : Answered) : Type 0 where
  pub nodes_are : a.net.nodes ≡ n
  pub budget : ℕ
  pub ruled : IsVerdict m n class budget a.net.words a.verdict

-- a search of just this task
pub record IsSearchOf (t : Task) (w : Walk) : Type 0 where
  pub walk : IsWalk w
  pub task_is : task_of w.search ≡ t

-- a search of such a network, by this class
pub record IsWalkBy (m : Algebra) (n : ℕ) (class : List ℕ) (w : Walk) : Type 0 where
  pub walk : IsWalk w
  pub algebra_is : (task_of w.search).algebra ≡ m
  pub nodes_are : (task_of w.search).nodes ≡ n
  pub class_is : (task_of w.search).class ≡ class

-- such a search, or a network with which one may begin
abbrev pub IsStage : Algebra → ℕ → List ℕ → Stage → Type 0
IsStage m n class (New net by) = IsChildNet m n net × (by.now ≡ class) × EachBase m (HasBase by.now)
IsStage m n class (Begun walk) = IsWalkBy m n class walk
IsStage m n class Lost = ⊤

abbrev pub IsJob : Algebra → ℕ → List ℕ → Job → Type 0
IsJob m n class job = IsStage m n class job.stage

-- what is ahead of a search
pub record IsAhead (m : Algebra) (n : ℕ) (class : List ℕ) (a : Ahead) : Type 0 where
  pub jobs : All (IsJob m n class) a.jobs.items
  pub done : All (IsAnsweredBy m n class) a.done.items

-- a verdict that may be taken over, or a search that may be gone on with
abbrev pub IsKnown : Algebra → ℕ → List ℕ → Known → Type 0
IsKnown m n class (Known.Answered a) = IsAnsweredBy m n class a
IsKnown m n class (Known.Begun walk) = IsWalkBy m n class walk
IsKnown m n class Known.Nothing = ⊤

-- after a round the search is still that of the task
pub record IsTurn (m : Algebra) (n : ℕ) (class : List ℕ) (t : Task) (a : Turn) : Type 0 where
  pub walk : IsWalkBy m n class a.walk
  pub task_is : task_of a.walk.search ≡ t
  pub ahead : IsAhead m n class a.ahead
  pub child : IfSome a.child (IsWalkBy m n class)

-- the searches of one call
pub record IsCrew (m : Algebra) (n : ℕ) (class : List ℕ) (a : Crew) : Type 0 where
  pub root : IsWalkBy m n class a.root
  pub inner : All (IsWalkBy m n class) a.inner.items
  pub ahead : IsAhead m n class a.ahead
