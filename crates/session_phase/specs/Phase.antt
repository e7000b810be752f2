-- What sessions state and see while they narrow the words of one table at once with workers, and the closure that comes of it.
use Rattle.std.specs.Prelude.{◌≡◌, ℕ, ◌<◌, ◌≤◌, List, [], ◌∷◌, ◌++◌, length, map, Vec}
use Rattle.std.specs.Global.{Global}
use Rattle.std.specs.List.{All}
use Rattle.calculus_table.specs.Algebra.{Algebra}
use Rattle.calculus_table.specs.Composition.{full_of}
use Rattle.network_words.specs.declared.fact.Fact.{Fact}
use Rattle.network_words.specs.Network.{Network, IsNetwork, Refines}
use Rattle.narrow_core.specs.Actor.{ActorState, fresh}
use Rattle.edge_table.specs.Opening.{OpenState, IsPassOf, algebra_of}
use Rattle.session_scripts.specs.declared.batch.What.{What}
use Rattle.session_scripts.specs.declared.batch.What.TheVariants.{Assert, Peek, Withdraw, Ask, Refused}
use Rattle.session_scripts.specs.Batches.{IsAsked}
use Rattle.session_phase.specs.declared.steps.Step.{Step}
use Rattle.session_phase.specs.declared.sessions.Session.{Session}
use Rattle.closure_seq.specs.Paths.{IsClosedNetwork}
use Rattle.closure_workers.specs.declared.worker.Worker.{Worker}
use Rattle.closure_workers.specs.Workers.{IsWorker}
use Rattle.closure_workers.specs.Rounds.{IsClosureWithin}
use Rattle.session_replies.specs.Replies.{IsShown, told_after, AreShown}

-- ---- steps of sessions

-- what the steps of a session ask for, with their places; and with the sets that they show
abbrev pub asked_by : List Step → List (ℕ × What)
asked_by steps = map (λ (s : Step). (s.place, s.what)) steps

abbrev pub shown_by : List Step → List (What × ℕ)
shown_by steps = map (λ (s : Step). (s.what, s.set)) steps

-- the step asks what n nodes and the sets within full have
abbrev pub IsStepFor : ℕ → ℕ → Step → Type 0
IsStepFor full n step = IsAsked full n step.what

-- the steps of each session
abbrev pub steps_of : List (Vec Step Global) → List (List Step)
steps_of sessions = map (λ (steps : Vec Step Global). steps.items) sessions

-- what those of each ask for
abbrev pub asked_of : List (List Step) → List (List (ℕ × What))
asked_of sessions = map asked_by sessions

-- the fact that is stated, if it is one
abbrev pub fact_of : What → List Fact
fact_of (Assert fact) = fact ∷ []
fact_of (Peek i j) = []
fact_of (Withdraw fact) = []
fact_of (Ask version i j) = []
fact_of (Refused number) = []

-- the facts that a session states, and those that all sessions state, one after another
abbrev pub facts_of_session : List (ℕ × What) → List Fact
facts_of_session [] = []
facts_of_session (p ∷ ps) = fact_of p.1 ++ facts_of_session ps

abbrev pub facts_asked : List (List (ℕ × What)) → List Fact
facts_asked [] = []
facts_asked (session ∷ sessions) = facts_of_session session ++ facts_asked sessions

abbrev pub facts_stated : List (List Step) → List Fact
facts_stated sessions = facts_asked (asked_of sessions)

-- ---- what a session is told

-- what a session was told after lines, each with the set that it shows
abbrev pub told_by : Algebra → ℕ → List ℕ → List (What × ℕ) → List ℕ
told_by m n told [] = told
told_by m n told (p ∷ ps) = told_by m n (told_after m n told p.0 p.1) ps

-- whatever is left of the words in the end, the steps of a session that has seen these words show sets that contain it
abbrev pub AreShownAbove : Algebra → ℕ → List ℕ → List ℕ → List Step → Type 0
AreShownAbove m n opening seen steps = (words : List ℕ) → Refines words seen → AreShown m n words opening (shown_by steps)

-- a step of an actor: what it asks for stays, and its set is within what the actor was told and contains what it then has seen
pub record IsTaken (m : Algebra) (n : ℕ) (step : Step) (old new : ActorState) (taken : Step) : Type 0 where
  pub place : taken.place ≡ step.place
  pub what : taken.what ≡ step.what
  pub weight : new.weight ≡ old.weight
  pub facts : new.mine ≡ old.mine ++ fact_of step.what
  pub length_is : length new.seen ≡ length old.seen
  pub within : Refines new.seen old.seen
  pub shown : (told : List ℕ) → Refines old.seen told → IsShown m n new.seen told taken.what taken.set
  pub told : (told : List ℕ) → Refines old.seen told → Refines new.seen (told_after m n told taken.what taken.set)

-- steps of an actor, one after another
pub record AreTaken (m : Algebra) (n : ℕ) (asked : List (ℕ × What)) (old new : ActorState) (taken : List Step) : Type 0 where
  pub asked_is : asked_by taken ≡ asked
  pub weight : new.weight ≡ old.weight
  pub facts : new.mine ≡ old.mine ++ facts_of_session asked
  pub length_is : length new.seen ≡ length old.seen
  pub within : Refines new.seen old.seen
  pub told : Refines new.seen (told_by m n old.seen (shown_by taken))
  pub shown : AreShownAbove m n old.seen new.seen taken

-- ---- sessions and workers

-- what the steps of sessions ask for, that of the last session first
abbrev pub asked_of_sessions : List Session → List (List (ℕ × What))
asked_of_sessions [] = []
asked_of_sessions (s ∷ ss) = asked_of_sessions ss ++ asked_by s.steps.items ∷ []

-- a session that has not run: its pass has one part of the weight, has stated nothing and has seen just the opening
pub record IsReady (table : OpenState) (session : Session) : Type 0 where
  pub few : session.number < 64
  pub pass : IsPassOf table session.pass
  pub actor : session.pass.actor ≡ fresh 1 table.opening.words
  pub steps : All (IsStepFor (full_of (algebra_of table.opening)) table.opening.nodes) session.steps.items

-- a session that has run: its pass has stated its facts, and its steps show sets that contain what its pass has seen
pub record HasRun (m : Algebra) (table : OpenState) (session : Session) : Type 0 where
  pub pass : IsPassOf table session.pass
  pub weight : session.pass.actor.weight ≡ 1
  pub facts : session.pass.actor.mine ≡ facts_of_session (asked_by session.steps.items)
  pub shown : AreShownAbove m table.opening.nodes table.opening.words session.pass.actor.seen session.steps.items

-- sessions that may be run, on a table over a network
pub record CanRun (m : Algebra) (table : OpenState) (before : List Session) : Type 0 where
  pub calculus : m ≡ algebra_of table.opening
  pub opening : IsNetwork m table.opening.nodes table.opening.words
  pub sessions : All (IsReady table) before

-- the same sessions, all run
pub record HaveRun (m : Algebra) (table : OpenState) (before after : List Session) : Type 0 where
  pub run : All (HasRun m table) after
  pub asked : asked_of_sessions after ≡ asked_of_sessions before

-- workers of the table who may work
pub record CanWork (m : Algebra) (table : OpenState) (before : List Worker) : Type 0 where
  pub calculus : m ≡ algebra_of table.opening
  pub some : 0 < length before
  pub workers : All (IsWorker table) before

-- ---- the whole

-- sessions that may narrow a network, beside the words of a closed one: their lines ask what the network has
pub record CanNarrow (m : Algebra) (net : Network) (closed : List ℕ) (lines : List (List Step)) : Type 0 where
  pub network : IsNetwork m net.nodes net.words
  pub closed_network : IsClosedNetwork m net.nodes closed
  pub asked : All (All (IsStepFor (full_of m) net.nodes)) lines
  pub few : length lines ≤ 64

-- the network's sets became those of the closure with the facts that the sessions state, and the rest of it stayed; the
-- lines ask what they asked, and the sets that they show lie between this closure and what each session was told
pub record HaveNarrowed (m : Algebra) (old new : Network) (lines done : List (List Step)) : Type 0 where
  pub rest : new ≡ record old { words = new.words }
  pub closure : IsClosureWithin m old.nodes old.words (facts_stated lines) new.words
  pub asked : asked_of done ≡ asked_of lines
  pub shown : All (λ (steps : List Step). AreShown m old.nodes new.words old.words (shown_by steps)) done
