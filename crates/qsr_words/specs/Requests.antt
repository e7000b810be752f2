-- Requests as the definitions see them.
use Rattle.std.specs.Prelude.{◌≡◌, ℕ, ◌≤◌, ⊤, true, Option, Some, None, IfSome, option_map, codes}
use Rattle.std.specs.String.{string_bytes}
use Rattle.qsr_words.specs.Asked.{Asked, CloseAsked, SolveAsked, IntervalsAsked, MinimalAsked, CheckAsked, RelateAsked}
use Rattle.qsr_words.specs.Asked.{SceneAsked, ServeAsked, DemoAsked, class_fits, polygons_fit}
use Rattle.qsr_words.specs.Asked.{close, solve, intervals, minimal, check, trace, relate, scene, serve, demo}
use Rattle.qsr_words.specs.declared.TheConstants.{MIN_WORKERS, MAX_WORKERS, MAX_BUDGET}
use Rattle.qsr_words.specs.declared.TheConstants.{MAX_SEED, MIN_DEMO_NODES, MAX_DEMO_NODES, MIN_SERVED_NODES, MAX_SERVED_NODES}
use Rattle.qsr_words.specs.declared.close.Close.{Close}
use Rattle.qsr_words.specs.declared.solve.Solve.{Solve}
use Rattle.qsr_words.specs.declared.intervals.Intervals.{Intervals}
use Rattle.qsr_words.specs.declared.minimal.Minimal.{Minimal}
use Rattle.qsr_words.specs.declared.check.Check.{Check}
use Rattle.qsr_words.specs.declared.relate.Relate.{Relate}
use Rattle.qsr_words.specs.declared.scene.Scene.{Scene}
use Rattle.qsr_words.specs.declared.serve.Serve.{Serve}
use Rattle.qsr_words.specs.declared.demo.Demo.{Demo}
use Rattle.qsr_words.specs.declared.reading.Request.{Request}
use Rattle.qsr_words.specs.declared.reading.Request.TheVariants as request

abbrev pub close_of : Close → CloseAsked
close_of c = record { calculus = string_bytes c.calculus; workers = c.workers }

abbrev pub solve_of : Solve → SolveAsked
solve_of s = record {
  calculus = string_bytes s.calculus;
  class = string_bytes s.class;
  polygons = option_map string_bytes s.polygons;
  budget = s.budget;
  workers = s.workers;
  is_cert = s.cert;
}

abbrev pub intervals_of : Intervals → IntervalsAsked
intervals_of i = record { class = string_bytes i.class; budget = i.budget; workers = i.workers }

abbrev pub minimal_of : Minimal → MinimalAsked
minimal_of m = record {
  calculus = string_bytes m.calculus;
  class = string_bytes m.class;
  budget = m.budget;
  workers = m.workers;
}

abbrev pub check_of : Check → CheckAsked
check_of c = record {
  calculus = string_bytes c.calculus;
  certificate = string_bytes c.certificate;
  polygons = option_map string_bytes c.polygons;
}

abbrev pub relate_of : Relate → RelateAsked
relate_of r = record { polygons = string_bytes r.polygons; pattern = option_map string_bytes r.pattern }

abbrev pub scene_of : Scene → SceneAsked
scene_of s = record { polygons = string_bytes s.polygons }

abbrev pub serve_of : Serve → ServeAsked
serve_of s = record { calculus = string_bytes s.calculus; nodes = s.nodes; workers = s.workers }

abbrev pub demo_of : Demo → DemoAsked
demo_of d = record { seed = d.seed; nodes = d.nodes }

-- what the request asks for, if it asks for something
abbrev pub asked_of : Request → Option Asked
asked_of (request.Close c) = Some (close (close_of c))
asked_of (request.Solve s) = Some (solve (solve_of s))
asked_of (request.Intervals i) = Some (intervals (intervals_of i))
asked_of (request.Minimal m) = Some (minimal (minimal_of m))
asked_of (request.Check c) = Some (check (check_of c))
asked_of (request.Trace c) = Some (trace (check_of c))
asked_of (request.Relate r) = Some (relate (relate_of r))
asked_of (request.Scene s) = Some (scene (scene_of s))
asked_of (request.Serve s) = Some (serve (serve_of s))
asked_of (request.Demo d) = Some (demo (demo_of d))
asked_of request.Usage = None

-- so many workers as a command takes
abbrev pub AreWorkers : ℕ → Type 0
AreWorkers workers = (MIN_WORKERS ≤ workers) × (workers ≤ MAX_WORKERS)

-- so many workers as a command takes, where a number of them is named
abbrev pub AreWorkersIfNamed : Option ℕ → Type 0
AreWorkersIfNamed named = IfSome named AreWorkers

-- a search with a class and polygons that fit the calculus, and a budget and named workers within the limits
pub record IsSearch (asked : SolveAsked) : Type 0 where
  pub fits : class_fits asked.calculus asked.class ≡ true
  pub polygons : polygons_fit asked.calculus asked.polygons ≡ true
  pub budget : asked.budget ≤ MAX_BUDGET
  pub workers : AreWorkersIfNamed asked.workers

-- a search over Allen's calculus with a class that fits it, and a budget and named workers within the limits
pub record IsIntervalSearch (asked : IntervalsAsked) : Type 0 where
  pub fits : class_fits (codes "allen") asked.class ≡ true
  pub budget : asked.budget ≤ MAX_BUDGET
  pub workers : AreWorkersIfNamed asked.workers

-- a search for a minimal network, with a class that fits the calculus, and a budget and named workers within the limits
pub record IsMinimalSearch (asked : MinimalAsked) : Type 0 where
  pub fits : class_fits asked.calculus asked.class ≡ true
  pub budget : asked.budget ≤ MAX_BUDGET
  pub workers : AreWorkersIfNamed asked.workers

-- a certificate to check or to trace, with polygons that fit the calculus
pub record IsCheck (asked : CheckAsked) : Type 0 where
  pub polygons : polygons_fit asked.calculus asked.polygons ≡ true

-- sessions over a number of nodes and with workers within the limits
pub record AreServed (asked : ServeAsked) : Type 0 where
  pub some_nodes : MIN_SERVED_NODES ≤ asked.nodes
  pub few_nodes : asked.nodes ≤ MAX_SERVED_NODES
  pub workers : AreWorkers asked.workers

-- a demonstration with a seed and a number of nodes within the limits
pub record IsDemo (asked : DemoAsked) : Type 0 where
  pub seed : asked.seed ≤ MAX_SEED
  pub some_nodes : MIN_DEMO_NODES ≤ asked.nodes
  pub few_nodes : asked.nodes ≤ MAX_DEMO_NODES

-- the class that guides a search and the polygons fit the calculus
abbrev pub FitsCalculus : Option Asked → Type 0
FitsCalculus (Some (solve asked)) =
    (class_fits asked.calculus asked.class ≡ true) × (polygons_fit asked.calculus asked.polygons ≡ true)
FitsCalculus (Some (intervals asked)) = class_fits (codes "allen") asked.class ≡ true
FitsCalculus (Some (minimal asked)) = class_fits asked.calculus asked.class ≡ true
FitsCalculus (Some (check asked)) = polygons_fit asked.calculus asked.polygons ≡ true
FitsCalculus (Some (trace asked)) = polygons_fit asked.calculus asked.polygons ≡ true
FitsCalculus asked = ⊤

-- the request is within the limits of its command
abbrev pub IsWithinLimits : Request → Type 0
IsWithinLimits (request.Close c) = AreWorkersIfNamed c.workers
IsWithinLimits (request.Solve s) = IsSearch (solve_of s)
IsWithinLimits (request.Intervals i) = IsIntervalSearch (intervals_of i)
IsWithinLimits (request.Minimal m) = IsMinimalSearch (minimal_of m)
IsWithinLimits (request.Check c) = IsCheck (check_of c)
IsWithinLimits (request.Trace c) = IsCheck (check_of c)
IsWithinLimits (request.Serve s) = AreServed (serve_of s)
IsWithinLimits (request.Demo d) = IsDemo (demo_of d)
IsWithinLimits request = ⊤
