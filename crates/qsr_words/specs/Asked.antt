-- What the words of the command line ask for, as a function of the words.
use Rattle.std.specs.Prelude.{◌==◌, ◌&&◌, ◌||◌, ℕ, nat_le, Bool, true, false, not, List, [], ◌∷◌, length, codes, Option, Some, None, is_some, option_and_then, option_map, if◌then◌else◌}
use Rattle.std.specs.List.{list_any}
use Rattle.std.specs.Str.{bytes_eq}
use Rattle.clap.specs.Words.{App, Row, Rule, fault_of, first_of, matches_of, new_app, new_rule, with_rule}
use Rattle.qsr_lex.specs.Numbers.{number_of}
use Rattle.clap.specs.declared.builder.action.ArgAction.TheVariants.{SetTrue}
use Rattle.qsr_words.specs.declared.TheConstants.{MIN_WORKERS, MAX_WORKERS, USUAL_WORKERS, MAX_BUDGET, USUAL_BUDGET}
use Rattle.qsr_words.specs.declared.TheConstants.{MAX_SEED, MIN_DEMO_NODES, MAX_DEMO_NODES, MIN_SERVED_NODES, MAX_SERVED_NODES}

-- ---- words in general

-- no command takes the word: it is empty, a dash or two, or begins with a single dash
abbrev pub is_strange : List ℕ → Bool
is_strange [] = true
is_strange (a ∷ []) = a == 45
is_strange (a ∷ b ∷ rest) = a == 45 && (not (b == 45) || length rest == 0)

-- the value of a word that is a number from `least` to `most`
abbrev pub number_within : ℕ → ℕ → List ℕ → Option ℕ
number_within least most word =
    option_and_then (λ n. if nat_le least n && nat_le n most then Some n else None) (number_of word)

-- the number of workers that a word names, and none where there is no word
abbrev pub workers_asked : Option (List ℕ) → Option (Option ℕ)
workers_asked None = Some None
workers_asked (Some word) = option_map Some (number_within MIN_WORKERS MAX_WORKERS word)

-- the number of workers that a word names, or the usual one where there is no word
abbrev pub workers_beside : Option (List ℕ) → Option ℕ
workers_beside None = Some USUAL_WORKERS
workers_beside (Some word) = number_within MIN_WORKERS MAX_WORKERS word

-- the budget of splits that a word names, or the usual one where there is no word
abbrev pub budget_asked : Option (List ℕ) → Option ℕ
budget_asked None = Some USUAL_BUDGET
budget_asked (Some word) = number_within 0 MAX_BUDGET word

-- ---- classes

-- the word names a class of RCC-8 that is built in
abbrev pub is_rcc8_class : List ℕ → Bool
is_rcc8_class class = bytes_eq class (codes "h8") || bytes_eq class (codes "c8") || bytes_eq class (codes "q8")

-- such a class goes with RCC-8 alone, and any other with every calculus
abbrev pub class_fits : List ℕ → List ℕ → Bool
class_fits calculus class = bytes_eq calculus (codes "rcc8") || not (is_rcc8_class class)

-- the class of a search over a calculus where no word names one
abbrev pub usual_class : List ℕ → List ℕ
usual_class calculus = if bytes_eq calculus (codes "rcc8") then codes "h8" else codes "none"

-- the class that a word names, where it isn't empty and fits the calculus
abbrev pub class_asked : List ℕ → Option (List ℕ) → Option (List ℕ)
class_asked calculus None = Some (usual_class calculus)
class_asked calculus (Some word) = if not (length word == 0) && class_fits calculus word then Some word else None

-- ---- polygons

-- polygons go with RCC-8 alone, and no polygons go with every calculus
abbrev pub polygons_fit : List ℕ → Option (List ℕ) → Bool
polygons_fit calculus polygons = bytes_eq calculus (codes "rcc8") || not (is_some polygons)

-- the polygons that a word names, where it isn't empty and they fit the calculus; there are none where there is no word
abbrev pub polygons_asked : List ℕ → Option (List ℕ) → Option (Option (List ℕ))
polygons_asked calculus None = Some None
polygons_asked calculus (Some word) =
    if not (length word == 0) && polygons_fit calculus (Some word) then Some (Some word) else None

-- ---- demonstrations

-- the seed that a word is
abbrev pub seed_asked : Option (List ℕ) → Option ℕ
seed_asked = option_and_then (number_within 0 MAX_SEED)

-- the number of nodes that a word is
abbrev pub nodes_asked : Option (List ℕ) → Option ℕ
nodes_asked = option_and_then (number_within MIN_DEMO_NODES MAX_DEMO_NODES)

-- ---- sessions

-- the number of nodes of the network that sessions use
abbrev pub served_nodes_asked : Option (List ℕ) → Option ℕ
served_nodes_asked = option_and_then (number_within MIN_SERVED_NODES MAX_SERVED_NODES)

-- ---- the words of each command

-- a word that the command doesn't do without
abbrev pub word_rule : List ℕ → Rule
word_rule name = record (new_rule name) { required = true }

-- an option with a value
abbrev pub option_rule : List ℕ → Rule
option_rule name = record (new_rule name) { long = Some name }

-- an option without a value
abbrev pub flag_rule : List ℕ → Rule
flag_rule name = record (new_rule name) { long = Some name; action = Some SetTrue }

-- such an option is there: `clap` gives it the value `true` where it is, and else `false`
abbrev pub is_flag_there : Option (List ℕ) → Bool
is_flag_there None = false
is_flag_there (Some value) = bytes_eq value (codes "true")

-- what words ask of a command, by the values that `clap` finds where it takes the words
abbrev pub asked_with : {A : Type 0} → App → (List Row → Option A) → List (List ℕ) → Option A
asked_with app by_values words = if length (fault_of app words) == 0 then by_values (matches_of app words) else None

-- ---- close

-- to close the network of the source, over the calculus of a word, by a number of workers where one is named
pub record CloseAsked : Type 0 where
  pub calculus : List ℕ
  pub workers : Option ℕ

-- the words of `close`: its name, a calculus, and `--workers` with a number
abbrev pub close_app : App
close_app =
    with_rule (with_rule (new_app (codes "close")) (word_rule (codes "calculus"))) (option_rule (codes "workers"))

-- with a calculus, where there is one, and a number of workers or none
abbrev pub close_with : Option (List ℕ) → Option (Option ℕ) → Option CloseAsked
close_with calculus workers =
    option_and_then (λ c. option_map (λ w. record { calculus = c; workers = w }) workers) calculus

abbrev pub close_by : List Row → Option CloseAsked
close_by found = close_with (first_of (codes "calculus") found) (workers_asked (first_of (codes "workers") found))

abbrev pub close_asked : List (List ℕ) → Option CloseAsked
close_asked = asked_with close_app close_by

-- ---- solve

-- to search for a scenario of the network of the source and of the polygons, over the calculus of a word, guided by the
-- class of a word, after workers whose number may be named, with a verdict or a certificate for an answer
pub record SolveAsked : Type 0 where
  pub calculus : List ℕ
  pub class : List ℕ
  pub polygons : Option (List ℕ)
  pub budget : ℕ
  pub workers : Option ℕ
  pub is_cert : Bool

-- the words of `solve`: its name, a calculus, `--class`, `--polygons`, `--budget` and `--workers` with a value each,
-- and `--cert`
abbrev pub solve_app : App
solve_app =
    with_rule (with_rule (with_rule (with_rule (with_rule (with_rule
    (new_app (codes "solve")) (word_rule (codes "calculus"))) (option_rule (codes "class")))
    (option_rule (codes "polygons"))) (option_rule (codes "budget"))) (option_rule (codes "workers")))
    (flag_rule (codes "cert"))

-- over a calculus, with a class and polygons that fit it, a budget and a number of workers or none, where there are all
-- of them
abbrev pub solve_over : List ℕ → Option (List ℕ) → Option (Option (List ℕ)) → Option ℕ → Option (Option ℕ) → Bool
    → Option SolveAsked
solve_over calculus class polygons budget workers is_cert =
    option_and_then (λ k. option_and_then (λ p. option_and_then (λ b. option_map (λ w. record {
      calculus = calculus;
      class = k;
      polygons = p;
      budget = b;
      workers = w;
      is_cert = is_cert;
    }) workers) budget) polygons) class

abbrev pub solve_with : Option (List ℕ) → Option (List ℕ) → Option (List ℕ) → Option ℕ → Option (Option ℕ) → Bool
    → Option SolveAsked
solve_with calculus class polygons budget workers is_cert = option_and_then (λ c.
    solve_over c (class_asked c class) (polygons_asked c polygons) budget workers is_cert) calculus

abbrev pub solve_by : List Row → Option SolveAsked
solve_by found =
    solve_with (first_of (codes "calculus") found) (first_of (codes "class") found)
    (first_of (codes "polygons") found) (budget_asked (first_of (codes "budget") found))
    (workers_asked (first_of (codes "workers") found)) (is_flag_there (first_of (codes "cert") found))

abbrev pub solve_asked : List (List ℕ) → Option SolveAsked
solve_asked = asked_with solve_app solve_by

-- ---- intervals

-- to search for intervals of the network of the source, over Allen's calculus, guided by the class of a word, after
-- workers whose number may be named
pub record IntervalsAsked : Type 0 where
  pub class : List ℕ
  pub budget : ℕ
  pub workers : Option ℕ

-- the words of `intervals`: its name, and `--class`, `--budget` and `--workers` with a value each
abbrev pub intervals_app : App
intervals_app =
    with_rule (with_rule (with_rule (new_app (codes "intervals")) (option_rule (codes "class")))
    (option_rule (codes "budget"))) (option_rule (codes "workers"))

-- with a class, a budget and a number of workers or none, where there are all of them
abbrev pub intervals_with : Option (List ℕ) → Option ℕ → Option (Option ℕ) → Option IntervalsAsked
intervals_with class budget workers = option_and_then (λ k. option_and_then (λ b. option_map (λ w.
    record { class = k; budget = b; workers = w }) workers) budget) class

abbrev pub intervals_by : List Row → Option IntervalsAsked
intervals_by found =
    intervals_with (class_asked (codes "allen") (first_of (codes "class") found))
    (budget_asked (first_of (codes "budget") found)) (workers_asked (first_of (codes "workers") found))

abbrev pub intervals_asked : List (List ℕ) → Option IntervalsAsked
intervals_asked = asked_with intervals_app intervals_by

-- ---- minimal

-- to search for the minimal network of that of the source, over the calculus of a word, guided by the class of a word,
-- after workers whose number may be named
pub record MinimalAsked : Type 0 where
  pub calculus : List ℕ
  pub class : List ℕ
  pub budget : ℕ
  pub workers : Option ℕ

-- the words of `minimal`: its name, a calculus, and `--class`, `--budget` and `--workers` with a value each
abbrev pub minimal_app : App
minimal_app =
    with_rule (with_rule (with_rule (with_rule (new_app (codes "minimal")) (word_rule (codes "calculus")))
    (option_rule (codes "class"))) (option_rule (codes "budget"))) (option_rule (codes "workers"))

-- over a calculus, with a class that fits it, a budget and a number of workers or none, where there are all of them
abbrev pub minimal_over : List ℕ → Option (List ℕ) → Option ℕ → Option (Option ℕ) → Option MinimalAsked
minimal_over calculus class budget workers = option_and_then (λ k. option_and_then (λ b. option_map (λ w.
    record { calculus = calculus; class = k; budget = b; workers = w }) workers) budget) class

abbrev pub minimal_with : Option (List ℕ) → Option (List ℕ) → Option ℕ → Option (Option ℕ) → Option MinimalAsked
minimal_with calculus class budget workers =
    option_and_then (λ c. minimal_over c (class_asked c class) budget workers) calculus

abbrev pub minimal_by : List Row → Option MinimalAsked
minimal_by found =
    minimal_with (first_of (codes "calculus") found) (first_of (codes "class") found)
    (budget_asked (first_of (codes "budget") found)) (workers_asked (first_of (codes "workers") found))

abbrev pub minimal_asked : List (List ℕ) → Option MinimalAsked
minimal_asked = asked_with minimal_app minimal_by

-- ---- check and trace

-- to check or to trace a certificate for the network of the source and of the polygons, over the calculus of a word
pub record CheckAsked : Type 0 where
  pub calculus : List ℕ
  pub certificate : List ℕ
  pub polygons : Option (List ℕ)

-- the words of `check` and of `trace`: its name, a calculus, a certificate, and `--polygons` with a name
abbrev pub check_app : App
check_app =
    with_rule (with_rule (with_rule (new_app (codes "check")) (word_rule (codes "calculus")))
    (word_rule (codes "certificate"))) (option_rule (codes "polygons"))

-- over a calculus, with a certificate and polygons that fit the calculus, where there are both
abbrev pub check_over : List ℕ → Option (List ℕ) → Option (Option (List ℕ)) → Option CheckAsked
check_over calculus certificate polygons = option_and_then (λ t. option_map (λ p.
    record { calculus = calculus; certificate = t; polygons = p }) polygons) certificate

abbrev pub check_with : Option (List ℕ) → Option (List ℕ) → Option (List ℕ) → Option CheckAsked
check_with calculus certificate polygons =
    option_and_then (λ c. check_over c certificate (polygons_asked c polygons)) calculus

abbrev pub check_by : List Row → Option CheckAsked
check_by found =
    check_with (first_of (codes "calculus") found) (first_of (codes "certificate") found)
    (first_of (codes "polygons") found)

abbrev pub check_asked : List (List ℕ) → Option CheckAsked
check_asked = asked_with check_app check_by

-- ---- relate

-- to relate each two polygons of a file, or those whose matrix has a pattern
pub record RelateAsked : Type 0 where
  pub polygons : List ℕ
  pub pattern : Option (List ℕ)

-- the words of `relate`: its name, polygons, and `--pattern` with a pattern
abbrev pub relate_app : App
relate_app =
    with_rule (with_rule (new_app (codes "relate")) (word_rule (codes "polygons"))) (option_rule (codes "pattern"))

-- with polygons, where there are some, and a pattern or none
abbrev pub relate_with : Option (List ℕ) → Option (List ℕ) → Option RelateAsked
relate_with polygons pattern = option_map (λ f. record { polygons = f; pattern = pattern }) polygons

abbrev pub relate_by : List Row → Option RelateAsked
relate_by found = relate_with (first_of (codes "polygons") found) (first_of (codes "pattern") found)

abbrev pub relate_asked : List (List ℕ) → Option RelateAsked
relate_asked = asked_with relate_app relate_by

-- ---- scene

-- to write the network that the polygons of a file draw
pub record SceneAsked : Type 0 where
  pub polygons : List ℕ

-- the words of `scene`: its name, and polygons
abbrev pub scene_app : App
scene_app = with_rule (new_app (codes "scene")) (word_rule (codes "polygons"))

-- of polygons, where there are some
abbrev pub scene_with : Option (List ℕ) → Option SceneAsked
scene_with polygons = option_map (λ f. record { polygons = f }) polygons

abbrev pub scene_by : List Row → Option SceneAsked
scene_by found = scene_with (first_of (codes "polygons") found)

abbrev pub scene_asked : List (List ℕ) → Option SceneAsked
scene_asked = asked_with scene_app scene_by

-- ---- serve

-- to answer the sessions of a script, which use one network over so many nodes and the calculus of a word
pub record ServeAsked : Type 0 where
  pub calculus : List ℕ
  pub nodes : ℕ
  pub workers : ℕ

-- the words of `serve`: its name, a calculus, a number of nodes, and `--workers` with a number
abbrev pub serve_app : App
serve_app =
    with_rule (with_rule (with_rule (new_app (codes "serve")) (word_rule (codes "calculus")))
    (word_rule (codes "nodes"))) (option_rule (codes "workers"))

-- with a calculus, a number of nodes and a number of workers, where there are all of them
abbrev pub serve_with : Option (List ℕ) → Option ℕ → Option ℕ → Option ServeAsked
serve_with calculus nodes workers = option_and_then (λ c. option_and_then (λ n. option_map (λ w.
    record { calculus = c; nodes = n; workers = w }) workers) nodes) calculus

abbrev pub serve_by : List Row → Option ServeAsked
serve_by found =
    serve_with (first_of (codes "calculus") found) (served_nodes_asked (first_of (codes "nodes") found))
    (workers_beside (first_of (codes "workers") found))

abbrev pub serve_asked : List (List ℕ) → Option ServeAsked
serve_asked = asked_with serve_app serve_by

-- ---- demo

-- to show a search at work, on the relations of so many rectangles that a seed makes
pub record DemoAsked : Type 0 where
  pub seed : ℕ
  pub nodes : ℕ

-- the words of `demo`: its name, a seed, and a number of nodes
abbrev pub demo_app : App
demo_app = with_rule (with_rule (new_app (codes "demo")) (word_rule (codes "seed"))) (word_rule (codes "nodes"))

-- with a seed and a number of nodes, where there are both
abbrev pub demo_with : Option ℕ → Option ℕ → Option DemoAsked
demo_with seed nodes = option_and_then (λ s. option_map (λ n. record { seed = s; nodes = n }) nodes) seed

abbrev pub demo_by : List Row → Option DemoAsked
demo_by found = demo_with (seed_asked (first_of (codes "seed") found)) (nodes_asked (first_of (codes "nodes") found))

abbrev pub demo_asked : List (List ℕ) → Option DemoAsked
demo_asked = asked_with demo_app demo_by

-- ---- all commands

pub data Asked : Type 0 where
  close : CloseAsked → Asked
  solve : SolveAsked → Asked
  intervals : IntervalsAsked → Asked
  minimal : MinimalAsked → Asked
  check : CheckAsked → Asked
  trace : CheckAsked → Asked
  relate : RelateAsked → Asked
  scene : SceneAsked → Asked
  serve : ServeAsked → Asked
  demo : DemoAsked → Asked

-- what words of which the first is this ask for
abbrev pub command_by : List ℕ → List (List ℕ) → Option Asked
command_by name words =
    if bytes_eq name (codes "close") then option_map close (close_asked words)
    else (if bytes_eq name (codes "solve") then option_map solve (solve_asked words)
    else (if bytes_eq name (codes "intervals") then option_map intervals (intervals_asked words)
    else (if bytes_eq name (codes "minimal") then option_map minimal (minimal_asked words)
    else (if bytes_eq name (codes "check") then option_map check (check_asked words)
    else (if bytes_eq name (codes "trace") then option_map trace (check_asked words)
    else (if bytes_eq name (codes "relate") then option_map relate (relate_asked words)
    else (if bytes_eq name (codes "scene") then option_map scene (scene_asked words)
    else (if bytes_eq name (codes "serve") then option_map serve (serve_asked words)
    else (if bytes_eq name (codes "demo") then option_map demo (demo_asked words) else None)))))))))

-- what the words after the test of each word ask for, by the first of them
abbrev pub command_asked : List (List ℕ) → Option Asked
command_asked [] = None
command_asked (name ∷ rest) = command_by name (name ∷ rest)

-- what the words ask for, if they ask for something
abbrev pub asked_by : List (List ℕ) → Option Asked
asked_by words = if list_any is_strange words then None else command_asked words
