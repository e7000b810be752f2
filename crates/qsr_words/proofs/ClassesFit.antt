-- A class and polygons that words ask for fit the calculus.
use Rattle.std.proofs.Common.{◌≡◌, ℕ, Bool, true, false, not, ◌==◌, ◌&&◌, ◌||◌, cond, List, [], ◌∷◌, length, Option, None, Some, option_map, refl}
use Rattle.std.specs.Prelude.{IfSome, codes}
use Rattle.std.specs.List.{list_any}
use Rattle.std.specs.Str.{bytes_eq}
use Rattle.clap.specs.Words.{App, Row, fault_of, first_of, matches_of}
use Rattle.qsr_words.specs.Asked.{Asked, asked_by, asked_with, SolveAsked, IntervalsAsked, MinimalAsked, CheckAsked}
use Rattle.qsr_words.specs.Asked.{close, solve, intervals, minimal, check, trace, relate, scene, serve, demo}
use Rattle.qsr_words.specs.Asked.{class_asked, class_fits, polygons_asked, polygons_fit}
use Rattle.qsr_words.specs.Asked.{is_rcc8_class, is_strange}
use Rattle.qsr_words.specs.Asked.{solve_over, solve_with, solve_app, solve_asked, solve_by, check_over, check_with}
use Rattle.qsr_words.specs.Asked.{intervals_with, intervals_app, intervals_asked, intervals_by}
use Rattle.qsr_words.specs.Asked.{minimal_over, minimal_with, minimal_app, minimal_asked, minimal_by}
use Rattle.qsr_words.specs.Asked.{check_app, check_asked, check_by, close_asked, relate_asked, scene_asked}
use Rattle.qsr_words.specs.Asked.{serve_asked, demo_asked, command_asked, command_by, budget_asked, workers_asked}
use Rattle.qsr_words.specs.Asked.{is_flag_there}
use Rattle.qsr_words.specs.Requests.{FitsCalculus}

abbrev FitsSolve : SolveAsked → Type 0
FitsSolve asked = (class_fits asked.calculus asked.class ≡ true) × (polygons_fit asked.calculus asked.polygons ≡ true)

abbrev FitsIntervals : IntervalsAsked → Type 0
FitsIntervals asked = class_fits (codes "allen") asked.class ≡ true

abbrev FitsMinimal : MinimalAsked → Type 0
FitsMinimal asked = class_fits asked.calculus asked.class ≡ true

abbrev FitsCheck : CheckAsked → Type 0
FitsCheck asked = polygons_fit asked.calculus asked.polygons ≡ true

usual_fits : (b : Bool) → (b || not (is_rcc8_class (cond b (codes "h8") (codes "none")))) ≡ true
usual_fits true = refl
usual_fits false = refl

named_fits : {X : Type 0} (x y : Bool) (word : X) (P : X → Type 0) → (y ≡ true → P word) → IfSome (cond (x && y) (Some word) None) P
named_fits true true word P f = f refl
named_fits true false word P f = tt
named_fits false y word P f = tt

class_known : (c : List ℕ) (k : Option (List ℕ)) → IfSome (class_asked c k) (λ v. class_fits c v ≡ true)
class_known c None = usual_fits (bytes_eq c (codes "rcc8"))
class_known c (Some word) = named_fits (not (length word == 0)) (class_fits c word) word _ (λ e. e)

none_fits : (b : Bool) → (b || true) ≡ true
none_fits true = refl
none_fits false = refl

polygons_known : (c : List ℕ) (p : Option (List ℕ)) → IfSome (polygons_asked c p) (λ v. polygons_fit c v ≡ true)
polygons_known c None = none_fits (bytes_eq c (codes "rcc8"))
polygons_known c (Some word) = named_fits (not (length word == 0)) (polygons_fit c (Some word)) (Some word) _ (λ e. e)

over_known : (c : List ℕ) (k : Option (List ℕ)) (p : Option (Option (List ℕ))) (b : Option ℕ) (w : Option (Option ℕ)) (t : Bool) → IfSome k (λ v. class_fits c v ≡ true) →
    IfSome p (λ v. polygons_fit c v ≡ true) → IfSome (solve_over c k p b w t) FitsSolve
over_known c None p b w t h g = tt
over_known c (Some k) None b w t h g = tt
over_known c (Some k) (Some p) None w t h g = tt
over_known c (Some k) (Some p) (Some b) None t h g = tt
over_known c (Some k) (Some p) (Some b) (Some w) t h g = (h, g)

with_known : (c k p : Option (List ℕ)) (b : Option ℕ) (w : Option (Option ℕ)) (t : Bool) → IfSome (solve_with c k p b w t) FitsSolve
with_known None k p b w t = tt
with_known (Some c) k p b w t = over_known c (class_asked c k) (polygons_asked c p) b w t (class_known c k) (polygons_known c p)

intervals_with_known : (k : Option (List ℕ)) (b : Option ℕ) (w : Option (Option ℕ)) →
    IfSome k (λ v. class_fits (codes "allen") v ≡ true) → IfSome (intervals_with k b w) FitsIntervals
intervals_with_known None b w h = tt
intervals_with_known (Some k) None w h = tt
intervals_with_known (Some k) (Some b) None h = tt
intervals_with_known (Some k) (Some b) (Some w) h = h

minimal_over_known : (c : List ℕ) (k : Option (List ℕ)) (b : Option ℕ) (w : Option (Option ℕ)) →
    IfSome k (λ v. class_fits c v ≡ true) → IfSome (minimal_over c k b w) FitsMinimal
minimal_over_known c None b w h = tt
minimal_over_known c (Some k) None w h = tt
minimal_over_known c (Some k) (Some b) None h = tt
minimal_over_known c (Some k) (Some b) (Some w) h = h

minimal_with_known : (c k : Option (List ℕ)) (b : Option ℕ) (w : Option (Option ℕ)) →
    IfSome (minimal_with c k b w) FitsMinimal
minimal_with_known None k b w = tt
minimal_with_known (Some c) k b w = minimal_over_known c (class_asked c k) b w (class_known c k)

check_over_known : (c : List ℕ) (t : Option (List ℕ)) (p : Option (Option (List ℕ))) → IfSome p (λ v. polygons_fit c v ≡ true) → IfSome (check_over c t p) FitsCheck
check_over_known c None p h = tt
check_over_known c (Some t) None h = tt
check_over_known c (Some t) (Some p) h = h

check_with_known : (c t p : Option (List ℕ)) → IfSome (check_with c t p) FitsCheck
check_with_known None t p = tt
check_with_known (Some c) t p = check_over_known c t (polygons_asked c p) (polygons_known c p)

asked_known : {A : Type 0} (app : App) (by : List Row → Option A) (P : A → Type 0) (words : List (List ℕ)) → ((rows : List Row) → IfSome (by rows) P) → IfSome (asked_with app by words) P
asked_known app by P words h = pick (length (fault_of app words) == 0) (by (matches_of app words)) (h (matches_of app words))
  where
    pick : (b : Bool) (o : Option _) → IfSome o P → IfSome (cond b o None) P
    pick true o h = h
    pick false o h = tt

solve_known : (words : List (List ℕ)) → IfSome (solve_asked words) FitsSolve
solve_known words = asked_known solve_app solve_by FitsSolve words (λ rows.
    with_known (first_of (codes "calculus") rows) (first_of (codes "class") rows) (first_of (codes "polygons") rows)
    (budget_asked (first_of (codes "budget") rows)) (workers_asked (first_of (codes "workers") rows)) (is_flag_there (first_of (codes "cert") rows)))

intervals_known : (words : List (List ℕ)) → IfSome (intervals_asked words) FitsIntervals
intervals_known words = asked_known intervals_app intervals_by FitsIntervals words (λ rows.
    intervals_with_known (class_asked (codes "allen") (first_of (codes "class") rows))
    (budget_asked (first_of (codes "budget") rows)) (workers_asked (first_of (codes "workers") rows))
    (class_known (codes "allen") (first_of (codes "class") rows)))

minimal_known : (words : List (List ℕ)) → IfSome (minimal_asked words) FitsMinimal
minimal_known words = asked_known minimal_app minimal_by FitsMinimal words (λ rows.
    minimal_with_known (first_of (codes "calculus") rows) (first_of (codes "class") rows)
    (budget_asked (first_of (codes "budget") rows)) (workers_asked (first_of (codes "workers") rows)))

check_known : (words : List (List ℕ)) → IfSome (check_asked words) FitsCheck
check_known words = asked_known check_app check_by FitsCheck words (λ rows.
    check_with_known (first_of (codes "calculus") rows) (first_of (codes "certificate") rows) (first_of (codes "polygons") rows))

fits_either : (b : Bool) (x y : Option Asked) → FitsCalculus x → FitsCalculus y → FitsCalculus (cond b x y)
fits_either true x y h k = h
fits_either false x y h k = k

fits_of : {A : Type 0} (of : A → Asked) (o : Option A) → IfSome o (λ a. FitsCalculus (Some (of a))) → FitsCalculus (option_map of o)
fits_of of None h = tt
fits_of of (Some a) h = h

fits_any : {A : Type 0} (of : A → Asked) (o : Option A) → ((a : A) → FitsCalculus (Some (of a))) → FitsCalculus (option_map of o)
fits_any of None h = tt
fits_any of (Some a) h = h a

by_fits : (name : List ℕ) (words : List (List ℕ)) → FitsCalculus (command_by name words)
by_fits name words =
    fits_either (bytes_eq name (codes "close")) _ _ (fits_any close (close_asked words) (λ a. tt))
    (fits_either (bytes_eq name (codes "solve")) _ _ (fits_of solve (solve_asked words) (solve_known words))
    (fits_either (bytes_eq name (codes "intervals")) _ _
    (fits_of intervals (intervals_asked words) (intervals_known words))
    (fits_either (bytes_eq name (codes "minimal")) _ _ (fits_of minimal (minimal_asked words) (minimal_known words))
    (fits_either (bytes_eq name (codes "check")) _ _ (fits_of check (check_asked words) (check_known words))
    (fits_either (bytes_eq name (codes "trace")) _ _ (fits_of trace (check_asked words) (check_known words))
    (fits_either (bytes_eq name (codes "relate")) _ _ (fits_any relate (relate_asked words) (λ a. tt))
    (fits_either (bytes_eq name (codes "scene")) _ _ (fits_any scene (scene_asked words) (λ a. tt))
    (fits_either (bytes_eq name (codes "serve")) _ _ (fits_any serve (serve_asked words) (λ a. tt))
    (fits_either (bytes_eq name (codes "demo")) (option_map demo (demo_asked words)) None
    (fits_any demo (demo_asked words) (λ a. tt)) tt)))))))))

command_fits : (words : List (List ℕ)) → FitsCalculus (command_asked words)
command_fits [] = tt
command_fits (name ∷ rest) = by_fits name (name ∷ rest)

pub words_fit : (words : List (List ℕ)) → FitsCalculus (asked_by words)
words_fit words = fits_either (list_any is_strange words) None (command_asked words) tt (command_fits words)
