-- What words ask for, by the test of each and by the first.
use Rattle.std.proofs.Common.{◌≡◌, ◌≤◌, subst, Bool, true, false, List, [], ◌∷◌, length, map, get_or, refl, sym, ap, ◌∙◌, ◌||◌, cond, Option, None, Some, option_map, String, Global, arith}
use Rattle.std.specs.Prelude.{IfSome, IsSomeAnd, MatchOption, unwrap_or}
use Rattle.std.specs.List.{list_any}
use Rattle.std.specs.String.{string_bytes}
use Rattle.qsr_words.specs.Asked.{Asked, asked_by, command_asked, command_by, is_strange}
use Rattle.qsr_words.specs.Requests.{asked_of, IsWithinLimits}
use Rattle.qsr_words.specs.declared.reading.Request.{Request}
use Rattle.qsr_words.specs.declared.reading.Request.TheVariants as request

list_any-map : {X Y : Type 0} (p : Y → Bool) (f : X → Y) (xs : List X) → list_any p (map f xs) ≡ list_any (λ x. p (f x)) xs
list_any-map p f [] = refl
list_any-map p f (x ∷ xs) = ap (λ b. p (f x) || b) (list_any-map p f xs)

tested : (words : List (String Global)) (b : Bool) → list_any (λ word. is_strange (string_bytes word)) words ≡ b → list_any is_strange (map string_bytes words) ≡ b
tested words b e = list_any-map is_strange string_bytes words ∙ e

if_true : {X : Type 0} (b : Bool) (x y : X) → b ≡ true → cond b x y ≡ x
if_true b x y e = rw e refl

if_false : {X : Type 0} (b : Bool) (x y : X) → b ≡ false → cond b x y ≡ y
if_false b x y e = rw e refl

pub strange_asks_nothing : (words : List (String Global)) → list_any (λ word. is_strange (string_bytes word)) words ≡ true → None ≡ asked_by (map string_bytes words)
strange_asks_nothing words e = sym (if_true (list_any is_strange (map string_bytes words)) None (command_asked (map string_bytes words)) (tested words true e))

-- plain words ask for what words with that first one ask for
pub command_asks : (words : List (String Global)) (first : String Global) → list_any (λ word. is_strange (string_bytes word)) words ≡ false → 1 ≤ length words →
    first ≡ get_or words 0 first → command_by (string_bytes first) (map string_bytes words) ≡ asked_by (map string_bytes words)
command_asks words first plain some at =
    by_first words some at ∙ sym (if_false (list_any is_strange (map string_bytes words)) None (command_asked (map string_bytes words)) (tested words false plain))
  where
    by_first : (ws : List (String Global)) → 1 ≤ length ws → first ≡ get_or ws 0 first →
        command_by (string_bytes first) (map string_bytes ws) ≡ command_asked (map string_bytes ws)
    by_first [] some at = absurd (omega arith)
    by_first (w ∷ ws) some at = ap (λ x. command_by (string_bytes x) (map string_bytes (w ∷ ws))) at

-- what a request made from what a command's words ask for asks
pub asked_of-made : {A B : Type 0} (read : Option A) (made : Option Request) (to : A → Request) (view : A → B) (of : B → Asked) (asked : Option B) →
    MatchOption read (made ≡ None) (λ x. IsSomeAnd made (λ y. y ≡ to x)) → ((x : A) → asked_of (to x) ≡ Some (of (view x))) → option_map view read ≡ asked →
    asked_of (unwrap_or made request.Usage) ≡ option_map of asked
asked_of-made None None to view of asked h same e = ap (option_map of) e
asked_of-made None (Some y) to view of asked h same e = cc
asked_of-made (Some x) None to view of asked h same e = absurd h
asked_of-made (Some x) (Some y) to view of asked h same e = ap asked_of h ∙ same x ∙ ap (option_map of) e

-- and it is within the limits that the command's words are within
pub IsWithinLimits-made : {A : Type 0} (read : Option A) (made : Option Request) (to : A → Request) →
    MatchOption read (made ≡ None) (λ x. IsSomeAnd made (λ y. y ≡ to x)) → IfSome read (λ x. IsWithinLimits (to x)) → IsWithinLimits (unwrap_or made request.Usage)
IsWithinLimits-made None None to h within = tt
IsWithinLimits-made None (Some y) to h within = cc
IsWithinLimits-made (Some x) None to h within = absurd h
IsWithinLimits-made (Some x) (Some y) to h within = subst IsWithinLimits (sym h) within
