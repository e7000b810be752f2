-- What words ask of a command, from what `clap` found in them.
use Rattle.std.proofs.Common.{◌≡◌, ◌≢◌, ℕ, List, [], ◌∷◌, Option, None, length, sym, refl, ◌∙◌, ap, ◌==◌, cond, arith}
use Rattle.std.proofs.lemmas.Bool.{cond-false, ne_eqb}
use Rattle.clap.specs.Words.{App, Kinds, Row, fault_of, matches_of}
use Rattle.clap.specs.declared.parser.matches.ArgMatches.{ArgMatches}
use Rattle.qsr_words.specs.Asked.{asked_with}
use Rattle.qsr_words.specs.Found.{IsFoundIn, values_of}

taken : {X : Type 0} (kinds : Kinds) (x : X) (y : X) → kinds ≡ [] → cond (length kinds == 0) x y ≡ x
taken kinds x y e = rw e refl

not_taken : {X : Type 0} (kinds : Kinds) (x : X) (y : X) → kinds ≢ [] → cond (length kinds == 0) x y ≡ y
not_taken [] x y e = absurd (e refl)
not_taken (k ∷ kinds) x y e = cond-false (length (k ∷ kinds) == 0) x y (ne_eqb (length (k ∷ kinds)) 0 (omega arith))

-- words that aren't those of the command ask nothing of it
pub other_words : {A : Type 0} (app : App) (by_values : List Row → Option A) (words : List (List ℕ)) → fault_of app words ≢ [] → None ≡ asked_with app by_values words
other_words app by_values words e = sym (not_taken (fault_of app words) _ _ e)

-- words of the command ask by the values found
pub words_found : {A : Type 0} (app : App) (by_values : List Row → Option A) (words : List (List ℕ)) (found : ArgMatches) → IsFoundIn app words found →
    by_values (values_of found) ≡ asked_with app by_values words
words_found app by_values words found h = ap by_values h.1 ∙ sym (taken (fault_of app words) (by_values (matches_of app words)) _ h.0)
