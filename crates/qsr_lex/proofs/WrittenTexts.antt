-- Texts that are written piece by piece, and names with a space after each.
use Rattle.std.proofs.Common.{◌≡◌, ℕ, zero, suc, ◌+◌, ◌<◌, ◌≤◌, List, [], ◌∷◌, ◌++◌, length, take, codes, slice_get, unwrap_or, refl, sym, ◌∙◌, ap, arith, add-one, append_assoc, append-nil}
use Rattle.std.specs.List.{flat_map}
use Rattle.std.proofs.lemmas.Grind.{flat_map-append}
use Rattle.qsr_lex.specs.Printed.{spaced, text_below, word_text}

text_below-none : (f : ℕ → List ℕ) → text_below 0 f ≡ []
unfolding text_below
text_below-none f = refl

pub text_below-more : (n : ℕ) (f : ℕ → List ℕ) → text_below (n + 1) f ≡ text_below n f ++ f n
unfolding text_below
text_below-more n f = rw add-one refl

-- one more text after what was written
pub more_written : (old now next : List ℕ) (n : ℕ) (f : ℕ → List ℕ) → now ≡ old ++ text_below n f → next ≡ now ++ f n → next ≡ old ++ text_below (n + 1) f
more_written old now next n f e h = h ∙ ap (λ x. x ++ f n) e ∙ append_assoc old (text_below n f) (f n) ∙ ap (λ x. old ++ x) (sym (text_below-more n f))

-- nothing written yet
pub none_written : (old : List ℕ) (f : ℕ → List ℕ) → old ≡ old ++ text_below 0 f
none_written old f = sym (ap (λ x. old ++ x) (text_below-none f) ∙ append-nil old)

-- texts that are all empty
text_below-empty : (n : ℕ) (f : ℕ → List ℕ) → ((k : ℕ) → k < n → f k ≡ []) → text_below n f ≡ []
unfolding text_below
text_below-empty zero f h = refl
text_below-empty (suc n) f h = rw (text_below-empty n f (λ k b. h k (omega arith)), h n (omega arith)) refl

-- as long as every text is empty nothing is written
pub empty_written : (old : List ℕ) (n : ℕ) (f : ℕ → List ℕ) → ((k : ℕ) → k < n → f k ≡ []) → old ≡ old ++ text_below n f
empty_written old n f h = sym (ap (λ x. old ++ x) (text_below-empty n f h) ∙ append-nil old)

-- words, each with a space after
abbrev pub spaces : List (List ℕ) → List ℕ
spaces words = flat_map (λ w. w ++ codes " ") words

pub spaces-append : (xs ys : List (List ℕ)) → spaces (xs ++ ys) ≡ spaces xs ++ spaces ys
spaces-append xs ys = flat_map-append (λ w. w ++ codes " ") xs ys

take-name : (names : List (List ℕ)) (k : ℕ) → k < length names → take (suc k) names ≡ take k names ++ unwrap_or (slice_get names k) [] ∷ []
take-name [] k h = absurd (omega arith)
take-name (x ∷ xs) zero h = refl
take-name (x ∷ xs) (suc k) h = ap (λ ys. x ∷ ys) (take-name xs k (omega arith))

pub text_below-names : (names : List (List ℕ)) (n : ℕ) → n ≤ length names → text_below n (word_text names) ≡ spaces (take n names)
unfolding text_below
text_below-names names zero h = refl
text_below-names names (suc k) h =
    ap (λ x. x ++ word_text names k) (text_below-names names k (omega arith))
    ∙ ap (λ x. spaces (take k names) ++ x) (sym (append-nil (word_text names k)))
    ∙ sym (spaces-append (take k names) (unwrap_or (slice_get names k) [] ∷ []))
    ∙ ap spaces (sym (take-name names k (omega arith)))

-- words in front of a closing bracket
pub spaced-more : (w : List ℕ) (ws : List (List ℕ)) (z : List ℕ) → spaced (w ∷ (ws ++ (z ∷ []))) ≡ w ++ 32 ∷ spaced (ws ++ (z ∷ []))
spaced-more w [] z = refl
spaced-more w (v ∷ ws) z = refl

pub spaced-close : (ws : List (List ℕ)) → spaced (ws ++ (codes ")" ∷ [])) ≡ spaces ws ++ codes ")"
spaced-close [] = refl
spaced-close (w ∷ ws) =
    spaced-more w ws (codes ")") ∙ ap (λ t. w ++ 32 ∷ t) (spaced-close ws)
    ∙ sym (append_assoc w (codes " ") (spaces ws ++ codes ")")) ∙ sym (append_assoc (w ++ codes " ") (spaces ws) (codes ")"))
