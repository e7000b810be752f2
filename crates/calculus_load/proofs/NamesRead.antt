-- Names that are read one after another.
use Rattle.std.proofs.Common.{◌≡◌, ℕ, zero, suc, ◌+◌, ◌<◌, ◌≤◌, ◌⊎◌, inl, inr, Bool, true, false, cond, ◌||◌, List, [], ◌∷◌, ◌++◌, length, map, take, drop, get_or, slice_get, Some, None, bytes_eq, refl, sym, ap, ◌∙◌, subst, arith, append_assoc}
use Rattle.std.specs.List.{list_any}
use Rattle.std.proofs.lemmas.List.{drop_more, length-map, length-take, length-append, map_push, take_more}
use Rattle.std.proofs.lemmas.Bool.{cases_lt, true≢false}
use Rattle.std.proofs.lemmas.Option.{same_Some}
use Rattle.std.proofs.lemmas.Slice.Eq.{bytes_eq-Decides}
use Rattle.calculus_table.specs.Calculus.{AreDistinct}
use Rattle.calculus_load.specs.Names.{repeat_after}

any-map : {A : Type 0} (v : A → List ℕ) (test : List ℕ → Bool) (xs : List A) → list_any test (map v xs) ≡ list_any (λ x. test (v x)) xs
any-map v test [] = refl
any-map v test (x ∷ xs) = ap (λ b. test (v x) || b) (any-map v test xs)

-- a name that stands before it too, or not
repeat_after-next : {A : Type 0} (v : A → List ℕ) (xs : List A) (k : ℕ) (d : A) (c : Bool) → k < length xs
    → list_any (λ o. bytes_eq (v (get_or xs k d)) (v o)) (take k xs) ≡ c
    → repeat_after (map v (take k xs)) (map v (drop k xs))
    ≡ cond c (Some (length (map v (take k xs)))) (repeat_after (map v (take k xs) ++ (v (get_or xs k d) ∷ [])) (map v (drop (k + 1) xs)))
repeat_after-next v xs k d c below found =
    ap (λ ys. repeat_after (map v (take k xs)) (map v ys)) (drop_more xs k d below)
    ∙ ap (λ b. cond b (Some (length (map v (take k xs)))) (repeat_after (map v (take k xs) ++ (v (get_or xs k d) ∷ [])) (map v (drop (k + 1) xs))))
    (any-map v (bytes_eq (v (get_or xs k d))) (take k xs) ∙ found)

pub repeat_after-hit : {A : Type 0} (v : A → List ℕ) (xs : List A) (k : ℕ) (d : A) → k < length xs
    → list_any (λ o. bytes_eq (v (get_or xs k d)) (v o)) (take k xs) ≡ true
    → repeat_after (map v (take k xs)) (map v (drop k xs)) ≡ Some k
repeat_after-hit v xs k d below found =
    repeat_after-next v xs k d true below found
    ∙ ap Some (length-map (take k xs) v ∙ omega (arith, length-take k xs))

map-take_more : {A : Type 0} (v : A → List ℕ) (xs : List A) (k : ℕ) (d : A) → k < length xs → map v (take k xs) ++ (v (get_or xs k d) ∷ []) ≡ map v (take (k + 1) xs)
map-take_more v xs k d below = sym (map_push v (take k xs) (get_or xs k d)) ∙ ap (map v) (sym (take_more xs k d below))

pub repeat_after-miss : {A : Type 0} (v : A → List ℕ) (xs : List A) (k : ℕ) (d : A) → k < length xs
    → list_any (λ o. bytes_eq (v (get_or xs k d)) (v o)) (take k xs) ≡ false
    → repeat_after (map v (take k xs)) (map v (drop k xs)) ≡ repeat_after (map v (take (k + 1) xs)) (map v (drop (k + 1) xs))
repeat_after-miss v xs k d below found =
    repeat_after-next v xs k d false below found
    ∙ ap (λ ys. repeat_after ys (map v (drop (k + 1) xs))) (map-take_more v xs k d below)

-- ---- names of which none occurs twice

any-hit : (x : List ℕ) (ys : List (List ℕ)) (j : ℕ) → slice_get ys j ≡ Some x → list_any (bytes_eq x) ys ≡ true
any-hit x [] j h = cc
any-hit x (y ∷ ys) zero h = ap (λ b. b || list_any (bytes_eq x) ys) ((bytes_eq-Decides x y).1 (sym (same_Some y x h)))
any-hit x (y ∷ ys) (suc j) h = or_true (bytes_eq x y) (list_any (bytes_eq x) ys) (any-hit x ys j h)
  where
    or_true : (a b : Bool) → b ≡ true → (a || b) ≡ true
    or_true true b e = refl
    or_true false b e = e

get-front : (xs ys : List (List ℕ)) (j : ℕ) → j < length xs → slice_get (xs ++ ys) j ≡ slice_get xs j
get-front [] ys j h = absurd (omega arith)
get-front (x ∷ xs) ys zero h = refl
get-front (x ∷ xs) ys (suc j) h = get-front xs ys j (omega arith)

get-last : (xs ys : List (List ℕ)) (x : List ℕ) (k : ℕ) → k ≡ length xs → slice_get (xs ++ x ∷ ys) k ≡ Some x
get-last [] ys x k h = ap (λ m. slice_get (x ∷ ys) m) h
get-last (y ∷ xs) ys x zero h = absurd (omega arith)
get-last (y ∷ xs) ys x (suc k) h = get-last xs ys x k (omega arith)

-- of names after others, none occurs before
unrepeated : (before names : List (List ℕ)) → repeat_after before names ≡ None → (j k : ℕ) → j < k → length before ≤ k → k < length (before ++ names) → slice_get (before ++ names) j ≡ slice_get (before ++ names) k → ⊥
unrepeated before [] h j k less from below same = absurd (omega (arith, length-append before (let e : List (List ℕ) = [] in e)))
unrepeated before (x ∷ xs) h j k less from below same =
    let whole : (before ++ (x ∷ [])) ++ xs ≡ before ++ x ∷ xs = append_assoc before (x ∷ []) xs in
    let more = length-append before (x ∷ []) in
    by (list_any (bytes_eq x) before) refl h (cases_lt k (suc (length before)))
    (λ none later. unrepeated (before ++ (x ∷ [])) xs none j k less (omega (arith, more)) (subst (λ ns. k < length ns) (sym whole) below)
    (ap (λ ns. slice_get ns j) whole ∙ same ∙ ap (λ ns. slice_get ns k) (sym whole)))
  where
    by : (c : Bool) → list_any (bytes_eq x) before ≡ c → cond c (Some (length before)) (repeat_after (before ++ (x ∷ [])) xs) ≡ None → (k < suc (length before)) ⊎ (suc (length before) ≤ k)
        → (repeat_after (before ++ (x ∷ [])) xs ≡ None → suc (length before) ≤ k → ⊥) → ⊥
    by true any none at further = cc
    by false any none (inl here) further =
        let e : k ≡ length before = omega arith in
        true≢false (sym (any-hit x before j (sym (get-front before (x ∷ xs) j (omega arith)) ∙ same ∙ get-last before xs x k e)) ∙ any)
    by false any none (inr later) further = further none later

pub repeat_after-distinct : (names : List (List ℕ)) → repeat_after [] names ≡ None → AreDistinct names
repeat_after-distinct names h j k less below same = unrepeated [] names h j k less (omega arith) below same
