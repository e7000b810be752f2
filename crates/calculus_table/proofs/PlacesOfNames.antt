-- Names as lists of bytes, and the places at which they stand.
use Rattle.std.proofs.Common.{◌≡◌, ◌≢◌, ℕ, zero, suc, ◌<◌, Bool, true, false, cond, List, [], ◌∷◌, length, map, get_or, slice_get, Option, Some, None, refl, sym, ◌∙◌, ap, arith, String, Global, option_map}
use Rattle.std.specs.String.{string_bytes}
use Rattle.std.specs.Prelude.{MatchOption, IfSome}
use Rattle.std.specs.Str.{bytes_eq}
use Rattle.std.proofs.lemmas.Option.{slice_get-map, slice_get_read, slice_get_within, same_Some}
use Rattle.std.proofs.lemmas.Slice.Eq.{bytes_eq-Decides}
use Rattle.std.proofs.lemmas.Bool.{false≢true, false_from_ne_true}
use Rattle.calculus_table.specs.Names.{place_of}
use Rattle.calculus_table.specs.Calculus.{AreDistinct}

-- the name at a place that was read
pub name_read : (names : List (String Global)) (k : ℕ) (x : String Global) → k < length names → x ≡ get_or names k x → slice_get (map string_bytes names) k ≡ Some (string_bytes x)
name_read names k x below h = slice_get-map string_bytes names k ∙ ap (option_map string_bytes) (slice_get_read names (length names) k x refl below h)

-- names that compare as equal are equal, and names that don't are not
pub equal_names : (xs ys : List ℕ) (r : Bool) → r ≡ bytes_eq xs ys → r ≡ true → xs ≡ ys
equal_names xs ys r e t = (bytes_eq-Decides xs ys).0 (sym e ∙ t)

pub other_names : (xs ys : List ℕ) (r : Bool) → r ≡ bytes_eq xs ys → r ≡ false → xs ≡ ys → ⊥
other_names xs ys r e f same = false≢true (sym f ∙ e ∙ (bytes_eq-Decides xs ys).1 same)

-- ---- the place of a name

-- the first place at which a name stands
pub place_of-first : (names : List (List ℕ)) (name : List ℕ) (r : ℕ) → ((i : ℕ) → i < r → slice_get names i ≢ Some name) → slice_get names r ≡ Some name → place_of name names ≡ Some r
place_of-first [] name r before h = cc
place_of-first (x ∷ xs) name zero before h =
    let e : bytes_eq x name ≡ true = (bytes_eq-Decides x name).1 (same_Some x name h) in
    rw e refl
place_of-first (x ∷ xs) name (suc r) before h =
    let later : place_of name xs ≡ Some r = place_of-first xs name r (λ i less. before (suc i) (omega arith)) h in
    let e : bytes_eq x name ≡ false = false_from_ne_true (bytes_eq x name) (λ t. before 0 (omega arith) (ap Some ((bytes_eq-Decides x name).0 t))) in
    ap (λ b. cond b (Some 0) (option_map suc (place_of name xs))) e ∙ ap (option_map suc) later

-- a name that stands at no place
pub place_of-none : (names : List (List ℕ)) (name : List ℕ) → ((r : ℕ) → slice_get names r ≢ Some name) → place_of name names ≡ None
place_of-none [] name h = refl
place_of-none (x ∷ xs) name h =
    let later : place_of name xs ≡ None = place_of-none xs name (λ r. h (suc r)) in
    let e : bytes_eq x name ≡ false = false_from_ne_true (bytes_eq x name) (λ t. h 0 (ap Some ((bytes_eq-Decides x name).0 t))) in
    ap (λ b. cond b (Some 0) (option_map suc (place_of name xs))) e ∙ ap (option_map suc) later

-- a name among names that differ
pub place_of-found : (names : List (List ℕ)) (name : List ℕ) (r : ℕ) → AreDistinct names → slice_get names r ≡ Some name → place_of name names ≡ Some r
place_of-found names name r d h =
    place_of-first names name r (λ i less same. d i r less (slice_get_within names r name h) (same ∙ sym h)) h

-- what a search finds is the place
pub place_of-find : (names : List (List ℕ)) (name : List ℕ) (n : ℕ) (found : Option ℕ) → AreDistinct names →
    MatchOption found ((r : ℕ) → slice_get names r ≢ Some name) (λ r. (r < n) × (slice_get names r ≡ Some name)) → found ≡ place_of name names
place_of-find names name n None d h = sym (place_of-none names name h)
place_of-find names name n (Some r) d h = sym (place_of-found names name r d h.1)

-- a place is below the number of names
place_below : (b : Bool) (o : Option ℕ) (n : ℕ) → IfSome o (λ r. r < n) → IfSome (cond b (Some 0) (option_map suc o)) (λ r. r < suc n)
place_below true o n h = omega arith
place_below false (Some r) n h = omega (arith, h)
place_below false None n h = tt

pub place_of-below : (names : List (List ℕ)) (name : List ℕ) → IfSome (place_of name names) (λ r. r < length names)
place_of-below [] name = tt
place_of-below (x ∷ xs) name = place_below (bytes_eq x name) (place_of name xs) (length xs) (place_of-below xs name)
