-- The names of a calculus that are written are found again.
use Rattle.std.proofs.Common.{◌≡◌, ℕ, zero, suc, ◌+◌, ◌<◌, ◌≤◌, Bool, true, false, cond, ◌||◌, List, [], ◌∷◌, ◌++◌, length, map, take, drop, get_or, Some, None, bytes_eq, refl, sym, ap, ◌∙◌, arith, add-one}
use Rattle.std.specs.List.{list_any, list_all}
use Rattle.std.proofs.lemmas.List.{take_more, drop_all, take_all, get_or-take, length-take, map-id}
use Rattle.std.proofs.lemmas.Option.{unwrap_or-slice_get, slice_get-get_or}
use Rattle.std.proofs.lemmas.Slice.Eq.{bytes_eq-Decides}
use Rattle.std.proofs.lemmas.Bool.{and_parts, le-ltb}
use Rattle.qsr_lex.specs.Names.{is_name}
use Rattle.calculus_table.specs.Calculus.{NamedAlgebra, IsNamedCalculus}
use Rattle.calculus_table.specs.declared.TheConstants.{MAX_BASES}
use Rattle.calculus_table.specs.Names.{place_of}
use Rattle.calculus_table.proofs.PlacesOfNames.{place_of-found}
use Rattle.calculus_load.specs.Names.{repeat_after, unless_repeated, allowed_names}
use Rattle.calculus_load.specs.TableText.{base_name}
use Rattle.calculus_load.specs.declared.fault.LoadFault.TheVariants.{TooMany}
use Rattle.std.proofs.Common.{Ok, Err}
use Rattle.calculus_load.proofs.NamesRead.{repeat_after-miss}
use Rattle.calculus_load.proofs.PrintedTable.{listed}

-- the names of a calculus are words that may name something
pub record HasNames (c : NamedAlgebra) : Type 0 where
  pub lawful : IsNamedCalculus c
  pub names : list_all is_name c.names ≡ true

pub size-is : (c : NamedAlgebra) → HasNames c → length c.names ≡ c.algebra.size
size-is c h = h.lawful.one_each

name-is : (c : NamedAlgebra) (r : ℕ) → base_name c r ≡ get_or c.names r []
name-is c r = unwrap_or-slice_get c.names r []

each-name : (names : List (List ℕ)) (r : ℕ) → list_all is_name names ≡ true → r < length names → is_name (get_or names r []) ≡ true
each-name [] r h below = absurd (omega arith)
each-name (x ∷ xs) zero h below = (and_parts (is_name x) (list_all is_name xs) h).0
each-name (x ∷ xs) (suc r) h below = each-name xs r (and_parts (is_name x) (list_all is_name xs) h).1 (omega arith)

pub base_name-is_name : (c : NamedAlgebra) (r : ℕ) → HasNames c → r < c.algebra.size → is_name (base_name c r) ≡ true
base_name-is_name c r h below = ap is_name (name-is c r) ∙ each-name c.names r h.names (omega (arith, size-is c h))

listed-take : (c : NamedAlgebra) (k : ℕ) → k ≤ length c.names → listed k (base_name c) ≡ take k c.names
unfolding listed
listed-take c zero h = refl
listed-take c (suc k) h =
    ap (λ xs. xs ++ (base_name c k ∷ [])) (listed-take c k (omega arith)) ∙ ap (λ x. take k c.names ++ (x ∷ [])) (name-is c k)
    ∙ sym (take_more c.names k [] (omega arith)) ∙ ap (λ m. take m c.names) (add-one k)

pub listed-names : (c : NamedAlgebra) → HasNames c → listed c.algebra.size (base_name c) ≡ c.names
listed-names c h = listed-take c c.algebra.size (omega (arith, size-is c h)) ∙ take_all c.algebra.size c.names (omega (arith, size-is c h))

not_true : (b : Bool) → (b ≡ true → ⊥) → b ≡ false
not_true true h = absurd (h refl)
not_true false h = refl

same-bytes : (x y : List ℕ) → x ≡ y → bytes_eq x y ≡ true
same-bytes x y h = (bytes_eq-Decides x y).1 h

other-bytes : (x y : List ℕ) → (x ≡ y → ⊥) → bytes_eq x y ≡ false
other-bytes x y h = not_true (bytes_eq x y) (λ e. h ((bytes_eq-Decides x y).0 e))

distinct-at : (c : NamedAlgebra) → HasNames c → (j k : ℕ) → j < k → k < length c.names → get_or c.names j [] ≡ get_or c.names k [] → ⊥
distinct-at c h j k less below same =
    h.lawful.distinct j k less below (slice_get-get_or c.names j [] (omega arith) ∙ ap Some same ∙ sym (slice_get-get_or c.names k [] below))

pub place_of-name : (c : NamedAlgebra) (r : ℕ) → HasNames c → r < c.algebra.size → place_of (base_name c r) c.names ≡ Some r
place_of-name c r h small =
    place_of-found c.names (base_name c r) r h.lawful.distinct (slice_get-get_or c.names r [] (omega (arith, size-is c h)) ∙ ap Some (sym (name-is c r)))

-- no name stands twice
any-none : (x : List ℕ) (ys : List (List ℕ)) → ((j : ℕ) → j < length ys → get_or ys j [] ≡ x → ⊥) → list_any (λ o. bytes_eq x o) ys ≡ false
any-none x [] h = refl
any-none x (y ∷ ys) h =
    ap (λ b. b || list_any (λ o. bytes_eq x o) ys) (other-bytes x y (λ e. h 0 (omega arith) (sym e))) ∙ any-none x ys (λ j b. h (suc j) (omega arith))

repeat-from : (c : NamedAlgebra) (m k : ℕ) → HasNames c → k + m ≡ length c.names → repeat_after (map (λ x. x) (take k c.names)) (map (λ x. x) (drop k c.names)) ≡ None
repeat-from c zero k h e = ap (λ ys. repeat_after (map (λ x. x) (take k c.names)) (map (λ x. x) ys)) (drop_all k c.names (omega arith))
repeat-from c (suc m) k h e =
    let below : k < length c.names = omega arith in
    repeat_after-miss (λ x. x) c.names k [] below
    (any-none (get_or c.names k []) (take k c.names) (λ j b same.
    let less : j < k = omega (arith, length-take k c.names) in
    distinct-at c h j k less below (sym (get_or-take k c.names j [] less) ∙ same)))
    ∙ repeat-from c m (k + 1) h (omega arith)

pub allowed_names-again : (c : NamedAlgebra) (line : ℕ) → HasNames c → allowed_names line c.names ≡ Ok c.names
allowed_names-again c line h =
    ap (λ b. cond b (Err (TooMany line)) (unless_repeated c.names (repeat_after [] c.names))) (le-ltb MAX_BASES (length c.names) (omega (arith, size-is c h, h.lawful.lawful.table.bounded)))
    ∙ ap (unless_repeated c.names) (ap (repeat_after []) (sym (map-id c.names)) ∙ repeat-from c (length c.names) 0 h (omega arith))
