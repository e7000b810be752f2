-- Numbers in ascending order, each once.
use Rattle.std.proofs.Common.{◌≡◌, ℕ, zero, suc, ◌+◌, ◌<◌, ◌≤◌, List, [], ◌∷◌, length, get_or, refl, sym, ap, ◌∙◌, subst, arith, ◌⊎◌, inl, inr, Ok, Err}
use Rattle.std.specs.Prelude.{Contains, insert}
use Rattle.std.specs.Ordering.{nat_cmp}
use Rattle.std.specs.List.Sorted.{IsStrictlyIncreasing, IsBinarySearchResult}
use Rattle.std.proofs.lemmas.Bool.{cases_lt, cases_eq, lt-ltb, le-ltb, eq-eqb, ne_eqb, cond-true, cond-false}
use Rattle.std.proofs.lemmas.List.{get_or_default}
use Rattle.std.proofs.lemmas.List.Kept.{AllPairs-from_increasing}
use Rattle.std.proofs.lemmas.List.Elements.{Contains-get_or, Contains-append_cases, Contains-append_right}
use Rattle.std.proofs.lemmas.List.Sorted.{searched}
use Rattle.tract_classes.specs.ClassFile.{with_member}

-- ---- elements of a list

-- the place of an element has it
pub at_place : (xs : List ℕ) (x : ℕ) (c : Contains xs x) → get_or xs c.0 0 ≡ x
at_place xs x c = get_or_default xs c.0 0 x c.1 ∙ c.2

pub Contains-at : (xs : List ℕ) (k x : ℕ) → k < length xs → get_or xs k 0 ≡ x → Contains xs x
Contains-at xs k x below e = subst (Contains xs) e (Contains-get_or xs k 0 below)

pub Contains-cons_cases : (y : ℕ) (xs : List ℕ) (x : ℕ) → Contains (y ∷ xs) x → (y ≡ x) ⊎ Contains xs x
Contains-cons_cases y xs x c = elim (Contains-append_cases (y ∷ []) xs x c) [
  | inl h ↦ inl (head h)
  | inr h ↦ inr h
]
  where
    head : Contains (y ∷ []) x → y ≡ x
    head (zero, below, e) = e
    head (suc k, below, e) = absurd (omega arith)

-- ---- numbers in ascending order

module _ (xs : List ℕ) (ascending : IsStrictlyIncreasing xs) where
  pub less_later : (i j : ℕ) → i < j → j < length xs → get_or xs i 0 < get_or xs j 0
  less_later i j l below = AllPairs-from_increasing xs ascending i j 0 l below

  pub rises : (i j : ℕ) → i ≤ j → j < length xs → get_or xs i 0 ≤ get_or xs j 0
  rises i j le below = elim (cases_lt i j) [
    | inl l ↦ omega (arith, less_later i j l below)
    | inr g ↦ (let e : i ≡ j = omega arith in subst (λ k. get_or xs i 0 ≤ get_or xs k 0) e (omega arith))
  ]

  pub earlier : (i j : ℕ) → i < length xs → j < length xs → get_or xs i 0 < get_or xs j 0 → i < j
  earlier i j first second l = elim (cases_lt i j) [
    | inl h ↦ h
    | inr g ↦ absurd (omega (arith, rises j i g first))
  ]

-- ---- a number more

increasing_tail : (b : ℕ) (xs : List ℕ) → IsStrictlyIncreasing (b ∷ xs) → IsStrictlyIncreasing xs
increasing_tail b xs h k l = let e : suc k + 1 ≡ suc (k + 1) = omega arith in subst (λ j. get_or xs k 0 < get_or (b ∷ xs) j 0) e (h (suc k) (omega arith))

with_member-less : (a b : ℕ) (xs : List ℕ) → a < b → with_member a (b ∷ xs) ≡ a ∷ b ∷ xs
with_member-less a b xs l = cond-true _ _ _ (lt-ltb a b l)

with_member-greater : (a b : ℕ) (xs : List ℕ) → b < a → with_member a (b ∷ xs) ≡ b ∷ with_member a xs
with_member-greater a b xs l = cond-false _ _ _ (le-ltb a b (omega arith)) ∙ cond-false _ _ _ (ne_eqb a b (λ e. omega arith))

with_member-equal : (a b : ℕ) (xs : List ℕ) → a ≡ b → with_member a (b ∷ xs) ≡ b ∷ xs
with_member-equal a b xs e = cond-false _ _ _ (le-ltb a b (omega arith)) ∙ cond-true _ _ _ (eq-eqb a b e)

-- the place of a number that isn't there
pub record IsGap (xs : List ℕ) (i a : ℕ) : Type 0 where
  pub within : i ≤ length xs
  pub before : (k : ℕ) → k < i → get_or xs k 0 < a
  pub after : (k : ℕ) → i ≤ k → k < length xs → a < get_or xs k 0

IsGap-tail : (b : ℕ) (xs : List ℕ) (i a : ℕ) → IsGap (b ∷ xs) (suc i) a → IsGap xs i a
IsGap-tail b xs i a g = record {
  within = omega (arith, g.within);
  before = λ k l. g.before (suc k) (omega arith);
  after = λ k l m. g.after (suc k) (omega arith) (omega arith);
}

pub with_member-insert : (a : ℕ) (xs : List ℕ) (i : ℕ) → IsGap xs i a → with_member a xs ≡ insert xs i a
with_member-insert a [] zero g = refl
with_member-insert a [] (suc i) g = absurd (omega (arith, g.within))
with_member-insert a (b ∷ xs) zero g = with_member-less a b xs (g.after 0 (omega arith) (omega arith))
with_member-insert a (b ∷ xs) (suc i) g =
    with_member-greater a b xs (g.before 0 (omega arith)) ∙ ap (λ ys. b ∷ ys) (with_member-insert a xs i (IsGap-tail b xs i a g))

pub with_member-there : (a : ℕ) (xs : List ℕ) → IsStrictlyIncreasing xs → (i : ℕ) → i < length xs → get_or xs i 0 ≡ a → with_member a xs ≡ xs
with_member-there a [] h i below e = absurd (omega arith)
with_member-there a (b ∷ xs) h zero below e = with_member-equal a b xs (sym e)
with_member-there a (b ∷ xs) h (suc i) below e =
    with_member-greater a b xs (omega (arith, e, less_later (b ∷ xs) h 0 (suc i) (omega arith) below))
    ∙ ap (λ ys. b ∷ ys) (with_member-there a xs (increasing_tail b xs h) i (omega arith) e)

-- what a search by halves finds
pub gap_found : (xs : List ℕ) (a i : ℕ) → IsStrictlyIncreasing xs → IsBinarySearchResult (λ y. nat_cmp y a) xs (Err i) → IsGap xs i a
gap_found xs a i h found =
    let s = searched xs a (Err i) found (rises xs h) in record { within = s.0; before = s.1; after = s.2 }

pub place_found : (xs : List ℕ) (a i : ℕ) → IsStrictlyIncreasing xs → IsBinarySearchResult (λ y. nat_cmp y a) xs (Ok i) → (i < length xs) × (get_or xs i 0 ≡ a)
place_found xs a i h found = searched xs a (Ok i) found (rises xs h)

-- a number is in its place or in none
pub not_in_gap : (xs : List ℕ) (i a : ℕ) → IsGap xs i a → Contains xs a → ⊥
not_in_gap xs i a g c = elim (cases_lt c.0 i) [
  | inl l ↦ omega (arith, at_place xs a c, g.before c.0 l)
  | inr ge ↦ omega (arith, at_place xs a c, g.after c.0 ge c.1)
]

-- ---- a number more keeps the order, and adds that number alone

pub increasing_cons : (b : ℕ) (xs : List ℕ) → (0 < length xs → b < get_or xs 0 0) → IsStrictlyIncreasing xs → IsStrictlyIncreasing (b ∷ xs)
increasing_cons b xs first h zero below = first (omega arith)
increasing_cons b xs first h (suc k) below = let e : suc (k + 1) ≡ suc k + 1 = omega arith in subst (λ j. get_or xs k 0 < get_or (b ∷ xs) j 0) e (h k (omega arith))

increasing_head : (b : ℕ) (xs : List ℕ) → IsStrictlyIncreasing (b ∷ xs) → 0 < length xs → b < get_or xs 0 0
increasing_head b xs h l = h 0 (omega arith)

-- the first number of the longer list
with_member-first : (a : ℕ) (xs : List ℕ) → (get_or (with_member a xs) 0 0 ≡ a) ⊎ ((0 < length xs) × (get_or (with_member a xs) 0 0 ≡ get_or xs 0 0))
with_member-first a [] = inl refl
with_member-first a (b ∷ xs) = elim (cases_lt a b) [
  | inl l ↦ inl (ap (λ ys. get_or ys 0 0) (with_member-less a b xs l))
  | inr g ↦ elim (cases_eq a b) [
    | inl e ↦ inr (omega arith, ap (λ ys. get_or ys 0 0) (with_member-equal a b xs e))
    | inr ne ↦ inr (omega arith, ap (λ ys. get_or ys 0 0) (with_member-greater a b xs (omega arith)))
  ]
]

pub with_member-increasing : (a : ℕ) (xs : List ℕ) → IsStrictlyIncreasing xs → IsStrictlyIncreasing (with_member a xs)
with_member-increasing a [] h = increasing_cons a [] (λ l. absurd (omega arith)) h
with_member-increasing a (b ∷ xs) h = elim (cases_lt a b) [
  | inl l ↦ subst IsStrictlyIncreasing (sym (with_member-less a b xs l)) (increasing_cons a (b ∷ xs) (λ _. l) h)
  | inr g ↦ elim (cases_eq a b) [
    | inl e ↦ subst IsStrictlyIncreasing (sym (with_member-equal a b xs e)) h
    | inr ne ↦ (
        let greater : b < a = omega arith in
        let rest : IsStrictlyIncreasing (with_member a xs) = with_member-increasing a xs (increasing_tail b xs h) in
        let first : 0 < length (with_member a xs) → b < get_or (with_member a xs) 0 0 = λ _. elim (with_member-first a xs) [
          | inl e ↦ omega arith
          | inr (some, e) ↦ omega (arith, increasing_head b xs h some)
        ] in
        subst IsStrictlyIncreasing (sym (with_member-greater a b xs greater)) (increasing_cons b (with_member a xs) first rest))
  ]
]

pub Contains-cons : (b : ℕ) (xs : List ℕ) (x : ℕ) → Contains xs x → Contains (b ∷ xs) x
Contains-cons b xs x c = Contains-append_right (b ∷ []) xs x c

pub with_member-cases : (a : ℕ) (xs : List ℕ) (x : ℕ) → Contains (with_member a xs) x → (a ≡ x) ⊎ Contains xs x
with_member-cases a [] x c = Contains-cons_cases a [] x c
with_member-cases a (b ∷ xs) x c = elim (cases_lt a b) [
  | inl l ↦ Contains-cons_cases a (b ∷ xs) x (subst (λ ys. Contains ys x) (with_member-less a b xs l) c)
  | inr g ↦ elim (cases_eq a b) [
    | inl e ↦ inr (subst (λ ys. Contains ys x) (with_member-equal a b xs e) c)
    | inr ne ↦ elim (Contains-cons_cases b (with_member a xs) x (subst (λ ys. Contains ys x) (with_member-greater a b xs (omega arith)) c)) [
      | inl e ↦ inr (Contains-at (b ∷ xs) 0 x (omega arith) e)
      | inr h ↦ elim (with_member-cases a xs x h) [ inl e ↦ inl e | inr k ↦ inr (Contains-cons b xs x k) ]
    ]
  ]
]

pub with_member-keeps : (a : ℕ) (xs : List ℕ) (x : ℕ) → Contains xs x → Contains (with_member a xs) x
with_member-keeps a [] x (k, below, e) = absurd (omega arith)
with_member-keeps a (b ∷ xs) x c = elim (cases_lt a b) [
  | inl l ↦ subst (λ ys. Contains ys x) (sym (with_member-less a b xs l)) (Contains-cons a (b ∷ xs) x c)
  | inr g ↦ elim (cases_eq a b) [
    | inl e ↦ subst (λ ys. Contains ys x) (sym (with_member-equal a b xs e)) c
    | inr ne ↦ subst (λ ys. Contains ys x) (sym (with_member-greater a b xs (omega arith))) (elim (Contains-cons_cases b xs x c) [
      | inl e ↦ Contains-at (b ∷ with_member a xs) 0 x (omega arith) e
      | inr h ↦ Contains-cons b (with_member a xs) x (with_member-keeps a xs x h)
    ])
  ]
]
