-- The members of a union over the elements of a list.
use Rattle.std.proofs.Common.{◌≡◌, ℕ, Bool, true, false, cond, List, [], ◌∷◌, refl, ◌⊎◌, inl, inr}
use Rattle.std.specs.List.{filter, list_all, list_any}
use Rattle.std.proofs.lemmas.Bool.{and_parts, or_cases, false≢true}
use Rattle.calculus_table.specs.Rel.{Has}
use Rattle.calculus_table.proofs.Sets.{Has-union, Has-union_l, Has-union_r, not_Has-empty}
use Rattle.calculus_builtin.specs.Allen.{union_of}

-- x is an element of the list
abbrev pub Listed : {X : Type 0} → X → List X → Type 0
Listed x [] = ⊥
Listed x (y ∷ ys) = (x ≡ y) ⊎ Listed x ys

-- some element's set has t
pub record InUnionOf {X : Type 0} (f : X → ℕ) (xs : List X) (t : ℕ) : Type 0 where
  pub element : X
  pub listed : Listed element xs
  pub member : Has (f element) t

pub union_of-member : {X : Type 0} (f : X → ℕ) (xs : List X) (t : ℕ) → Has (union_of f xs) t → InUnionOf f xs t
union_of-member f [] t h = absurd (not_Has-empty t h)
union_of-member f (x ∷ xs) t h = elim (Has-union (f x) (union_of f xs) t h) [
  | inl here ↦ record { element = x; listed = inl refl; member = here }
  | inr there ↦ (let i : InUnionOf f xs t = union_of-member f xs t there in record { element = i.element; listed = inr i.listed; member = i.member })
]

pub Has-union_of : {X : Type 0} (f : X → ℕ) (xs : List X) (t : ℕ) (x : X) → Listed x xs → Has (f x) t → Has (union_of f xs) t
Has-union_of f [] t x l h = absurd l
Has-union_of f (y ∷ ys) t x l h = elim l [
  | inl e ↦ Has-union_l (f y) (union_of f ys) t (rw e at h)
  | inr there ↦ Has-union_r (f y) (union_of f ys) t (Has-union_of f ys t x there h)
]

-- ---- the elements that pass a test

filter-cases : {X : Type 0} (b : Bool) (x y : X) (ys : List X) → Listed x (cond b (y ∷ ys) ys) → ((x ≡ y) × (b ≡ true)) ⊎ Listed x ys
filter-cases true x y ys l = elim l [ inl e ↦ inl (e, refl) | inr there ↦ inr there ]
filter-cases false x y ys l = inr l

cond-here : {X : Type 0} (b : Bool) (x y : X) (ys : List X) → x ≡ y → b ≡ true → Listed x (cond b (y ∷ ys) ys)
cond-here true x y ys e t = inl e
cond-here false x y ys e t = absurd (false≢true t)

cond-there : {X : Type 0} (b : Bool) (x y : X) (ys : List X) → Listed x ys → Listed x (cond b (y ∷ ys) ys)
cond-there true x y ys l = inr l
cond-there false x y ys l = l

pub filter-listed : {X : Type 0} (p : X → Bool) (xs : List X) (x : X) → Listed x (filter p xs) → Listed x xs × (p x ≡ true)
filter-listed p [] x l = absurd l
filter-listed p (y ∷ ys) x l = elim (filter-cases (p y) x y (filter p ys) l) [
  | inl here ↦ (inl here.0, rw here.0 here.1)
  | inr there ↦ (let i = filter-listed p ys x there in (inr i.0, i.1))
]

pub Listed-filter : {X : Type 0} (p : X → Bool) (xs : List X) (x : X) → Listed x xs → p x ≡ true → Listed x (filter p xs)
Listed-filter p [] x l t = absurd l
Listed-filter p (y ∷ ys) x l t = elim l [
  | inl e ↦ cond-here (p y) x y (filter p ys) e (rw e at t)
  | inr there ↦ cond-there (p y) x y (filter p ys) (Listed-filter p ys x there t)
]

-- ---- tests of a list that compute

pub listed-passes : {X : Type 0} (p : X → Bool) (xs : List X) (x : X) → list_all p xs ≡ true → Listed x xs → p x ≡ true
listed-passes p [] x e l = absurd l
listed-passes p (y ∷ ys) x e l =
    let parts = and_parts (p y) (list_all p ys) e in
    elim l [ inl same ↦ rw same parts.0 | inr there ↦ listed-passes p ys x parts.1 there ]

pub Listed-from_test : {X : Type 0} (p : X → Bool) (x : X) → ((y : X) → p y ≡ true → x ≡ y) → (xs : List X) → list_any p xs ≡ true → Listed x xs
Listed-from_test p x same [] e = absurd (false≢true e)
Listed-from_test p x same (y ∷ ys) e = elim (or_cases (p y) (list_any p ys) e) [
  | inl here ↦ inl (same y here)
  | inr there ↦ inr (Listed-from_test p x same ys there)
]
