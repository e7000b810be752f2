-- Lists by their places: what a write and an addition change, and what holds of each element.
use Rattle.std.proofs.Common.{◌≡◌, ◌≢◌, ℕ, zero, suc, ◌<◌, List, [], ◌∷◌, ◌++◌, length, set, refl, ap, arith, ◌⊎◌, inl, inr, Some}
use Rattle.std.specs.Prelude.{slice_get}
use Rattle.std.specs.List.{All}
use Rattle.std.proofs.lemmas.List.Elements.{All-nil, All-cons, All-head, All-tail}

module _ {A : Type 0} where
  pub get-set : (xs : List A) (k j : ℕ) (v a : A) → slice_get (set xs k v) j ≡ Some a → ((j ≡ k) × (v ≡ a)) ⊎ ((j ≢ k) × (slice_get xs j ≡ Some a))
  get-set [] k j v a e = absurd (cc)
  get-set (x ∷ xs) zero zero v a e = inl (refl, (cc))
  get-set (x ∷ xs) zero (suc j) v a e = inr ((λ h. omega arith), e)
  get-set (x ∷ xs) (suc k) zero v a e = inr ((λ h. omega arith), e)
  get-set (x ∷ xs) (suc k) (suc j) v a e = elim (get-set xs k j v a e) [
    | inl t ↦ inl (ap suc t.0, t.1)
    | inr t ↦ (let n = t.0 in inr ((λ h. n (omega arith)), t.1))
  ]

  pub get-set_same : (xs : List A) (k : ℕ) (v : A) → k < length xs → slice_get (set xs k v) k ≡ Some v
  get-set_same [] k v h = absurd (omega arith)
  get-set_same (x ∷ xs) zero v h = refl
  get-set_same (x ∷ xs) (suc k) v h = get-set_same xs k v (omega arith)

  pub get-set_other : (xs : List A) (k j : ℕ) (v : A) → j ≢ k → slice_get (set xs k v) j ≡ slice_get xs j
  get-set_other [] k j v n = refl
  get-set_other (x ∷ xs) zero zero v n = absurd (n refl)
  get-set_other (x ∷ xs) zero (suc j) v n = refl
  get-set_other (x ∷ xs) (suc k) zero v n = refl
  get-set_other (x ∷ xs) (suc k) (suc j) v n = get-set_other xs k j v (λ e. n (ap suc e))

  pub get-last : (xs : List A) (j : ℕ) (v a : A) → slice_get (xs ++ v ∷ []) j ≡ Some a → (slice_get xs j ≡ Some a) ⊎ ((j ≡ length xs) × (v ≡ a))
  get-last [] zero v a e = inr (refl, (cc))
  get-last [] (suc j) v a e = absurd (cc)
  get-last (x ∷ xs) zero v a e = inl e
  get-last (x ∷ xs) (suc j) v a e = elim (get-last xs j v a e) [
    | inl h ↦ inl h
    | inr t ↦ inr (ap suc t.0, t.1)
  ]

  pub get-more : (xs ys : List A) (j : ℕ) (a : A) → slice_get xs j ≡ Some a → slice_get (xs ++ ys) j ≡ Some a
  get-more [] ys j a e = absurd (cc)
  get-more (x ∷ xs) ys zero a e = e
  get-more (x ∷ xs) ys (suc j) a e = get-more xs ys j a e

  -- ---- a property of each element

  pub All-left : (P : A → Type 0) (xs ys : List A) → All P (xs ++ ys) → All P xs
  All-left P [] ys h = All-nil P
  All-left P (x ∷ xs) ys h = All-cons P x xs (All-head P x (xs ++ ys) h) (All-left P xs ys (All-tail P x (xs ++ ys) h))

  pub All-right : (P : A → Type 0) (xs ys : List A) → All P (xs ++ ys) → All P ys
  All-right P [] ys h = h
  All-right P (x ∷ xs) ys h = All-right P xs ys (All-tail P x (xs ++ ys) h)

  pub All-last : (P : A → Type 0) (xs : List A) (x : A) → All P (xs ++ x ∷ []) → P x
  All-last P xs x h = All-head P x [] (All-right P xs (x ∷ []) h)
