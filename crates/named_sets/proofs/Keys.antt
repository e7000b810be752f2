-- Names as numbers: no two names have one key, and the keys of names one after another.
use Rattle.std.proofs.Common.{◌≡◌, ◌≢◌, ℕ, zero, suc, ◌<◌, List, [], ◌∷◌, length, replicate, slice_index, slice_get, set, Some, inl, inr, refl, sym, ◌∙◌, ap, subst, arith}
use Rattle.std.proofs.lemmas.Bool.{cases_eq}
use Rattle.std.proofs.lemmas.List.{get_or-set_same, get_or-set_other}
use Rattle.named_sets.specs.Keys.{key_of, IsKeyOf, IsKeyAt, AreKeys}

key_of-some : (name : List ℕ) → 0 < key_of name
key_of-some [] = omega arith
key_of-some (b ∷ bs) = omega (arith, key_of-some bs)

key_of-injective : (xs ys : List ℕ) → ((i : ℕ) → slice_index xs i < 256) → ((i : ℕ) → slice_index ys i < 256) → key_of xs ≡ key_of ys → xs ≡ ys
key_of-injective [] [] h k e = refl
key_of-injective [] (y ∷ ys) h k e = absurd (omega (arith, e, key_of-some ys))
key_of-injective (x ∷ xs) [] h k e = absurd (omega (arith, e, key_of-some xs))
key_of-injective (x ∷ xs) (y ∷ ys) h k e =
    let first : x ≡ y = omega (arith, e, h 0, k 0) in
    let rest : key_of xs ≡ key_of ys = omega (arith, e, h 0, k 0) in
    ap (λ b. b ∷ xs) first ∙ ap (λ bs. y ∷ bs) (key_of-injective xs ys (λ i. h (suc i)) (λ i. k (suc i)) rest)

-- names with one key are the same
pub IsKeyOf-same : (key : ℕ) (xs ys : List ℕ) → IsKeyOf key xs → IsKeyOf key ys → xs ≡ ys
IsKeyOf-same key xs ys h k = key_of-injective xs ys h.bytes k.bytes (sym h.value ∙ k.value)

-- where the key of a name stands, the name stands
pub name_of_key : (names : List (List ℕ)) (keys : List ℕ) (place key : ℕ) (name : List ℕ) → AreKeys names keys → slice_index keys place ≡ key → key ≢ 0 → IsKeyOf key name → slice_get names place ≡ Some name
name_of_key names keys place key name are stands some is =
    let at = are place (λ none. some (sym stands ∙ none)) in
    at.there ∙ ap Some (IsKeyOf-same key at.name name (subst (λ k. IsKeyOf k at.name) stands at.is) is)

-- no key
slice_index-zeros : (n i : ℕ) → slice_index (replicate n 0) i ≡ 0
slice_index-zeros zero i = refl
slice_index-zeros (suc n) zero = refl
slice_index-zeros (suc n) (suc i) = slice_index-zeros n i

pub AreKeys-none : (names : List (List ℕ)) (n : ℕ) → AreKeys names (replicate n 0)
AreKeys-none names n r some = absurd (some (slice_index-zeros n r))

-- one key more
pub AreKeys-set : (names : List (List ℕ)) (keys : List ℕ) (place key : ℕ) → place < length keys → AreKeys names keys → (key ≢ 0 → IsKeyAt names place key) → AreKeys names (set keys place key)
AreKeys-set names keys place key below are new r some =
    elim (cases_eq r place) [
      | inl here ↦
          let at : slice_index (set keys place key) r ≡ key = ap (λ i. slice_index (set keys place key) i) here ∙ get_or-set_same keys place key 0 below in
          subst (λ i. IsKeyAt names i (slice_index (set keys place key) r)) (sym here) (subst (IsKeyAt names place) (sym at) (new (λ none. some (at ∙ none))))
      | inr other ↦
          let at : slice_index (set keys place key) r ≡ slice_index keys r = get_or-set_other keys place r key 0 other in
          subst (IsKeyAt names r) (sym at) (are r (λ none. some (at ∙ none)))
    ]
