-- The places of pairs and of edges.
use Rattle.std.proofs.Common.{◌≡◌, ◌≢◌, ℕ, ◌+◌, ◌*◌, ◌/◌, ◌%◌, zero, suc, ◌<◌, ◌≤◌, Bool, true, false, cond, List, [], ◌∷◌, length, get_or, set, replicate, count_by, refl, sym, ◌∙◌, ap, subst, arith, ◌⊎◌, inl, inr}
use Rattle.std.proofs.lemmas.Bool.{cases_lt, cases_eq, lt-ltb, le-ltb, false≢true}
use Rattle.std.proofs.lemmas.List.{get_or-set_same, get_or-set_other, get_or-replicate, length-replicate, get_or_past}
use Rattle.std.proofs.lemmas.List.Sums.{sum_by-set, sum_by-cons}
use Rattle.network_words.specs.Edge.{IsProperPair, IsSamePair}
use Rattle.edge_propagation.specs.Worklist.{Worklist, IsQueued, IsWaiting, IsQuiet, AreEdgeMarks, edge_place}

-- ---- places of edges

pub edge_place-forward : (i j : ℕ) → i < j → edge_place i j ≡ 256 * i + j
edge_place-forward i j h = ap (λ b. cond b (256 * i + j) (256 * j + i)) (lt-ltb i j h)

pub edge_place-backward : (i j : ℕ) → j ≤ i → edge_place i j ≡ 256 * j + i
edge_place-backward i j h = ap (λ b. cond b (256 * i + j) (256 * j + i)) (le-ltb i j h)

pub edge_place-swap : (i j : ℕ) → i ≢ j → edge_place i j ≡ edge_place j i
edge_place-swap i j d = elim (cases_lt i j) [
  | inl h ↦ edge_place-forward i j h ∙ sym (edge_place-backward j i (omega arith))
  | inr h ↦ edge_place-backward i j h ∙ sym (edge_place-forward j i (omega arith))
]

pub edge_place-inside : (n i j : ℕ) → n ≤ 256 → IsProperPair n i j → edge_place i j < 256 * n
edge_place-inside n i j b p = elim (cases_lt i j) [
  | inl h ↦ rw (edge_place-forward i j h) (omega (arith, p.first_below, p.second_below))
  | inr h ↦ rw (edge_place-backward i j h) (omega (arith, p.first_below, p.second_below))
]

-- pairs with the same edge are the same
pub pair-from_place : (n a b i j : ℕ) → n ≤ 256 → IsProperPair n a b → IsProperPair n i j → edge_place a b ≡ edge_place i j → IsSamePair a b i j
pair-from_place n a b i j few p q e =
    let pa = p.first_below in
    let pb = p.second_below in
    let qi = q.first_below in
    let qj = q.second_below in
    elim (cases_lt a b) [
      | inl ab ↦ elim (cases_lt i j) [
        | inl ij ↦ (let s = rw (edge_place-forward a b ab, edge_place-forward i j ij) at e in inl (omega arith, omega arith))
        | inr ji ↦ (let s = rw (edge_place-forward a b ab, edge_place-backward i j ji) at e in inr (omega arith, omega arith))
      ]
      | inr ba ↦ elim (cases_lt i j) [
        | inl ij ↦ (let s = rw (edge_place-backward a b ba, edge_place-forward i j ij) at e in inr (omega arith, omega arith))
        | inr ji ↦ (let s = rw (edge_place-backward a b ba, edge_place-backward i j ji) at e in inl (omega arith, omega arith))
      ]
    ]

pub same-place : (a b i j : ℕ) → i ≢ j → IsSamePair a b i j → edge_place a b ≡ edge_place i j
same-place a b i j d (inl s) = cc (s.0, s.1)
same-place a b i j d (inr s) = cc (s.0, s.1, edge_place-swap i j d)

pub same-cases : (n a b i j : ℕ) → n ≤ 256 → IsProperPair n a b → IsProperPair n i j → IsSamePair a b i j ⊎ ¬ IsSamePair a b i j
same-cases n a b i j few p q = elim (cases_eq (edge_place a b) (edge_place i j)) [
  | inl e ↦ inl (pair-from_place n a b i j few p q e)
  | inr ne ↦ inr (λ s. ne (same-place a b i j q.differ s))
]

-- ---- marks

pub none-set : (n i : ℕ) → get_or (replicate n false) i false ≡ false
none-set n i = elim (cases_lt i n) [
  | inl h ↦ get_or-replicate n i false false h
  | inr h ↦ get_or_past (replicate n false) i false (omega (arith, length-replicate n false))
]

pub count-none : (n : ℕ) → count_by (λ b. b) (replicate n false) ≡ 0
count-none zero = refl
count-none (suc n) = omega (arith, sum_by-cons (λ (b : Bool). cond b 1 0) false (replicate n false), count-none n)

pub count-cleared : (xs : List Bool) (e : ℕ) → e < length xs → get_or xs e false ≡ true → count_by (λ b. b) (set xs e false) + 1 ≡ count_by (λ b. b) xs
count-cleared xs e l h = omega (arith, rw h at (sum_by-set (λ (b : Bool). cond b 1 0) xs e false false l))

-- a mark that is set stays, unless it is the one that is cleared
pub mark-kept : (xs : List Bool) (e d : ℕ) (a : Bool) → get_or xs d false ≡ true → (d ≢ e) ⊎ (a ≡ true) → get_or (set xs e a) d false ≡ true
mark-kept xs e d a h (inl ne) = get_or-set_other xs e d a false ne ∙ h
mark-kept xs e d a h (inr y) = elim (cases_eq d e) [
  | inl same ↦ elim (cases_lt e (length xs)) [
    | inl l ↦ rw same (get_or-set_same xs e a false l ∙ y)
    | inr g ↦ absurd (false≢true (sym (get_or_past xs d false (omega arith)) ∙ h))
  ]
  | inr ne ↦ get_or-set_other xs e d a false ne ∙ h
]

pub IsQueued-swap : (work : Worklist) (i j : ℕ) → i ≢ j → IsQueued work i j → IsQueued work j i
IsQueued-swap work i j d h = subst (λ e. get_or work.queued e false ≡ true) (edge_place-swap i j d) h

pub waiting-pair : (work : Worklist) (i j : ℕ) → IsWaiting work i j → IsProperPair work.nodes i j
waiting-pair work i j w = record { first_below = omega (arith, w.order, w.below); second_below = w.below; differ = λ e. absurd (omega (arith, w.order)) }

-- ---- no mark

pub unmarked : (xs : List Bool) (e : ℕ) → count_by (λ b. b) xs ≡ 0 → ¬ (get_or xs e false ≡ true)
unmarked xs e none at = elim (cases_lt e (length xs)) as (λ _. ⊥) [
  | inl l ↦ absurd (omega (arith, none, count-cleared xs e l at))
  | inr g ↦ false≢true (sym (get_or_past xs e false g) ∙ at)
]

pub count-unmarked : (xs : List Bool) → ((e : ℕ) → ¬ (get_or xs e false ≡ true)) → count_by (λ b. b) xs ≡ 0
count-unmarked [] h = refl
count-unmarked (true ∷ xs) h = absurd (h 0 refl)
count-unmarked (false ∷ xs) h = omega (arith, sum_by-cons (λ (b : Bool). cond b 1 0) false xs, count-unmarked xs (λ e. h (suc e)))

-- where no edge is queued there is none
pub count-quiet : (work : Worklist) → AreEdgeMarks work → IsQuiet work → count_by (λ b. b) work.queued ≡ 0
count-quiet work marks quiet = count-unmarked work.queued (λ e at.
    let p = marks e at in
    let place : edge_place (e / 256) (e % 256) ≡ e = edge_place-forward (e / 256) (e % 256) p.0 ∙ (omega arith) in
    quiet (e / 256) (omega (arith, p.0, p.1)) (e % 256) p.0 p.1 (subst (λ d. get_or work.queued d false ≡ true) (sym place) at))
