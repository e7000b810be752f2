-- How many edges have several base relations, where sets become smaller.
use Rattle.std.proofs.Common.{◌≡◌, ℕ, zero, suc, ◌+◌, ◌<◌, ◌≤◌, cond, List, [], ◌∷◌, length, ap, subst, arith, ◌⊎◌, inl}
use Rattle.std.proofs.Common.{inr}
use Rattle.std.specs.Prelude.{count_ones, nat_lt, slice_index}
use Rattle.std.proofs.lemmas.Bool.{cases_lt, lt-ltb, le-ltb}
use Rattle.std.proofs.lemmas.List.Sums.{sum_by-cons}
use Rattle.calculus_table.specs.Rel.{IsWithin}
use Rattle.network_words.specs.Network.{Refines}
use Rattle.split_search.specs.Ruled.{IsSeveral, IsFirstEdge}
use Rattle.split_search.proofs.Products.{count-le}
use Rattle.split_search.specs.Straight.{several_count}

-- 1 where the set has several base relations, else 0
abbrev several : ℕ → ℕ
several a = cond (nat_lt 1 (count_ones a)) 1 0

several-yes : (a : ℕ) → IsSeveral a → several a ≡ 1
several-yes a h = ap (λ b. cond b 1 0) (lt-ltb 1 (count_ones a) h)

several-no : (a : ℕ) → count_ones a ≤ 1 → several a ≡ 0
several-no a h = ap (λ b. cond b 1 0) (le-ltb 1 (count_ones a) h)

several-le : (a b : ℕ) → IsWithin a b → several a ≤ several b
several-le a b within = elim (cases_lt 1 (count_ones a)) [
  | inl many ↦ omega (arith, several-yes a many, several-yes b (omega (arith, many, count-le a b within)))
  | inr few ↦ omega (arith, several-no a few)
]

several_count-cons : (a : ℕ) (words : List ℕ) → several_count (a ∷ words) ≡ several a + several_count words
several_count-cons a words = sum_by-cons several a words

several_count-le : (xs ys : List ℕ) → length xs ≡ length ys → Refines xs ys → several_count xs ≤ several_count ys
several_count-le [] [] same within = omega arith
several_count-le [] (b ∷ ys) same within = absurd (omega arith)
several_count-le (a ∷ xs) [] same within = absurd (omega arith)
several_count-le (a ∷ xs) (b ∷ ys) same within =
    let rest = several_count-le xs ys (omega arith) (record { each = λ e. within.each (suc e) }) in
    omega (arith, several_count-cons a xs, several_count-cons b ys, several-le a b (within.each 0), rest)

-- an edge that has no longer several counts no longer
pub several_count-less : (xs ys : List ℕ) (e : ℕ) → length xs ≡ length ys → Refines xs ys → e < length ys →
    count_ones (slice_index xs e) ≤ 1 → IsSeveral (slice_index ys e) → several_count xs < several_count ys
several_count-less xs [] e same within below one many = absurd (omega arith)
several_count-less [] (b ∷ ys) e same within below one many = absurd (omega arith)
several_count-less (a ∷ xs) (b ∷ ys) zero same within below one many =
    let rest = several_count-le xs ys (omega arith) (record { each = λ e. within.each (suc e) }) in
    omega (arith, several_count-cons a xs, several_count-cons b ys, several-no a one, several-yes b many, rest)
several_count-less (a ∷ xs) (b ∷ ys) (suc e) same within below one many =
    let more : Refines xs ys = record { each = λ k. within.each (suc k) } in
    let rest = several_count-less xs ys e (omega arith) more (omega arith) one many in
    omega (arith, several_count-cons a xs, several_count-cons b ys, several-le a b (within.each 0), rest)

-- the first edge that has several, or none has
pub first_several : (words : List ℕ) (k : ℕ) → k ≤ length words →
    ((d : ℕ) → d < k → count_ones (slice_index words d) ≤ 1) ⊎ ((e : ℕ) × IsFirstEdge words IsSeveral e)
first_several words zero h = inl (λ d l. absurd (omega arith))
first_several words (suc k) h = elim (first_several words k (omega arith)) [
  | inr found ↦ inr found
  | inl before ↦ elim (cases_lt 1 (count_ones (slice_index words k))) [
    | inl many ↦ inr (
      k,
      record {
        below = omega arith;
        here = many;
        before = λ d l several. omega (arith, before d l, several);
      },
    )
    | inr few ↦ inl (λ d l. elim (cases_lt d k) [
      | inl less ↦ before d less
      | inr up ↦ subst (λ j. count_ones (slice_index words j) ≤ 1) (omega arith) few
    ])
  ]
]
