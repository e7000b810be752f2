-- Networks that are refined: their sums fall, they stay networks, and by what is lost and kept they have the same closure.
use Rattle.std.proofs.Common.{◌≡◌, ◌≢◌, ℕ, suc, ◌+◌, ◌<◌, ◌≤◌, true, false, cond, List, [], ◌∷◌, length, refl, sym, ◌∙◌, ap, subst, arith, inl, inr, sum}
use Rattle.std.specs.Prelude.{bit_and, slice_index, slice_set, nat_lt}
use Rattle.std.proofs.lemmas.Bool.{cases_lt}
use Rattle.std.proofs.lemmas.List.{get_or-set_other}
use Rattle.std.proofs.lemmas.List.Sums.{sum_by-cons}
use Rattle.calculus_table.specs.Rel.{IsWithin}
use Rattle.calculus_table.specs.Algebra.{Algebra}
use Rattle.calculus_table.specs.Composition.{full_of, composition, converse}
use Rattle.calculus_table.specs.Calculus.{IsCalculus}
use Rattle.calculus_table.proofs.Sets.{IsWithin-le, IsWithin-trans, IsWithin-meet_r, within-meet}
use Rattle.calculus_table.proofs.Compositions.{composition-within, converse-mono, converse-composition}
use Rattle.network_words.specs.Edge.{edge_count, edge_at, edge_between, IsSamePair, IsProperPair, IsProperTriple}
use Rattle.network_words.specs.Network.{IsNetwork, Refines, relation_between, narrowed_at}
use Rattle.network_words.specs.Closure.{IsClosedAt, IsPairClosed, IsRangeClosed, IsClosed, KeepsClosed, IsClosure}
use Rattle.network_words.proofs.Edges.{edge_at-lt, edge_between-forward, edge_between-backward}
use Rattle.network_words.proofs.Pairs.{pair-outer, pair-first, pair-second, pair-from_edge}
use Rattle.network_words.proofs.Networks.{Refines-refl, Refines-trans, narrow-keeps, narrowed_at-within, length-narrowed_at, relation_between-forward, relation_between-backward, relation_between-converse, relation_between-narrowed_at, IsClosed-ordered}

-- ---- sums

sum-cons : (x : ℕ) (xs : List ℕ) → sum (x ∷ xs) ≡ x + sum xs
sum-cons x xs = sum_by-cons (λ (n : ℕ). n) x xs

Refines-tail : (x y : ℕ) (xs ys : List ℕ) → Refines (x ∷ xs) (y ∷ ys) → Refines xs ys
Refines-tail x y xs ys w = record { each = λ e. w.each (suc e) }

Refines-head : (x y : ℕ) (xs ys : List ℕ) → Refines (x ∷ xs) (y ∷ ys) → x ≤ y
Refines-head x y xs ys w = IsWithin-le x y (w.each 0)

pub sum-refines : (xs ys : List ℕ) → length xs ≡ length ys → Refines xs ys → sum xs ≤ sum ys
sum-refines [] [] l w = omega arith
sum-refines [] (y ∷ ys) l w = omega arith
sum-refines (x ∷ xs) [] l w = absurd (omega arith)
sum-refines (x ∷ xs) (y ∷ ys) l w =
    omega (arith, sum-cons x xs, sum-cons y ys, Refines-head x y xs ys w, sum-refines xs ys (omega arith) (Refines-tail x y xs ys w))

-- a refinement with the same sum is the same
pub sum-same : (xs ys : List ℕ) → length xs ≡ length ys → Refines xs ys → sum ys ≤ sum xs → xs ≡ ys
sum-same [] [] l w h = refl
sum-same [] (y ∷ ys) l w h = absurd (omega arith)
sum-same (x ∷ xs) [] l w h = absurd (omega arith)
sum-same (x ∷ xs) (y ∷ ys) l w h =
    let r = Refines-tail x y xs ys w in
    let f : x ≤ y = Refines-head x y xs ys w in
    let s : sum xs ≤ sum ys = sum-refines xs ys (omega arith) r in
    let a = sum-cons x xs in
    let b = sum-cons y ys in
    let e : x ≡ y = omega arith in
    let es : xs ≡ ys = sum-same xs ys (omega arith) r (omega arith) in
    cc

pub sum-smaller : (xs ys : List ℕ) → length xs ≡ length ys → Refines xs ys → ¬ (xs ≡ ys) → sum xs < sum ys
sum-smaller xs ys l w ne = elim (cases_lt (sum xs) (sum ys)) [
  | inl h ↦ h
  | inr h ↦ absurd (ne (sum-same xs ys l w h))
]

-- ---- networks that refine one another

pub IsNetwork-refines : (m : Algebra) (n : ℕ) (xs ys : List ℕ) → IsNetwork m n ys → length xs ≡ length ys → Refines xs ys → IsNetwork m n xs
IsNetwork-refines m n xs ys net l w = record {
  length_is = l ∙ net.length_is;
  within = λ e. IsWithin-trans _ _ _ (w.each e) (net.within e);
}

pub IsNetwork-narrowed_at : (m : Algebra) (n : ℕ) (words : List ℕ) (i j x : ℕ) → IsNetwork m n words → IsNetwork m n (narrowed_at m n words i j x)
IsNetwork-narrowed_at m n words i j x net =
    IsNetwork-refines m n (narrowed_at m n words i j x) words net (length-narrowed_at m n words i j x) (narrowed_at-within m n words i j x)

pub KeepsClosed-refl : (m : Algebra) (n : ℕ) (words : List ℕ) → KeepsClosed m n words words
KeepsClosed-refl m n words = record { length_is = refl; within = Refines-refl words; kept = λ other k c w. w }

pub KeepsClosed-trans : (m : Algebra) (n : ℕ) (xs ys zs : List ℕ) → KeepsClosed m n xs ys → KeepsClosed m n ys zs → KeepsClosed m n xs zs
KeepsClosed-trans m n xs ys zs p q = record {
  length_is = q.length_is ∙ p.length_is;
  within = Refines-trans _ _ _ q.within p.within;
  kept = λ other k c w. q.kept other k c (p.kept other k c w);
}

pub IsNetwork-kept : (m : Algebra) (n : ℕ) (old new : List ℕ) → IsNetwork m n old → KeepsClosed m n old new → IsNetwork m n new
IsNetwork-kept m n old new net p = IsNetwork-refines m n new old net p.length_is p.within

-- what is narrowed and loses no closed network, until it is closed, is the closure
pub IsClosure-kept : (m : Algebra) (n : ℕ) (words closure : List ℕ) → IsNetwork m n words → KeepsClosed m n words closure → IsClosed m n closure → IsClosure m n words closure
IsClosure-kept m n words closure net p closed = record {
  length_is = p.length_is;
  closed = closed;
  within = p.within;
  greatest = λ other l c w. p.kept other (IsNetwork-refines m n other words net l w) c w;
}

-- and what was narrowed so has the closure of what it was before
pub IsClosure-through : (m : Algebra) (n : ℕ) (old new closure : List ℕ) → IsNetwork m n old → KeepsClosed m n old new → IsClosure m n new closure → IsClosure m n old closure
IsClosure-through m n old new closure net p c = record {
  length_is = c.length_is ∙ p.length_is;
  closed = c.closed;
  within = Refines-trans _ _ _ c.within p.within;
  greatest = λ other l closed w. c.greatest other (l ∙ sym p.length_is) closed (p.kept other (IsNetwork-refines m n other old net l w) closed w);
}

-- ---- one set narrowed

-- the set of a pair by its edge alone
pub relation_between-same : (m : Algebra) (n : ℕ) (xs ys : List ℕ) (a b : ℕ) → slice_index xs (edge_between n a b) ≡ slice_index ys (edge_between n a b) → relation_between m n xs a b ≡ relation_between m n ys a b
relation_between-same m n xs ys a b e = elim (cases_lt a b) [
  | inl h ↦ relation_between-forward m n xs a b h ∙ (rw (edge_between-forward n a b h) at e) ∙ sym (relation_between-forward m n ys a b h)
  | inr h ↦ relation_between-backward m n xs a b h ∙ ap (converse m) (rw (edge_between-backward n a b h) at e) ∙ sym (relation_between-backward m n ys a b h)
]

-- the sets of other edges stay
pub narrowed_at-other : (m : Algebra) (n : ℕ) (words : List ℕ) (i k x d : ℕ) → d ≢ edge_between n i k → slice_index (narrowed_at m n words i k x) d ≡ slice_index words d
narrowed_at-other m n words i k x d =
    elim (nat_lt i k) as (λ t. d ≢ cond t (edge_at n i k) (edge_at n k i) →
    slice_index (cond t (slice_set words (edge_at n i k) (bit_and (slice_index words (edge_at n i k)) x)) (slice_set words (edge_at n k i) (bit_and (slice_index words (edge_at n k i)) (converse m x)))) d ≡ slice_index words d) [
      | true ↦ λ ne. get_or-set_other words (edge_at n i k) d (bit_and (slice_index words (edge_at n i k)) x) 0 ne
      | false ↦ λ ne. get_or-set_other words (edge_at n k i) d (bit_and (slice_index words (edge_at n k i)) (converse m x)) 0 ne
    ]

-- and those of other pairs
pub relation_between-other : (m : Algebra) (n : ℕ) (words : List ℕ) (i k x a b : ℕ) → IsProperPair n i k → IsProperPair n a b → ¬ IsSamePair a b i k → relation_between m n (narrowed_at m n words i k x) a b ≡ relation_between m n words a b
relation_between-other m n words i k x a b p q ne =
    relation_between-same m n (narrowed_at m n words i k x) words a b
    (narrowed_at-other m n words i k x (edge_between n a b) (λ e. ne (pair-from_edge n a b i k q p e)))

-- where the set wasn't within, the sum falls
pub sum-narrowed_at : (m : Algebra) (n : ℕ) (words : List ℕ) (i k x : ℕ) → IsCalculus m → IsNetwork m n words → IsProperPair n i k → IsWithin x (full_of m) →
    ¬ IsWithin (relation_between m n words i k) x → sum (narrowed_at m n words i k x) < sum words
sum-narrowed_at m n words i k x c net p f ne =
    let met = narrowed_at m n words i k x in
    sum-smaller met words (length-narrowed_at m n words i k x) (narrowed_at-within m n words i k x) (λ e. ne (within-meet (relation_between m n words i k) x
    (sym (relation_between-narrowed_at m n words i k x c net p f) ∙ ap (λ ys. relation_between m n ys i k) e)))

-- ---- a set narrowed along a third node

-- no closed network is lost
pub KeepsClosed-along : (m : Algebra) (n : ℕ) (words : List ℕ) (i j k : ℕ) → IsCalculus m → IsProperTriple n i j k →
    KeepsClosed m n words (narrowed_at m n words i k (composition m (relation_between m n words i j) (relation_between m n words j k)))
KeepsClosed-along m n words i j k c t =
    let along = composition m (relation_between m n words i j) (relation_between m n words j k) in
    record {
      length_is = length-narrowed_at m n words i k along;
      within = narrowed_at-within m n words i k along;
      kept = λ other net closed h. narrow-keeps m n other words words i j k c net closed t h h;
    }

-- and the triple is closed
pub IsClosedAt-along : (m : Algebra) (n : ℕ) (words : List ℕ) (i j k : ℕ) → IsCalculus m → IsNetwork m n words → IsProperTriple n i j k →
    IsClosedAt m n (narrowed_at m n words i k (composition m (relation_between m n words i j) (relation_between m n words j k))) i j k
IsClosedAt-along m n words i j k c net t =
    let along = composition m (relation_between m n words i j) (relation_between m n words j k) in
    let ik = pair-outer n i j k t in
    rw (
      relation_between-narrowed_at m n words i k along c net ik (composition-within m _ _ c.table),
      relation_between-other m n words i k along i j ik (pair-first n i j k t) (λ s. elim s [ inl u ↦ t.second_third u.1 | inr u ↦ t.first_third u.0 ]),
      relation_between-other m n words i k along j k ik (pair-second n i j k t) (λ s. elim s [ inl u ↦ t.first_second (sym u.0) | inr u ↦ t.second_third u.0 ]),
    )
    (IsWithin-meet_r (relation_between m n words i k) along)

-- ---- closed networks

-- a triple that is closed is closed the other way round
pub IsClosedAt-swap : (m : Algebra) (n : ℕ) (words : List ℕ) (i j k : ℕ) → IsCalculus m → IsNetwork m n words → IsProperTriple n i j k → IsClosedAt m n words i j k → IsClosedAt m n words k j i
IsClosedAt-swap m n words i j k c net t h =
    rw (relation_between-converse m n words i k c net t.first_third, relation_between-converse m n words j k c net t.second_third, relation_between-converse m n words i j c net t.first_second)
    (subst (IsWithin (converse m (relation_between m n words i k))) (converse-composition m (relation_between m n words i j) (relation_between m n words j k) c) (converse-mono m _ _ h))

-- a network is closed where each of its pairs i < k is
pub IsClosed-pairs : (m : Algebra) (n : ℕ) (words : List ℕ) → IsCalculus m → IsNetwork m n words → ((i k : ℕ) → i < k → k < n → IsPairClosed m n words i k) → IsClosed m n words
IsClosed-pairs m n words c net h = IsClosed-ordered m n words c net (λ i j k p o. h i k o p.third_below j p)

-- and where it is closed in the range of all edges
pub IsClosed-range : (m : Algebra) (n : ℕ) (words : List ℕ) → IsCalculus m → IsNetwork m n words → IsRangeClosed m n words 0 (edge_count n) → IsClosed m n words
IsClosed-range m n words c net h = IsClosed-pairs m n words c net (λ i k o b. h.each i k o b (omega arith) (edge_at-lt n i k o b))

pub IsRangeClosed-none : (m : Algebra) (n : ℕ) (words : List ℕ) (from : ℕ) → IsRangeClosed m n words from from
IsRangeClosed-none m n words from = record { each = λ i k o b l h. absurd (omega arith) }

-- two ranges side by side
pub IsRangeClosed-join : (m : Algebra) (n : ℕ) (words : List ℕ) (from middle to : ℕ) → IsRangeClosed m n words from middle → IsRangeClosed m n words middle to → IsRangeClosed m n words from to
IsRangeClosed-join m n words from middle to p q = record {
  each = λ i k o b l h. elim (cases_lt (edge_at n i k) middle) [
    | inl x ↦ p.each i k o b l x
    | inr y ↦ q.each i k o b y h
  ];
}
