-- Every network has a closure: while some triple is not closed, its set is narrowed, and the sum of the sets falls.
use Rattle.std.proofs.Common.{ℕ, zero, suc, ◌+◌, ◌<◌, List, arith, ◌⊎◌, inl, inr, sum}
use Rattle.std.specs.Prelude.{bit_and}
use Rattle.std.proofs.lemmas.Bool.{cases_lt, cases_eq}
use Rattle.calculus_table.specs.Rel.{IsWithin}
use Rattle.calculus_table.specs.Algebra.{Algebra}
use Rattle.calculus_table.specs.Composition.{composition}
use Rattle.calculus_table.specs.Calculus.{IsCalculus}
use Rattle.calculus_table.proofs.Sets.{within-meet, meet-within}
use Rattle.calculus_table.proofs.Compositions.{composition-within}
use Rattle.network_words.specs.Edge.{IsProperTriple}
use Rattle.network_words.specs.Network.{IsNetwork, relation_between, narrowed_at}
use Rattle.network_words.specs.Closure.{IsClosedAt, IsClosed, IsClosure}
use Rattle.network_words.proofs.Pairs.{pair-outer}
use Rattle.network_words.proofs.Refinements.{IsNetwork-narrowed_at, KeepsClosed-refl, IsClosure-kept, IsClosure-through, KeepsClosed-along, sum-narrowed_at}

-- ---- a search below a bound

-- some number below the bound without the property
pub record HasFailure (n : ℕ) (P : ℕ → Type 0) : Type 0 where
  pub at : ℕ
  pub below : at < n
  pub fails : ¬ P at

each-or-failure : (n : ℕ) (P : ℕ → Type 0) → ((k : ℕ) → P k ⊎ ¬ P k) → ((k : ℕ) → k < n → P k) ⊎ HasFailure n P
each-or-failure zero P test = inl (λ k h. absurd (omega arith))
each-or-failure (suc n) P test = elim (test n) [
  | inl here ↦ elim (each-or-failure n P test) [
    | inl all ↦ inl (λ k h. elim (cases_eq k n) as (λ _. P k) [
      | inl same ↦ rw same here
      | inr ne ↦ all k (omega arith)
    ])
    | inr f ↦ inr (record { at = f.at; below = let b = f.below in omega arith; fails = f.fails })
  ]
  | inr un ↦ inr (record { at = n; below = omega arith; fails = un })
]

-- a property of all numbers below the bound is decided
each-decided : (n : ℕ) (P : ℕ → Type 0) → ((k : ℕ) → P k ⊎ ¬ P k) → ((k : ℕ) → k < n → P k) ⊎ ¬ ((k : ℕ) → k < n → P k)
each-decided n P test = elim (each-or-failure n P test) [
  | inl all ↦ inl all
  | inr f ↦ inr (λ all. f.fails (all f.at f.below))
]

-- ---- a triple that is not closed

within-decided : (a b : ℕ) → IsWithin a b ⊎ ¬ IsWithin a b
within-decided a b = elim (cases_eq (bit_and a b) a) [
  | inl same ↦ inl (within-meet a b same)
  | inr differ ↦ inr (λ w. differ (meet-within a b w))
]

proper-decided : (n i j k : ℕ) → IsProperTriple n i j k ⊎ ¬ IsProperTriple n i j k
proper-decided n i j k = elim (cases_lt i n) [
  | inl a ↦ elim (cases_lt j n) [
    | inl b ↦ elim (cases_lt k n) [
      | inl c ↦ elim (cases_eq i j) [
        | inl same ↦ inr (λ t. t.first_second same)
        | inr ij ↦ elim (cases_eq j k) [
          | inl same ↦ inr (λ t. t.second_third same)
          | inr jk ↦ elim (cases_eq i k) [
            | inl same ↦ inr (λ t. t.first_third same)
            | inr ik ↦ inl (record { first_below = a; second_below = b; third_below = c; first_second = ij; second_third = jk; first_third = ik })
          ]
        ]
      ]
      | inr o ↦ inr (λ t. let b = t.third_below in absurd (omega arith))
    ]
    | inr o ↦ inr (λ t. let b = t.second_below in absurd (omega arith))
  ]
  | inr o ↦ inr (λ t. let b = t.first_below in absurd (omega arith))
]

-- the triple, if it is one, is closed
IsFine : Algebra → ℕ → List ℕ → ℕ → ℕ → ℕ → Type 0
IsFine m n words i j k = IsProperTriple n i j k → IsClosedAt m n words i j k

fine-decided : (m : Algebra) (n : ℕ) (words : List ℕ) (i j k : ℕ) → IsFine m n words i j k ⊎ ¬ IsFine m n words i j k
unfolding IsFine
fine-decided m n words i j k = elim (proper-decided n i j k) [
  | inl t ↦ elim (within-decided (relation_between m n words i k) (composition m (relation_between m n words i j) (relation_between m n words j k))) [
    | inl w ↦ inl (λ _. w)
    | inr un ↦ inr (λ f. un (f t))
  ]
  | inr un ↦ inl (λ t. absurd (un t))
]

-- a triple that is not closed
pub record IsOpenAt (m : Algebra) (n : ℕ) (words : List ℕ) : Type 0 where
  pub first : ℕ
  pub second : ℕ
  pub third : ℕ
  pub triple : IsProperTriple n first second third
  pub open_there : ¬ IsClosedAt m n words first second third

closed-or-open : (m : Algebra) (n : ℕ) (words : List ℕ) → IsClosed m n words ⊎ IsOpenAt m n words
unfolding IsFine
closed-or-open m n words =
    let P : ℕ → ℕ → ℕ → Type 0 = IsFine m n words in
    let Row : ℕ → ℕ → Type 0 = λ i j. (k : ℕ) → k < n → P i j k in
    let Square : ℕ → Type 0 = λ i. (j : ℕ) → j < n → Row i j in
    let row_decided = λ (i j : ℕ). each-decided n (P i j) (fine-decided m n words i j) in
    elim (each-or-failure n Square (λ i. each-decided n (Row i) (row_decided i))) [
      | inl all ↦ inl (record { each = λ i j k t. all i t.first_below j t.second_below k t.third_below t })
      | inr f ↦ elim (each-or-failure n (Row f.at) (row_decided f.at)) [
        | inl all ↦ absurd (f.fails all)
        | inr g ↦ elim (each-or-failure n (P f.at g.at) (fine-decided m n words f.at g.at)) [
          | inl all ↦ absurd (g.fails all)
          | inr h ↦ elim (proper-decided n f.at g.at h.at) [
            | inl t ↦ inr (record { first = f.at; second = g.at; third = h.at; triple = t; open_there = λ c. h.fails (λ _. c) })
            | inr un ↦ absurd (h.fails (λ t. absurd (un t)))
          ]
        ]
      ]
    ]

-- ---- the closure

closure-within : (fuel : ℕ) (m : Algebra) (n : ℕ) (words : List ℕ) → sum words < fuel → IsCalculus m → IsNetwork m n words → (closure : List ℕ) × IsClosure m n words closure
closure-within zero m n words below c net = absurd (omega arith)
closure-within (suc fuel) m n words below c net = elim (closed-or-open m n words) [
  | inl closed ↦ (words, IsClosure-kept m n words words net (KeepsClosed-refl m n words) closed)
  | inr o ↦
      (let i = o.first in
      let j = o.second in
      let k = o.third in
      let along = composition m (relation_between m n words i j) (relation_between m n words j k) in
      let smaller : sum (narrowed_at m n words i k along) < sum words =
      sum-narrowed_at m n words i k along c net (pair-outer n i j k o.triple) (composition-within m _ _ c.table) o.open_there in
      let rest = closure-within fuel m n (narrowed_at m n words i k along) (omega arith) c (IsNetwork-narrowed_at m n words i k along net) in
      (rest.0, IsClosure-through m n words (narrowed_at m n words i k along) rest.0 net (KeepsClosed-along m n words i j k c o.triple) rest.1))
]

pub closure_of : (m : Algebra) (n : ℕ) (words : List ℕ) → IsCalculus m → IsNetwork m n words → (closure : List ℕ) × IsClosure m n words closure
closure_of m n words c net = closure-within (sum words + 1) m n words (omega arith) c net
