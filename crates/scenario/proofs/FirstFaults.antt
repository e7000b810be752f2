-- Each check can be decided at each place, so a list of base relations is a scenario, or one of them fails first somewhere.
use Rattle.std.proofs.Common.{◌≡◌, ℕ, zero, suc, ◌<◌, List, length, ◌⊎◌, inl, inr, subst, arith}
use Rattle.std.specs.Prelude.{slice_index}
use Rattle.std.specs.Int.{bit_at}
use Rattle.std.proofs.lemmas.Bool.{cases_lt, cases_eq}
use Rattle.calculus_table.specs.Rel.{Has}
use Rattle.calculus_table.specs.Algebra.{Algebra, entry_at}
use Rattle.network_words.specs.Edge.{edge_count, edge_at, EdgeOf}
use Rattle.network_words.specs.Scenario.{IsScenario}
use Rattle.network_words.proofs.Edges.{edge_of}
use Rattle.scenario.specs.ScenarioFault.{HasShape, IsMemberAt, ComposesAt, EachTriple, IsFirstEdge, IsFirstTriple}
use Rattle.scenario.specs.Laws.{Fault}
use Rattle.scenario.specs.declared.checking.At.TheVariants.{Outside, Triple, Shape}
use Rattle.scenario.proofs.Faults.{IsScenario-checked}

-- ---- first places

-- the first place below n without the property
record IsFirst (n : ℕ) (P : ℕ → Type 0) : Type 0 where
  at : ℕ
  below : at < n
  here : ¬ P at
  before : (q : ℕ) → q < at → P q

abbrev EachBelow : ℕ → (ℕ → Type 0) → Type 0
EachBelow n P = (k : ℕ) → k < n → P k

one_more : (n : ℕ) (P : ℕ → Type 0) → EachBelow n P → P n → EachBelow (suc n) P
one_more n P each last k b = elim (cases_lt k n) [
  | inl less ↦ each k less
  | inr breaks ↦ (let e : n ≡ k = omega arith in subst P e last)
]

each_or_first : (n : ℕ) (P : ℕ → Type 0) → ((k : ℕ) → P k ⊎ (¬ P k)) → EachBelow n P ⊎ IsFirst n P
each_or_first zero P decided = inl (λ k b. absurd (omega arith))
each_or_first (suc n) P decided = elim (each_or_first n P decided) [
  | inl each ↦ elim (decided n) [
    | inl last ↦ inl (one_more n P each last)
    | inr breaks ↦ inr (record { at = n; below = omega arith; here = breaks; before = each })
  ]
  | inr first ↦ inr (record { at = first.at; below = omega (arith, first.below); here = first.here; before = first.before })
]

each_or_not : (n : ℕ) (P : ℕ → Type 0) → ((k : ℕ) → P k ⊎ (¬ P k)) → EachBelow n P ⊎ (¬ EachBelow n P)
each_or_not n P decided = elim (each_or_first n P decided) [
  | inl each ↦ inl each
  | inr first ↦ inr (λ each. first.here (each first.at first.below))
]

first_of : (n : ℕ) (P : ℕ → Type 0) → ((k : ℕ) → P k ⊎ (¬ P k)) → (¬ EachBelow n P) → IsFirst n P
first_of n P decided breaks = elim (each_or_first n P decided) [ inl each ↦ absurd (breaks each) | inr first ↦ first ]

-- ---- triples of nodes in ascending order

-- a property of the nodes after j
abbrev After : ℕ → (ℕ → Type 0) → ℕ → Type 0
After j P k = j < k → P k

-- where the property of the nodes after j fails at k, k is after j and has it not
after_here : (j k : ℕ) (P : ℕ → Type 0) → ¬ After j P k → (j < k) × (¬ P k)
after_here j k P breaks = elim (cases_lt j k) [
  | inl o ↦ (o, λ p. breaks (λ _. p))
  | inr g ↦ absurd (breaks (λ o. absurd (omega arith)))
]

after_decided : (j k : ℕ) (P : ℕ → Type 0) → P k ⊎ (¬ P k) → After j P k ⊎ (¬ After j P k)
after_decided j k P (inl p) = inl (λ _. p)
after_decided j k P (inr breaks) = elim (cases_lt j k) [
  | inl o ↦ inr (λ h. breaks (h o))
  | inr g ↦ inl (λ o. absurd (omega arith))
]

record BreaksAtTriple (n : ℕ) (P : ℕ → ℕ → ℕ → Type 0) : Type 0 where
  i : ℕ
  j : ℕ
  k : ℕ
  first : IsFirstTriple n P i j k

module _ (n : ℕ) (P : ℕ → ℕ → ℕ → Type 0) (decided : (i j k : ℕ) → P i j k ⊎ (¬ P i j k)) where
  abbrev EachThird : ℕ → ℕ → Type 0
  EachThird i j = EachBelow n (After j (P i j))

  abbrev EachSecond : ℕ → Type 0
  EachSecond i = EachBelow n (After i (EachThird i))

  third_decided : (i j k : ℕ) → After j (P i j) k ⊎ (¬ After j (P i j) k)
  third_decided i j k = after_decided j k (P i j) (decided i j k)

  second_decided : (i j : ℕ) → After i (EachThird i) j ⊎ (¬ After i (EachThird i) j)
  second_decided i j = after_decided i j (EachThird i) (each_or_not n (After j (P i j)) (third_decided i j))

  first_decided : (i : ℕ) → EachSecond i ⊎ (¬ EachSecond i)
  first_decided i = each_or_not n (After i (EachThird i)) (second_decided i)

  first_triple : IsFirst n EachSecond → BreaksAtTriple n P
  first_triple f =
      let g : IsFirst n (After f.at (EachThird f.at)) = first_of n (After f.at (EachThird f.at)) (second_decided f.at) f.here in
      let second = after_here f.at g.at (EachThird f.at) g.here in
      let h : IsFirst n (After g.at (P f.at g.at)) = first_of n (After g.at (P f.at g.at)) (third_decided f.at g.at) second.1 in
      let third = after_here g.at h.at (P f.at g.at) h.here in
      record {
        i = f.at;
        j = g.at;
        k = h.at;
        first = record {
          first_order = second.0;
          second_order = third.0;
          below = h.below;
          here = third.1;
          before = λ c o l. h.before c l o;
          second_before = λ b c o l o2 b2. g.before b l o c b2 o2;
          first_before = λ a b c l o o2 b2. f.before a l b (omega arith) o c b2 o2;
        };
      }

  each_triple : EachTriple n P ⊎ BreaksAtTriple n P
  each_triple = elim (each_or_first n EachSecond first_decided) [
    | inl each ↦ inl (λ i j k o o2 b. each i (omega arith) j (omega arith) o k b o2)
    | inr f ↦ inr (first_triple f)
  ]

-- ---- the checks are decided

has_decided : (a r : ℕ) → Has a r ⊎ (¬ Has a r)
has_decided a r = elim (cases_eq (bit_at a r) 1) [ inl e ↦ inl e | inr breaks ↦ inr breaks ]

below_decided : (relations : List ℕ) (size e : ℕ) → (slice_index relations e < size) ⊎ (¬ (slice_index relations e < size))
below_decided relations size e = elim (cases_lt (slice_index relations e) size) [
  | inl l ↦ inl l
  | inr g ↦ inr (λ l. absurd (omega arith))
]

shape_decided : (m : Algebra) (n : ℕ) (relations : List ℕ) → HasShape m n relations ⊎ (¬ HasShape m n relations)
shape_decided m n relations = elim (cases_eq (length relations) (edge_count n)) [
  | inr other ↦ inr (λ h. other h.length_is)
  | inl same ↦ elim (each_or_not (edge_count n) (λ e. slice_index relations e < m.size) (below_decided relations m.size)) [
    | inl each ↦ inl (record { length_is = same; below = each })
    | inr breaks ↦ inr (λ h. breaks h.below)
  ]
]

-- the first edge without a property, by its nodes
first_edge : (n : ℕ) (P : ℕ → Type 0) (f : IsFirst (edge_count n) P) → (i : ℕ) × (j : ℕ) × IsFirstEdge n P i j
first_edge n P f =
    let e : EdgeOf n f.at = edge_of n f.at f.below in (
      e.first,
      e.second,
      record {
        order = e.order;
        below = e.below;
        here = λ p. f.here (subst P e.number p);
        before = λ q l. f.before q (omega (arith, e.number));
      },
    )

-- a list is a scenario or has a fault
pub scenario_or_fault : (m : Algebra) (n : ℕ) (words relations : List ℕ) → IsScenario m n words relations ⊎ Fault m n words relations
scenario_or_fault m n words relations = elim (shape_decided m n relations) [
  | inr breaks ↦ inr (record { fault = Shape; is_fault = breaks })
  | inl shape ↦ elim (each_or_first (edge_count n) (IsMemberAt words relations) (λ e. has_decided (slice_index words e) (slice_index relations e))) [
    | inr f ↦ (let at = first_edge n (IsMemberAt words relations) f in
        inr (record { fault = Outside at.0 at.1; is_fault = (shape, at.2) }))
    | inl members ↦ elim (each_triple n (ComposesAt m n relations) (λ i j k. has_decided (entry_at m (slice_index relations (edge_at n i j)) (slice_index relations (edge_at n j k))) (slice_index relations (edge_at n i k)))) [
      | inr b ↦ inr (record { fault = Triple b.i b.j b.k; is_fault = (shape, members, b.first) })
      | inl composes ↦ inl (IsScenario-checked m n words relations shape members composes)
    ]
  ]
]
