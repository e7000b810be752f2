-- A list of base relations has one fault at most, and a scenario has none.
use Rattle.std.proofs.Common.{◌≡◌, ℕ, ◌<◌, List, refl, arith, inl, inr}
use Rattle.std.proofs.lemmas.Bool.{cases_lt}
use Rattle.calculus_table.specs.Algebra.{Algebra}
use Rattle.network_words.specs.Edge.{edge_at}
use Rattle.network_words.specs.Scenario.{IsScenario}
use Rattle.network_words.proofs.Edges.{edge_at-lt, edge_at-first, edge_at-second}
use Rattle.scenario.specs.ScenarioFault.{HasShape, IsMemberAt, ComposesAt, EachEdge, EachTriple, IsFirstEdge, IsFirstTriple, IsFaultOf}
use Rattle.scenario.specs.declared.checking.At.{At}
use Rattle.scenario.specs.declared.checking.At.TheVariants.{Outside, Triple, Shape}

-- ---- first places are one

same-number : (x y : ℕ) → ¬ (x < y) → ¬ (y < x) → x ≡ y
same-number x y p q = elim (cases_lt x y) [
  | inl h ↦ absurd (p h)
  | inr g ↦ elim (cases_lt y x) [ inl h ↦ absurd (q h) | inr e ↦ omega arith ]
]

-- two pairs that are the same
record IsSame (i j i' j' : ℕ) : Type 0 where
  first : i ≡ i'
  second : j ≡ j'

IsFirstEdge-one : (n : ℕ) (P : ℕ → Type 0) (i j i' j' : ℕ) → IsFirstEdge n P i j → IsFirstEdge n P i' j' → IsSame i j i' j'
IsFirstEdge-one n P i j i' j' a b =
    let e : edge_at n i j ≡ edge_at n i' j' = same-number (edge_at n i j) (edge_at n i' j') (λ h. a.here (b.before (edge_at n i j) h)) (λ h. b.here (a.before (edge_at n i' j') h)) in
    record {
      first = edge_at-first n i j i' j' a.order a.below b.order b.below e;
      second = edge_at-second n i j i' j' a.order a.below b.order b.below e;
    }

-- two triples that are the same
record AreSame (i j k i' j' k' : ℕ) : Type 0 where
  first : i ≡ i'
  second : j ≡ j'
  third : k ≡ k'

IsFirstTriple-one : (n : ℕ) (P : ℕ → ℕ → ℕ → Type 0) (i j k i' j' k' : ℕ) → IsFirstTriple n P i j k → IsFirstTriple n P i' j' k' → AreSame i j k i' j' k'
IsFirstTriple-one n P i j k i' j' k' a b =
    let first : i ≡ i' = same-number i i'
    (λ h. a.here (b.first_before i j k h a.first_order a.second_order a.below))
    (λ h. b.here (a.first_before i' j' k' h b.first_order b.second_order b.below)) in
    let second : j ≡ j' = same-number j j'
    (λ h. a.here (rw first (b.second_before j k (omega (arith, a.first_order)) h a.second_order a.below)))
    (λ h. b.here (rw (← first) (a.second_before j' k' (omega (arith, b.first_order)) h b.second_order b.below))) in
    record {
      first = first;
      second = second;
      third = same-number k k'
          (λ h. a.here (rw (first, second) (b.before k (omega (arith, a.second_order)) h)))
          (λ h. b.here (rw (← first, ← second) (a.before k' (omega (arith, b.second_order)) h)));
    }

-- ---- a property that holds everywhere has no first failure

no-edge : {A : Type 0} (n : ℕ) (P : ℕ → Type 0) (i j : ℕ) → EachEdge n P → IsFirstEdge n P i j → A
no-edge n P i j all p = absurd (p.here (all (edge_at n i j) (edge_at-lt n i j p.order p.below)))

no-triple : {A : Type 0} (n : ℕ) (P : ℕ → ℕ → ℕ → Type 0) (i j k : ℕ) → EachTriple n P → IsFirstTriple n P i j k → A
no-triple n P i j k all p = absurd (p.here (all i j k p.first_order p.second_order p.below))

-- ---- one fault

pub fault-one : (m : Algebra) (n : ℕ) (words relations : List ℕ) (f g : At) → IsFaultOf m n words relations f → IsFaultOf m n words relations g → f ≡ g
fault-one m n words relations Shape Shape p q = refl
fault-one m n words relations Shape (Outside i j) p q = absurd (p q.0)
fault-one m n words relations Shape (Triple i j k) p q = absurd (p q.0)
fault-one m n words relations (Outside i j) Shape p q = absurd (q p.0)
fault-one m n words relations (Outside i j) (Outside i' j') p q =
    let same : IsSame i j i' j' = IsFirstEdge-one n (IsMemberAt words relations) i j i' j' p.1 q.1 in cc (same.first, same.second)
fault-one m n words relations (Outside i j) (Triple i' j' k') p q = no-edge n (IsMemberAt words relations) i j q.1 p.1
fault-one m n words relations (Triple i j k) Shape p q = absurd (q p.0)
fault-one m n words relations (Triple i j k) (Outside i' j') p q = no-edge n (IsMemberAt words relations) i' j' p.1 q.1
fault-one m n words relations (Triple i j k) (Triple i' j' k') p q =
    let same : AreSame i j k i' j' k' = IsFirstTriple-one n (ComposesAt m n relations) i j k i' j' k' p.2 q.2 in
    cc (same.first, same.second, same.third)

-- ---- no fault

pub HasShape-scenario : (m : Algebra) (n : ℕ) (words relations : List ℕ) → IsScenario m n words relations → HasShape m n relations
HasShape-scenario m n words relations s = record { length_is = s.length_is; below = s.below }

pub IsScenario-checked : (m : Algebra) (n : ℕ) (words relations : List ℕ) → HasShape m n relations → EachEdge n (IsMemberAt words relations) → EachTriple n (ComposesAt m n relations) → IsScenario m n words relations
IsScenario-checked m n words relations h members composes = record { length_is = h.length_is; below = h.below; member = members; composes = composes }

pub no-fault : (m : Algebra) (n : ℕ) (words relations : List ℕ) (f : At) → IsScenario m n words relations → ¬ IsFaultOf m n words relations f
no-fault m n words relations Shape s p = p (HasShape-scenario m n words relations s)
no-fault m n words relations (Outside i j) s p = no-edge n (IsMemberAt words relations) i j s.member p.1
no-fault m n words relations (Triple i j k) s p = no-triple n (ComposesAt m n relations) i j k s.composes p.2
