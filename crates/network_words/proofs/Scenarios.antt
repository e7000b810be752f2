-- Scenarios as closed networks, and empty sets in closed networks.
use Rattle.std.proofs.Common.{◌≡◌, ◌≢◌, ℕ, ◌^◌, ◌<◌, ◌≤◌, List, length, sym, ◌∙◌, ap, subst, arith, inl, inr}
use Rattle.std.specs.Prelude.{slice_index, ◌↔◌}
use Rattle.std.proofs.lemmas.Bool.{cases_lt, cases_eq}
use Rattle.std.proofs.lemmas.List.{length-map, get_or-map}
use Rattle.std.proofs.Math.ListN.{get_or-eq_default}
use Rattle.calculus_table.specs.Rel.{Has, IsWithin}
use Rattle.calculus_table.specs.Algebra.{Algebra, converse_at, entry_at}
use Rattle.calculus_table.specs.Composition.{full_of, composition, converse, InComposition, InConverse}
use Rattle.calculus_table.specs.Calculus.{IsCalculus}
use Rattle.calculus_table.proofs.Sets.{IsWithin-trans, IsWithin-empty, empty-within, not_Has-empty, Has-single}
use Rattle.calculus_table.proofs.Compositions.{single-member, Has-full, Has-composition, composition-member, converse-member}
use Rattle.calculus_table.proofs.Singles.{single-within, within-single, converse-single}
use Rattle.network_words.specs.Edge.{edge_count, edge_at, IsProperPair, IsProperTriple}
use Rattle.network_words.specs.Network.{IsNetwork, Refines, relation_between}
use Rattle.network_words.specs.Closure.{IsClosed, IsClosure}
use Rattle.network_words.specs.Scenario.{IsScenario, as_network}
use Rattle.network_words.proofs.Edges.{EdgeOf, edge_of, edge_at-lt}
use Rattle.network_words.proofs.Networks.{relation_between-forward, relation_between-backward, relation_between-converse, IsClosed-ordered}

-- ---- single sets

-- a base relation in the composition of two, as single sets
single-composes : (m : Algebra) (r s t : ℕ) → r < m.size → s < m.size → t < m.size → Has (entry_at m r s) t → IsWithin (2 ^ t) (composition m (2 ^ r) (2 ^ s))
single-composes m r s t a b c h = single-within t _ (Has-composition m (2 ^ r) (2 ^ s) t (record {
  first = r;
  second = s;
  first_in = Has-single r;
  second_in = Has-single s;
  composes = record { first_below = a; second_below = b; below = c; member = h };
}))

-- and back
single-entry : (m : Algebra) (r s t : ℕ) → IsCalculus m → IsWithin (2 ^ t) (composition m (2 ^ r) (2 ^ s)) → Has (entry_at m r s) t
single-entry m r s t k h =
    let i : InComposition m (2 ^ r) (2 ^ s) t = composition-member m (2 ^ r) (2 ^ s) t k.table (within-single t _ h) in
    subst (λ x. Has (entry_at m r x) t) (single-member s i.second i.second_in)
    (subst (λ x. Has (entry_at m x i.second) t) (single-member r i.first i.first_in) i.composes.member)

-- ---- the three turns of a triple of base relations

-- from t in r;s follows r in t;(the converse of s)
turn-right : (m : Algebra) (r s t : ℕ) → IsCalculus m → r < m.size → s < m.size → t < m.size → Has (entry_at m r s) t → Has (entry_at m t (converse_at m s)) r
turn-right m r s t k a b c h = (k.cycle r s t a b c).0 h

-- from t in r;s follows s in (the converse of r);t
turn-left : (m : Algebra) (r s t : ℕ) → IsCalculus m → r < m.size → s < m.size → t < m.size → Has (entry_at m r s) t → Has (entry_at m (converse_at m r) t) s
turn-left m r s t k a b c h =
    let r' = converse_at m r in
    let s' = converse_at m s in
    let t' = converse_at m t in
    let a' : r' < m.size = k.table.converse_below r a in
    let b' : s' < m.size = k.table.converse_below s b in
    let c' : t' < m.size = k.table.converse_below t c in
    let of_converse : Has (entry_at m s' r') t' = (k.converse r s t a b c).0 h in
    let cycled : Has (entry_at m t' (converse_at m r')) s' = turn-right m s' r' t' k b' a' c' of_converse in
    (k.converse r' t s a' c b).1 cycled

-- ---- scenarios

length-as_network : (relations : List ℕ) → length (as_network relations) ≡ length relations
length-as_network relations = length-map relations (λ r. 2 ^ r)

as_network_past : (relations : List ℕ) (e : ℕ) → length relations ≤ e → slice_index (as_network relations) e ≡ 0
as_network_past relations e o = get_or-eq_default (as_network relations) 0 (omega (arith, length-as_network relations))

as_network-index : (relations : List ℕ) (e : ℕ) → e < length relations → slice_index (as_network relations) e ≡ 2 ^ slice_index relations e
as_network-index relations e l = get_or-map (λ r. 2 ^ r) relations e 0 0 l

-- what a scenario says of the pair of two nodes, either way round
record PairOf (m : Algebra) (n : ℕ) (relations : List ℕ) (i j : ℕ) : Type 0 where
  forward : relation_between m n (as_network relations) i j ≡ 2 ^ slice_index relations (edge_at n i j)
  backward : relation_between m n (as_network relations) j i ≡ 2 ^ converse_at m (slice_index relations (edge_at n i j))
  below : slice_index relations (edge_at n i j) < m.size

pair_of : (m : Algebra) (n : ℕ) (words relations : List ℕ) (i j : ℕ) → IsScenario m n words relations → i < j → j < n → PairOf m n relations i j
pair_of m n words relations i j s o b =
    let l : edge_at n i j < edge_count n = edge_at-lt n i j o b in
    let e : slice_index (as_network relations) (edge_at n i j) ≡ 2 ^ slice_index relations (edge_at n i j) = as_network-index relations (edge_at n i j) (omega (arith, s.length_is)) in
    let below = s.below (edge_at n i j) l in
    record {
      forward = relation_between-forward m n (as_network relations) i j o ∙ e;
      backward = relation_between-backward m n (as_network relations) j i (omega arith) ∙ ap (converse m) e ∙ converse-single m (slice_index relations (edge_at n i j)) below;
      below = below;
    }

-- a scenario as single sets is a network within the words
pub IsNetwork-as_network : (m : Algebra) (n : ℕ) (words relations : List ℕ) → IsScenario m n words relations → IsNetwork m n (as_network relations)
IsNetwork-as_network m n words relations s = record {
  length_is = length-as_network relations ∙ s.length_is;
  within = λ e. elim (cases_lt e (length relations)) [
    | inl l ↦ rw (as_network-index relations e l) (single-within _ _ (Has-full m _ (s.below e (omega (arith, s.length_is)))))
    | inr o ↦ rw (as_network_past relations e o) (IsWithin-empty (full_of m))
  ];
}

pub Refines-as_network : (m : Algebra) (n : ℕ) (words relations : List ℕ) → IsScenario m n words relations → Refines (as_network relations) words
Refines-as_network m n words relations s = record {
  each = λ e. elim (cases_lt e (length relations)) [
    | inl l ↦ rw (as_network-index relations e l) (single-within _ _ (s.member e (omega (arith, s.length_is))))
    | inr o ↦ rw (as_network_past relations e o) (IsWithin-empty _)
  ];
}

pub IsClosed-as_network : (m : Algebra) (n : ℕ) (words relations : List ℕ) → IsCalculus m → IsScenario m n words relations → IsClosed m n (as_network relations)
IsClosed-as_network m n words relations k s = IsClosed-ordered m n (as_network relations) k (IsNetwork-as_network m n words relations s) (λ i j l p o.
    let base = λ (a b : ℕ). slice_index relations (edge_at n a b) in
    let il = pair_of m n words relations i l s o p.third_below in
    elim (cases_lt i j) [
      | inl ij ↦ elim (cases_lt j l) [
        | inl jl ↦ (let f = pair_of m n words relations i j s ij p.second_below in
            let g = pair_of m n words relations j l s jl p.third_below in
            rw (il.forward, f.forward, g.forward)
            (single-composes m (base i j) (base j l) (base i l) f.below g.below il.below (s.composes i j l ij jl p.third_below)))
        | inr lj ↦ (let lt : l < j = omega (arith, p.second_third) in
            let f = pair_of m n words relations i j s ij p.second_below in
            let g = pair_of m n words relations l j s lt p.second_below in
            rw (il.forward, f.forward, g.backward)
            (single-composes m (base i j) (converse_at m (base l j)) (base i l) f.below (k.table.converse_below _ g.below) il.below
            (turn-right m (base i l) (base l j) (base i j) k il.below g.below f.below (s.composes i l j o lt p.second_below))))
      ]
      | inr ji ↦ (let lt : j < i = omega (arith, p.first_second) in
          let f = pair_of m n words relations j i s lt p.first_below in
          let g = pair_of m n words relations j l s (omega arith) p.third_below in
          rw (il.forward, f.backward, g.forward)
          (single-composes m (converse_at m (base j i)) (base j l) (base i l) (k.table.converse_below _ f.below) g.below il.below
          (turn-left m (base j i) (base i l) (base j l) k f.below il.below g.below (s.composes j i l lt o p.third_below))))
    ])

-- a scenario of a network is one of each network that holds its single sets
IsScenario-within : (m : Algebra) (n : ℕ) (words others relations : List ℕ) → IsScenario m n words relations → Refines (as_network relations) others → IsScenario m n others relations
IsScenario-within m n words others relations s w = record {
  length_is = s.length_is;
  below = s.below;
  member = λ e l. within-single _ _ (subst (λ x. IsWithin x (slice_index others e)) (as_network-index relations e (omega (arith, s.length_is))) (w.each e));
  composes = s.composes;
}

pub IsScenario-closure : (m : Algebra) (n : ℕ) (words closure relations : List ℕ) → IsCalculus m → IsNetwork m n words → IsClosure m n words closure → IsScenario m n words relations ↔ IsScenario m n closure relations
IsScenario-closure m n words closure relations k net c = (
  λ s. IsScenario-within m n words closure relations s
      (c.greatest (as_network relations) (length-as_network relations ∙ s.length_is ∙ sym net.length_is) (IsClosed-as_network m n words relations k s) (Refines-as_network m n words relations s)),
  λ s. IsScenario-within m n closure words relations s
      (record { each = λ e. IsWithin-trans _ _ _ ((Refines-as_network m n closure relations s).each e) (c.within.each e) }),
)

-- a closed network of single base relations is a scenario of each network that it refines
pub IsScenario-closed : (m : Algebra) (n : ℕ) (words relations : List ℕ) → IsCalculus m → length relations ≡ edge_count n → ((e : ℕ) → e < edge_count n → slice_index relations e < m.size) →
    IsClosed m n (as_network relations) → Refines (as_network relations) words → IsScenario m n words relations
IsScenario-closed m n words relations k l below closed w =
    let base = λ (i j : ℕ). slice_index relations (edge_at n i j) in
    let at = λ (i j : ℕ) (o : i < j) (b : j < n).
    relation_between-forward m n (as_network relations) i j o ∙ as_network-index relations (edge_at n i j) (omega (arith, l, edge_at-lt n i j o b)) in
    record {
      length_is = l;
      below = below;
      member = λ e b. within-single _ _ (subst (λ x. IsWithin x (slice_index words e)) (as_network-index relations e (omega (arith, l))) (w.each e));
      composes = λ i j d ij jd b.
          let jn : j < n = omega arith in
          let id : i < d = omega arith in
          let p : IsProperTriple n i j d = record {
            first_below = omega arith;
            second_below = jn;
            third_below = b;
            first_second = λ e. absurd (omega arith);
            second_third = λ e. absurd (omega arith);
            first_third = λ e. absurd (omega arith);
          } in
          single-entry m (base i j) (base j d) (base i d) k
          (rw (at i d id b, at i j ij jn, at j d jd b) at (closed.each i j d p));
    }

-- ---- empty sets

composition-empty_l : (m : Algebra) (b : ℕ) → IsCalculus m → composition m 0 b ≡ 0
composition-empty_l m b k = empty-within _ (record {
  each = λ t h. let i : InComposition m 0 b t = composition-member m 0 b t k.table h in absurd (not_Has-empty i.first i.first_in);
})

pub converse-empty : (m : Algebra) → converse m 0 ≡ 0
converse-empty m = empty-within _ (record {
  each = λ t h. let i : InConverse m 0 t = converse-member m 0 t h in absurd (not_Has-empty i.base i.base_in);
})

pub relation_between-empty : (m : Algebra) (n : ℕ) (words : List ℕ) (i j : ℕ) → IsCalculus m → IsNetwork m n words → i ≢ j → relation_between m n words i j ≡ 0 → relation_between m n words j i ≡ 0
relation_between-empty m n words i j k net d e = relation_between-converse m n words i j k net d ∙ ap (converse m) e ∙ converse-empty m

-- an empty set on the way empties the set along it
along-empty : (m : Algebra) (n : ℕ) (words : List ℕ) (i j l : ℕ) → IsCalculus m → IsClosed m n words → IsProperTriple n i j l → relation_between m n words i j ≡ 0 → relation_between m n words i l ≡ 0
along-empty m n words i j l k c p e =
    empty-within _ (subst (IsWithin (relation_between m n words i l)) (ap (λ x. composition m x (relation_between m n words j l)) e ∙ composition-empty_l m (relation_between m n words j l) k) (c.each i j l p))

-- where one pair of a node is empty, each of its pairs is
node-empty : (m : Algebra) (n : ℕ) (words : List ℕ) (i j l : ℕ) → IsCalculus m → IsClosed m n words → IsProperPair n i j → IsProperPair n i l → relation_between m n words i j ≡ 0 → relation_between m n words i l ≡ 0
node-empty m n words i j l k c p q e = elim (cases_eq j l) [
  | inl same ↦ subst (λ x. relation_between m n words i x ≡ 0) same e
  | inr differ ↦ along-empty m n words i j l k c
      (record { first_below = p.first_below; second_below = p.second_below; third_below = q.second_below; first_second = p.differ; second_third = differ; first_third = q.differ }) e
]

pair-empty : (m : Algebra) (n : ℕ) (words : List ℕ) (i j a b : ℕ) → IsCalculus m → IsNetwork m n words → IsClosed m n words → IsProperPair n i j → IsProperPair n a b → relation_between m n words i j ≡ 0 → relation_between m n words a b ≡ 0
pair-empty m n words i j a b k net c p q e = elim (cases_eq a i) [
  | inl same ↦ rw same (node-empty m n words i j b k c p
      (record { first_below = p.first_below; second_below = q.second_below; differ = λ h. q.differ (same ∙ h) }) e)
  | inr differ ↦
      (let ia : relation_between m n words i a ≡ 0 = node-empty m n words i j a k c p
      (record { first_below = p.first_below; second_below = q.first_below; differ = λ h. differ (sym h) }) e in
      node-empty m n words a i b k c
      (record { first_below = q.first_below; second_below = p.first_below; differ = differ }) q
      (relation_between-empty m n words i a k net (λ h. differ (sym h)) ia))
]

pub closed-empty : (m : Algebra) (n e : ℕ) (words : List ℕ) → IsCalculus m → IsNetwork m n words → IsClosed m n words → e < edge_count n → slice_index words e ≡ 0 → (d : ℕ) → slice_index words d ≡ 0
closed-empty m n e words k net c l h d = elim (cases_lt d (edge_count n)) [
  | inl b ↦
      (let f : EdgeOf n e = edge_of n e l in
      let g : EdgeOf n d = edge_of n d b in
      let p : IsProperPair n f.first f.second = record { first_below = omega (arith, f.order, f.below); second_below = f.below; differ = λ x. absurd (omega (arith, f.order)) } in
      let q : IsProperPair n g.first g.second = record { first_below = omega (arith, g.order, g.below); second_below = g.below; differ = λ x. absurd (omega (arith, g.order)) } in
      let at_f : relation_between m n words f.first f.second ≡ 0 = relation_between-forward m n words f.first f.second f.order ∙ ap (slice_index words) f.number ∙ h in
      sym (relation_between-forward m n words g.first g.second g.order ∙ ap (slice_index words) g.number) ∙ pair-empty m n words f.first f.second g.first g.second k net c p q at_f)
  | inr o ↦ get_or-eq_default words 0 (omega (arith, net.length_is))
]
