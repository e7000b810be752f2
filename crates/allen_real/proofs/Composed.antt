-- The base relations of any three nodes of a scenario compose, those of a node to itself among them.
use Rattle.std.proofs.Common.{◌≡◌, ◌≢◌, ℕ, ◌^◌, ◌<◌, List, length, refl, sym, subst, arith, inl, inr}
use Rattle.std.specs.Prelude.{slice_index}
use Rattle.std.proofs.lemmas.Bool.{cases_lt, cases_eq, cases_order, lt-ltb, le-ltb}
use Rattle.std.proofs.lemmas.List.{get_or-map, get_or-replicate}
use Rattle.calculus_table.specs.Rel.{Has}
use Rattle.calculus_table.specs.Algebra.{converse_at, entry_at}
use Rattle.calculus_table.specs.Composition.{full_of}
use Rattle.calculus_table.specs.Calculus.{IsCalculus}
use Rattle.calculus_table.proofs.Sets.{Has-single}
use Rattle.calculus_table.proofs.Members.{Has-full}
use Rattle.calculus_table.proofs.Singles.{within-single, converse-single, composition-single}
use Rattle.calculus_builtin.specs.Allen.{allen_algebra, ComposesByRule}
use Rattle.calculus_builtin.proofs.AllenLaws.{allen_lawful}
use Rattle.calculus_builtin.proofs.AllenRule.{allen_rule}
use Rattle.network_words.specs.Edge.{edge_at, edge_count, IsProperTriple}
use Rattle.network_words.specs.Network.{relation_between}
use Rattle.network_words.specs.Scenario.{IsScenario, as_network}
use Rattle.network_words.proofs.Edges.{edge_at-lt}
use Rattle.network_words.proofs.Networks.{relation_between-forward, relation_between-backward}
use Rattle.network_words.proofs.Scenarios.{IsClosed-as_network}
use Rattle.allen_real.specs.EndPoints.{base_between}
use Rattle.allen_real.specs.Realisation.{open_network, IsAllenScenario}

lawful : IsCalculus allen_algebra
lawful = allen_lawful.lawful

-- ---- the network that leaves all open

pub Has-open : (n : ℕ) (relations : List ℕ) (e : ℕ) → e < edge_count n → slice_index relations e < 13 →
    Has (slice_index (open_network n) e) (slice_index relations e)
Has-open n relations e h below =
    rw (get_or-replicate (edge_count n) e (full_of allen_algebra) 0 h)
    (Has-full allen_algebra (slice_index relations e) below)

pub scenario-open : (n : ℕ) (words relations : List ℕ) → IsScenario allen_algebra n words relations →
    IsAllenScenario n relations
scenario-open n words relations s = record {
  length_is = s.length_is;
  below = s.below;
  member = λ e h. Has-open n relations e h (s.below e h);
  composes = s.composes;
}

-- ---- the base relation of two nodes

pub base_between-forward : (n : ℕ) (relations : List ℕ) (i j : ℕ) → i < j →
    base_between n relations i j ≡ slice_index relations (edge_at n i j)
base_between-forward n relations i j h = rw (lt-ltb i j h) refl

pub base_between-backward : (n : ℕ) (relations : List ℕ) (i j : ℕ) → j < i →
    base_between n relations i j ≡ converse_at allen_algebra (slice_index relations (edge_at n j i))
base_between-backward n relations i j h = rw (le-ltb i j (omega arith), lt-ltb j i h) refl

pub base_between-same : (n : ℕ) (relations : List ℕ) (i : ℕ) → base_between n relations i i ≡ 6
base_between-same n relations i = rw (le-ltb i i (omega arith)) refl

module _ (n : ℕ) (relations : List ℕ) (s : IsAllenScenario n relations) where
  abbrev base : ℕ → ℕ → ℕ
  base i j = base_between n relations i j

  edge-below : (i j : ℕ) → i < j → j < n → slice_index relations (edge_at n i j) < 13
  edge-below i j o b = s.below (edge_at n i j) (edge_at-lt n i j o b)

  base-below : (i j : ℕ) → i < n → j < n → base i j < 13
  base-below i j hi hj = elim (cases_order i j) [
    | inl e ↦ subst (λ k. base i k < 13) e (rw (base_between-same n relations i) (omega arith))
    | inr other ↦ elim other [
      | inl o ↦ rw (base_between-forward n relations i j o) (edge-below i j o hj)
      | inr o ↦ rw (base_between-backward n relations i j o) (lawful.table.converse_below _ (edge-below j i o hi))
    ]
  ]

  -- the base relation the other way round is the converse
  base-converse : (i j : ℕ) → i < n → j < n → base j i ≡ converse_at allen_algebra (base i j)
  base-converse i j hi hj = elim (cases_order i j) [
    | inl e ↦ subst (λ k. base k i ≡ converse_at allen_algebra (base i k)) e
        (rw (base_between-same n relations i) refl)
    | inr other ↦ elim other [
      | inl o ↦ rw (base_between-forward n relations i j o, base_between-backward n relations j i o) refl
      | inr o ↦ rw (base_between-forward n relations j i o, base_between-backward n relations i j o)
          (sym (lawful.involution _ (edge-below j i o hi)).twice)
    ]
  ]

  -- ---- the set of two nodes that differ has their base relation alone

  abbrev set : ℕ → ℕ → ℕ
  set i j = relation_between allen_algebra n (as_network relations) i j

  edge-set : (i j : ℕ) → i < j → j < n →
      slice_index (as_network relations) (edge_at n i j) ≡ 2 ^ slice_index relations (edge_at n i j)
  edge-set i j o b =
      let below : edge_at n i j < length relations = omega (arith, s.length_is, edge_at-lt n i j o b) in
      get_or-map (λ r. 2 ^ r) relations (edge_at n i j) 0 0 below

  set-is : (i j : ℕ) → i < n → j < n → i ≢ j → set i j ≡ 2 ^ base i j
  set-is i j hi hj d = elim (cases_lt i j) [
    | inl o ↦ rw (
      relation_between-forward allen_algebra n (as_network relations) i j o,
      edge-set i j o hj,
      base_between-forward n relations i j o,
    ) refl
    | inr g ↦ (let o : j < i = omega arith in
        rw (
          relation_between-backward allen_algebra n (as_network relations) i j g,
          edge-set j i o hi,
          base_between-backward n relations i j o,
        ) (converse-single allen_algebra _ (edge-below j i o hi)))
  ]

  -- ---- three nodes

  abbrev Compose : ℕ → ℕ → ℕ → Type 0
  Compose i j k = Has (entry_at allen_algebra (base i j) (base j k)) (base i k)

  identity-left : (i k : ℕ) → i < n → k < n → Compose i i k
  identity-left i k hi hk =
      let r = base i k in
      rw (base_between-same n relations i, (lawful.identity r (base-below i k hi hk)).left) (Has-single r)

  identity-right : (i k : ℕ) → i < n → k < n → Compose i k k
  identity-right i k hi hk =
      let r = base i k in
      rw (base_between-same n relations k, (lawful.identity r (base-below i k hi hk)).right) (Has-single r)

  there-and-back : (i j : ℕ) → i < n → j < n → Compose i j i
  there-and-back i j hi hj =
      let r = base i j in
      let r' = converse_at allen_algebra r in
      let below : r < 13 = base-below i j hi hj in
      let cycled : Has (entry_at allen_algebra 6 (converse_at allen_algebra r')) r =
      rw ((lawful.involution r below).twice, (lawful.identity r below).left) (Has-single r) in
      rw (base-converse i j hi hj, base_between-same n relations i)
      ((lawful.cycle r r' 6 below (lawful.table.converse_below r below) (omega arith)).1 cycled)

  differing : (i j k : ℕ) → IsProperTriple n i j k → Compose i j k
  differing i j k p =
      let closed = (IsClosed-as_network allen_algebra n _ relations lawful s).each i j k p in
      let first : base i j < 13 = base-below i j p.first_below p.second_below in
      let second : base j k < 13 = base-below j k p.second_below p.third_below in
      within-single _ _ (rw (
        set-is i k p.first_below p.third_below p.first_third,
        set-is i j p.first_below p.second_below p.first_second,
        set-is j k p.second_below p.third_below p.second_third,
        composition-single allen_algebra _ _ lawful.table first second,
      ) at closed)

  compose : (i j k : ℕ) → i < n → j < n → k < n → Compose i j k
  compose i j k hi hj hk = elim (cases_eq i j) [
    | inl e ↦ subst (λ m. Compose i m k) e (identity-left i k hi hk)
    | inr d ↦ elim (cases_eq j k) [
      | inl e ↦ subst (λ m. Compose i j m) e (identity-right i j hi hj)
      | inr f ↦ elim (cases_eq i k) [
        | inl e ↦ subst (λ m. Compose i j m) e (there-and-back i j hi hj)
        | inr g ↦ differing i j k (record {
          first_below = hi;
          second_below = hj;
          third_below = hk;
          first_second = d;
          second_third = f;
          first_third = g;
        })
      ]
    ]
  ]

  -- some intervals lie as the nodes do
  pub lie-as_nodes : (i j k : ℕ) → i < n → j < n → k < n →
      ComposesByRule (base_between n relations i j) (base_between n relations j k) (base_between n relations i k)
  lie-as_nodes i j k hi hj hk =
      (allen_rule.composes _ _ _ (base-below i j hi hj) (base-below j k hj hk) (base-below i k hi hk)).0
      (compose i j k hi hj hk)
