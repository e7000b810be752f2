-- Where a tree refutes a network, the network has no scenario: each scenario lies in one part of each split, to a leaf.
use Rattle.std.proofs.Common.{ℕ, ◌<◌, List, subst, arith, inl, inr, Contains}
use Rattle.std.specs.Prelude.{slice_index}
use Rattle.calculus_table.specs.Rel.{Has}
use Rattle.calculus_table.specs.Algebra.{Algebra}
use Rattle.calculus_table.specs.Calculus.{IsCalculus}
use Rattle.calculus_table.proofs.Sets.{Has-union, not_Has-empty}
use Rattle.network_words.specs.Edge.{edge_count, edge_at}
use Rattle.network_words.specs.Network.{IsNetwork}
use Rattle.network_words.specs.Scenario.{IsScenario}
use Rattle.network_words.proofs.Edges.{edge_at-lt}
use Rattle.split_trees.specs.Tree.{TreeNode, NestedTree, leaf, split, Branches, no_branches, branch, parts_of, IsTree, AreTrees}
use Rattle.split_trees.specs.Refutes.{met_at, union_of, Refutes, EachRefutes, IsRefutation}
use Rattle.stepped_networks.proofs.Worked.{worked-network, worked-scenario, met_at-network, met_at-scenario}

module _ (m : Algebra) (n : ℕ) (relations : List ℕ) (k : IsCalculus m) where
  none-empty : (words : List ℕ) → IsNetwork m n words → Contains words 0 → IsScenario m n words relations → ⊥
  none-empty words net c s =
      let l : c.0 < edge_count n = omega (arith, c.1, net.length_is) in
      not_Has-empty (slice_index relations c.0) (subst (λ x. Has x (slice_index relations c.0)) c.2 (s.member c.0 l))

  mutual
    no-scenario : (tree : NestedTree) (words : List ℕ) → IsNetwork m n words → IsTree n tree → Refutes m n words tree → IsScenario m n words relations → ⊥
    no-scenario (leaf kind steps) words net t r s =
        none-empty r.1.0 (worked-network m n words r.1.0 steps net r.1.1) r.1.2 (worked-scenario m n words r.1.0 relations steps k net t.1 r.1.1 s)
    no-scenario (split i j steps branches) words net t r s =
        let e = edge_at n i j in
        let worked : IsScenario m n r.0 relations = worked-scenario m n words r.0 relations steps k net t.3 r.1 s in
        no-branch branches r.0 e (worked-network m n words r.0 steps net r.1) t.4 r.3 worked
        (r.2.each (slice_index relations e) (worked.member e (edge_at-lt n i j t.0 t.1)))

    no-branch : (branches : Branches) (worked : List ℕ) (e : ℕ) → IsNetwork m n worked → AreTrees n branches → EachRefutes m n worked e branches → IsScenario m n worked relations →
        Has (union_of (parts_of branches)) (slice_index relations e) → ⊥
    no-branch no_branches worked e net t r s h = not_Has-empty (slice_index relations e) h
    no-branch (branch part child rest) worked e net t r s h = elim (Has-union part (union_of (parts_of rest)) (slice_index relations e) h) [
      | inl here ↦ no-scenario child (met_at worked e part) (met_at-network m n worked e part net) t.0 r.0 (met_at-scenario m n worked relations e part here s)
      | inr later ↦ no-branch rest worked e net t.1 r.1 s later
    ]

pub refuted-none : (m : Algebra) (n : ℕ) (words : List ℕ) (nodes : List TreeNode) (relations : List ℕ) → IsCalculus m → IsNetwork m n words → IsRefutation m n words nodes → ¬ IsScenario m n words relations
refuted-none m n words nodes relations k net r s = no-scenario m n relations k r.tree words net r.stands.is_tree r.refutes s
