-- What holds of traced trees.
use Rattle.std.proofs.Common.{◌≡◌, ◌≢◌, ℕ, ◌+◌, List, [], ◌∷◌, ◌++◌, length, map, refl, sym, ◌∙◌, ap, subst}
use Rattle.std.specs.Prelude.{All}
use Rattle.std.proofs.lemmas.List.{length-map}
use Rattle.calculus_table.specs.Algebra.{Algebra}
use Rattle.calculus_table.specs.Calculus.{IsCalculus}
use Rattle.network_words.specs.Network.{IsNetwork}
use Rattle.network_words.proofs.Networks.{Refines-refl}
use Rattle.split_trees.specs.Tree.{TreeNode, NodeSteps, sweep, NestedTree, leaf, split, Branches, no_branches, branch, leaf_node, bare, size, parts_of, numbers_from, preorder, preorder_of_all, IsTree, AreTrees, HasBareLeaves}
use Rattle.split_trees.specs.declared.tree.Kind.{Kind}
use Rattle.split_trees.specs.declared.tree.Kind.TheVariants.{Empty, Found, Open, Later, Split}
use Rattle.split_trees.specs.Refutes.{Refutes, IsRefutation}
use Rattle.refutation.specs.Traced.{IsTracedOf}
use Rattle.refutation.specs.Tracings.{shape_of}
use Rattle.refutation.proofs.Exact.{tree-one}
use Rattle.refutation.proofs.TracedTrees.{traced-refutes, traced-tree, traced-listed, traced-bare}
use Rattle.refutation.proofs.Tracings.{shapes, map-shape-bare}

-- ---- a tree's nodes are bare

bare-append : (xs ys : List TreeNode) → map bare (xs ++ ys) ≡ map bare xs ++ map bare ys
bare-append [] ys = refl
bare-append (x ∷ xs) ys = ap (λ zs. bare x ∷ zs) (bare-append xs ys)

bare-leaf : (kind : Kind) (steps : NodeSteps) → kind ≢ Split → bare (leaf_node kind steps) ≡ leaf_node kind steps
bare-leaf Empty steps h = refl
bare-leaf Found steps h = refl
bare-leaf Open steps h = refl
bare-leaf Later steps h = refl
bare-leaf Split steps h = absurd (h refl)

abbrev split_of : ℕ → ℕ → ℕ → NodeSteps → Branches → TreeNode
split_of x i j steps bs = record { kind = Split; i = i; j = j; parts = parts_of bs; children = numbers_from (x + 1) bs; steps = steps }

mutual
  bare-preorder : (n x : ℕ) (t : NestedTree) → IsTree n t → map bare (preorder x t) ≡ preorder x t
  bare-preorder n x (leaf kind steps) t = ap (λ y. y ∷ []) (bare-leaf kind steps t.0)
  bare-preorder n x (split i j steps bs) t = ap (λ ys. split_of x i j steps bs ∷ ys) (bare-preorder_of_all n (x + 1) bs t.4)

  bare-preorder_of_all : (n x : ℕ) (bs : Branches) → AreTrees n bs → map bare (preorder_of_all x bs) ≡ preorder_of_all x bs
  bare-preorder_of_all n x no_branches t = refl
  bare-preorder_of_all n x (branch part child rest) t =
      bare-append (preorder x child) (preorder_of_all (x + size child) rest)
      ∙ ap (λ ys. ys ++ map bare (preorder_of_all (x + size child) rest)) (bare-preorder n x child t.0)
      ∙ ap (λ ys. preorder x child ++ ys) (bare-preorder_of_all n (x + size child) rest t.1)

-- ---- laws

pub traced-refutes_too : (m : Algebra) (n : ℕ) (words : List ℕ) (nodes traced : List TreeNode) → IsCalculus m → IsNetwork m n words → IsRefutation m n words nodes →
    IsTracedOf m n words nodes traced → IsRefutation m n words traced
traced-refutes_too m n words nodes traced k net r t =
    let tree : IsTree n t.traced_tree = traced-tree m n k t.tree t.traced_tree words t.stands.is_tree t.shape t.ruled in
    record {
      tree = t.traced_tree;
      stands = record { nodes_are = ap (map bare) t.nodes_are ∙ bare-preorder n 0 t.traced_tree tree; is_tree = tree };
      refutes = traced-refutes m n k t.tree t.traced_tree words words net net (Refines-refl words) t.stands.is_tree t.shape t.ruled
          (subst (Refutes m n words) (tree-one n nodes r.tree t.tree r.stands t.stands) r.refutes);
    }

pub traced-no_sweep : (m : Algebra) (n : ℕ) (words : List ℕ) (nodes traced : List TreeNode) → IsCalculus m → IsTracedOf m n words nodes traced → All (λ node. node.steps ≢ sweep) traced
traced-no_sweep m n words nodes traced k t = subst (All (λ node. node.steps ≢ sweep)) (sym t.nodes_are) (traced-listed m n k 0 t.traced_tree words t.ruled)

pub traced-bare_leaves : (m : Algebra) (n : ℕ) (words : List ℕ) (nodes traced : List TreeNode) → IsCalculus m → IsTracedOf m n words nodes traced → HasBareLeaves traced
traced-bare_leaves m n words nodes traced k t = subst HasBareLeaves (sym t.nodes_are) (traced-bare m n k 0 t.traced_tree words t.ruled)

pub traced-length : (m : Algebra) (n : ℕ) (words : List ℕ) (nodes traced : List TreeNode) → IsTracedOf m n words nodes traced → length traced ≡ length nodes
traced-length m n words nodes traced t =
    sym (length-shapes traced) ∙ ap (λ ys. length (map shape_of ys)) t.nodes_are ∙ ap length (sym (shapes 0 t.tree t.traced_tree t.shape))
    ∙ ap (λ ys. length (map shape_of ys)) (sym t.stands.nodes_are) ∙ ap length (map-shape-bare nodes) ∙ length-shapes nodes
  where
    length-shapes : (xs : List TreeNode) → length (map shape_of xs) ≡ length xs
    length-shapes xs = length-map xs shape_of
