-- A tree has one traced tree at most.
use Rattle.std.proofs.Common.{◌≡◌, ℕ, List, sym, ◌∙◌, ap, subst, refl}
use Rattle.calculus_table.specs.Algebra.{Algebra}
use Rattle.network_words.specs.Edge.{edge_at}
use Rattle.split_trees.specs.Tree.{TreeNode, listed, NestedTree, leaf, split, Branches, no_branches, branch, preorder}
use Rattle.split_trees.specs.Refutes.{after_steps, met_at}
use Rattle.refutation.specs.Traced.{HasShape, HaveShape, IsRuled, EachRuled, IsTracedOf}
use Rattle.refutation.proofs.Exact.{tree-one}
use Rattle.stepped_networks.proofs.RuledSteps.{ruled-unique, cut-unique}

module _ (m : Algebra) (n : ℕ) where
  mutual
    -- trees of one shape whose steps are ruled
    tree_once : (t a b : NestedTree) (words : List ℕ) → HasShape t a → HasShape t b → IsRuled m n words a → IsRuled m n words b → a ≡ b
    tree_once (leaf kind steps) (leaf k x) (leaf l y) words h g r s =
        let kinds : k ≡ l = sym h ∙ g in
        let same : x ≡ y = r.1.1 ∙ ap listed (cut-unique m n words r.1.0 s.1.0 r.1.2 s.1.2) ∙ sym s.1.1 in
        ap (λ q. leaf q x) kinds ∙ ap (leaf l) same
    tree_once (leaf kind steps) (split i j x bs) b words h g r s = absurd h
    tree_once (leaf kind steps) a (split i j x bs) words h g r s = absurd g
    tree_once (split i j steps bs) (leaf k x) b words h g r s = absurd h
    tree_once (split i j steps bs) a (leaf k x) words h g r s = absurd g
    tree_once (split i j steps bs) (split a b x ps) (split c d y qs) words h g r s =
        let first : a ≡ c = sym h.0 ∙ g.0 in
        let second : b ≡ d = sym h.1 ∙ g.1 in
        let ruled : r.0 ≡ s.0 = ruled-unique m n words r.0 s.0 r.2 s.2 in
        let same : x ≡ y = r.1 ∙ ap listed ruled ∙ sym s.1 in
        let edge : edge_at n a b ≡ edge_at n c d = ap (λ q. edge_at n q b) first ∙ ap (edge_at n c) second in
        let closed : List ℕ = after_steps m n words s.0 in
        let each : EachRuled m n closed (edge_at n c d) ps =
        subst (λ e. EachRuled m n closed e ps) edge (subst (λ xs. EachRuled m n (after_steps m n words xs) (edge_at n a b) ps) ruled r.3) in
        ap (λ q. split q b x ps) first ∙ ap (λ q. split c q x ps) second ∙ ap (λ q. split c d q ps) same
        ∙ ap (split c d y) (branches_once bs ps qs closed (edge_at n c d) h.2 g.2 each s.3)

    branches_once : (bs ps qs : Branches) (closed : List ℕ) (e : ℕ) → HaveShape bs ps → HaveShape bs qs → EachRuled m n closed e ps → EachRuled m n closed e qs → ps ≡ qs
    branches_once no_branches no_branches no_branches closed e h g r s = refl
    branches_once no_branches (branch part child rest) qs closed e h g r s = absurd h
    branches_once no_branches ps (branch part child rest) closed e h g r s = absurd g
    branches_once (branch part child rest) no_branches qs closed e h g r s = absurd h
    branches_once (branch part child rest) ps no_branches closed e h g r s = absurd g
    branches_once (branch part child rest) (branch p x xs) (branch q y ys) closed e h g r s =
        let parts : p ≡ q = sym h.0 ∙ g.0 in
        let ruled : IsRuled m n (met_at closed e q) x = subst (λ k. IsRuled m n (met_at closed e k) x) parts r.0 in
        ap (λ k. branch k x xs) parts ∙ ap (λ k. branch q k xs) (tree_once child x y (met_at closed e q) h.1 g.1 ruled s.0)
        ∙ ap (branch q y) (branches_once rest xs ys closed e h.2 g.2 r.1 s.1)

pub traced_once : (m : Algebra) (n : ℕ) (words : List ℕ) (nodes t u : List TreeNode) → IsTracedOf m n words nodes t → IsTracedOf m n words nodes u → t ≡ u
traced_once m n words nodes t u h k =
    let tree = tree-one n nodes h.tree k.tree h.stands k.stands in
    let shape : HasShape k.tree h.traced_tree = subst (λ x. HasShape x h.traced_tree) tree h.shape in
    h.nodes_are ∙ ap (preorder 0) (tree_once m n k.tree h.traced_tree k.traced_tree words shape k.shape h.ruled k.ruled) ∙ sym k.nodes_are
