-- The list of a tree's nodes in preorder is formed: each split has its children's numbers, and each node is under the first.
use Rattle.std.proofs.Common.{◌≡◌, ℕ, zero, suc, ◌+◌, ◌<◌, ◌≤◌, Bool, true, false, List, [], ◌∷◌, ◌++◌, length, map, drop, refl, sym, ◌∙◌, ap, subst, arith, inl, inr, append_assoc, zero-add, if◌then◌else◌, slice_get, Some, length-append}
use Rattle.std.specs.Prelude.{slice_index}
use Rattle.std.proofs.lemmas.Bool.{cases_lt, cases_eq}
use Rattle.std.proofs.lemmas.List.{length-map, length-drop, drop-drop}
use Rattle.std.proofs.lemmas.Option.{slice_get_within}
use Rattle.split_trees.specs.declared.tree.Kind.{Kind}
use Rattle.split_trees.specs.declared.tree.Kind.TheVariants.{Empty, Found, Open, Later, Split}
use Rattle.split_trees.specs.Tree.{TreeNode, NodeSteps, NestedTree, leaf, split, Branches, no_branches, branch, is_split, is_split_kind, leaf_node, bare, size, size_of_all, parts_of, numbers_from, preorder, preorder_of_all, AreSteps, IsTree, AreTrees, StandsFor}
use Rattle.refutation.specs.TreeFault.{nodes_of, HasNumbers, IsSplitAt, AreFormed}
use Rattle.split_trees.specs.Tree.{arity}
use Rattle.stepped_networks.proofs.ListEnds.{append-nil, head-same, tail-same}
use Rattle.refutation.proofs.Pendings.{drop-there, bare-split, bare-kind, bare-steps}
use Rattle.refutation.proofs.Forests.{length-preorder, length-preorder_of_all, size-some}

-- ---- nodes counted in a list without what leaves hold

arity-bare : (node : TreeNode) → arity (bare node) ≡ arity node
arity-bare node = by (is_split node) refl
  where
    by : (b : Bool) → is_split_kind node.kind ≡ b → arity (bare node) ≡ arity node
    by true e =
        let whole : bare node ≡ node = ap (λ b. if b then node else leaf_node node.kind node.steps) e in
        ap arity whole
    by false e =
        let own : bare node ≡ leaf_node node.kind node.steps = ap (λ b. if b then node else leaf_node node.kind node.steps) e in
        ap arity own ∙ ap (λ b. if b then 0 else 0) e ∙ sym (ap (λ b. if b then length node.children else 0) e)

nodes_of-bare : (k : ℕ) (nodes : List TreeNode) → nodes_of k (map bare nodes) ≡ nodes_of k nodes
nodes_of-bare zero nodes = refl
nodes_of-bare (suc k) [] = refl
nodes_of-bare (suc k) (node ∷ rest) =
    ap (λ a. nodes_of (a + k) (map bare rest) + 1) (arity-bare node) ∙ ap (λ c. c + 1) (nodes_of-bare (arity node + k) rest)

-- ---- branches

abbrev count : Branches → ℕ
count no_branches = 0
count (branch p t bs) = suc (count bs)

-- the nodes of the first branches
abbrev size_of_first : ℕ → Branches → ℕ
size_of_first zero bs = 0
size_of_first (suc k) no_branches = 0
size_of_first (suc k) (branch p t bs) = size t + size_of_first k bs

count-parts : (bs : Branches) → length (parts_of bs) ≡ count bs
count-parts no_branches = refl
count-parts (branch p t bs) = ap suc (count-parts bs)

count-numbers : (y : ℕ) (bs : Branches) → length (numbers_from y bs) ≡ count bs
count-numbers y no_branches = refl
count-numbers y (branch p t bs) = ap suc (count-numbers (y + size t) bs)

number-at : (y : ℕ) (bs : Branches) (p : ℕ) → p < count bs → slice_index (numbers_from y bs) p ≡ y + size_of_first p bs
number-at y no_branches p b = absurd (omega arith)
number-at y (branch q t bs) zero b = omega arith
number-at y (branch q t bs) (suc p) b = number-at (y + size t) bs p (omega arith) ∙ omega arith

first-less : (bs : Branches) (p : ℕ) → p < count bs → size_of_first p bs < size_of_all bs
first-less no_branches p b = absurd (omega arith)
first-less (branch q t bs) zero b = let s = size-some t in omega arith
first-less (branch q t bs) (suc p) b = let h = first-less bs p (omega arith) in omega arith

-- ---- trees counted

mutual
  nodes_of-tree : (x : ℕ) (t : NestedTree) (k : ℕ) (rest : List TreeNode) → nodes_of (suc k) (preorder x t ++ rest) ≡ size t + nodes_of k rest
  nodes_of-tree x (leaf kind steps) k rest =
      let none : arity (leaf_node kind steps) ≡ 0 = arity-leaf kind in
      let same : arity (leaf_node kind steps) + k ≡ k = omega arith in
      ap (λ q. nodes_of q rest + 1) same ∙ omega arith
    where
      arity-leaf : (kind : Kind) → arity (leaf_node kind steps) ≡ 0
      arity-leaf Empty = refl
      arity-leaf Found = refl
      arity-leaf Open = refl
      arity-leaf Later = refl
      arity-leaf Split = refl
  nodes_of-tree x (split i j steps bs) k rest =
      let h = nodes_of-all (x + 1) bs k rest in
      ap (λ c. nodes_of (c + k) (preorder_of_all (x + 1) bs ++ rest) + 1) (count-numbers (x + 1) bs) ∙ omega arith

  nodes_of-all : (y : ℕ) (bs : Branches) (k : ℕ) (rest : List TreeNode) → nodes_of (count bs + k) (preorder_of_all y bs ++ rest) ≡ size_of_all bs + nodes_of k rest
  nodes_of-all y no_branches k rest = ap (λ q. nodes_of q rest) (zero-add k) ∙ omega arith
  nodes_of-all y (branch p t bs) k rest =
      let s : suc (count bs) + k ≡ suc (count bs + k) = omega arith in
      let h = nodes_of-tree y t (count bs + k) (preorder_of_all (y + size t) bs ++ rest) in
      let r = nodes_of-all (y + size t) bs k rest in
      ap (λ q. nodes_of q (preorder y t ++ preorder_of_all (y + size t) bs ++ rest)) s
      ∙ ap (nodes_of (suc (count bs + k))) (append_assoc (preorder y t) (preorder_of_all (y + size t) bs) rest)
      ∙ h ∙ omega arith

nodes_of-first : (y : ℕ) (bs : Branches) (p : ℕ) (rest : List TreeNode) → p ≤ count bs → nodes_of p (preorder_of_all y bs ++ rest) ≡ size_of_first p bs
nodes_of-first y bs zero rest l = refl
nodes_of-first y no_branches (suc p) rest l = absurd (omega arith)
nodes_of-first y (branch q t bs) (suc p) rest l =
    ap (nodes_of (suc p)) (append_assoc (preorder y t) (preorder_of_all (y + size t) bs) rest)
    ∙ nodes_of-tree y t p (preorder_of_all (y + size t) bs ++ rest)
    ∙ ap (λ c. size t + c) (nodes_of-first (y + size t) bs p rest (omega arith))

-- ---- each node of a tree is formed

drop-append : {A : Type 0} (xs ys : List A) (k : ℕ) → length xs ≡ k → drop k (xs ++ ys) ≡ ys
drop-append [] ys zero e = refl
drop-append [] ys (suc k) e = absurd (omega arith)
drop-append (x ∷ xs) ys zero e = absurd (omega arith)
drop-append (x ∷ xs) ys (suc k) e = drop-append xs ys k (omega arith)

map-drop : (k : ℕ) (xs : List TreeNode) → drop k (map bare xs) ≡ map bare (drop k xs)
map-drop zero xs = refl
map-drop (suc k) [] = refl
map-drop (suc k) (x ∷ xs) = map-drop k xs

module _ (n : ℕ) (nodes : List TreeNode) where
  abbrev FormedBetween : ℕ → ℕ → Type 0
  FormedBetween x k = (y : ℕ) (node : TreeNode) → x ≤ y → y < x + k → slice_get nodes y ≡ Some node → (node.kind ≡ Split → IsSplitAt n nodes y node) × AreSteps n node.steps

  module _ (x : ℕ) (node : TreeNode) (there : slice_get nodes x ≡ Some node) where
    front : (ys : List TreeNode) → map bare (drop x nodes) ≡ ys → bare node ∷ map bare (drop (x + 1) nodes) ≡ ys
    front ys e = sym (ap (map bare) (drop-there nodes x node there)) ∙ e

    leaf-formed : (kind : Kind) (steps : NodeSteps) (rest : List TreeNode) → map bare (drop x nodes) ≡ leaf_node kind steps ∷ rest → IsTree n (leaf kind steps) →
        (node.kind ≡ Split → IsSplitAt n nodes x node) × AreSteps n node.steps
    leaf-formed kind steps rest e t =
        let head : bare node ≡ leaf_node kind steps = head-same _ _ _ _ (front (leaf_node kind steps ∷ rest) e) in
        let kind_is : node.kind ≡ kind = sym (bare-kind node) ∙ ap (λ (y : TreeNode). y.kind) head in
        let steps_are : node.steps ≡ steps = sym (bare-steps node) ∙ ap (λ (y : TreeNode). y.steps) head in
        (λ is_split. absurd (t.0 (sym kind_is ∙ is_split)), subst (AreSteps n) (sym steps_are) t.1)

    module _ (i j : ℕ) (steps : NodeSteps) (bs : Branches) (rest : List TreeNode) (e : map bare (drop x nodes) ≡ preorder x (split i j steps bs) ++ rest) (t : IsTree n (split i j steps bs)) where
      abbrev whole : TreeNode
      whole = record { kind = Split; i = i; j = j; parts = parts_of bs; children = numbers_from (x + 1) bs; steps = steps }

      split-front : bare node ∷ map bare (drop (x + 1) nodes) ≡ whole ∷ (preorder_of_all (x + 1) bs ++ rest)
      split-front = front _ e

      split-is : node ≡ whole
      split-is =
          let head : bare node ≡ whole = head-same _ _ _ _ split-front in
          sym (bare-split node (sym (bare-kind node) ∙ ap (λ (y : TreeNode). y.kind) head)) ∙ head

      split-rest : map bare (drop (x + 1) nodes) ≡ preorder_of_all (x + 1) bs ++ rest
      split-rest = tail-same _ _ _ _ split-front

      long : x + 1 + size_of_all bs ≤ length nodes
      long =
          let l = ap length split-rest in
          let a = length-map (drop (x + 1) nodes) bare in
          let b = length-append (preorder_of_all (x + 1) bs) rest in
          let d = length-preorder_of_all (x + 1) bs in
          let r = length-drop (x + 1) nodes in
          let below = slice_get_within nodes x node there in
          omega arith

      numbers-formed : HasNumbers nodes x (numbers_from (x + 1) bs)
      numbers-formed = record {
        numbered = λ p b.
            let below : p < count bs = omega (arith, count-numbers (x + 1) bs) in
            let number = number-at (x + 1) bs p below in
            let nodes_are : nodes_of p (drop (x + 1) nodes) ≡ size_of_first p bs =
            sym (nodes_of-bare p (drop (x + 1) nodes)) ∙ ap (nodes_of p) split-rest ∙ nodes_of-first (x + 1) bs p rest (omega arith) in
            omega arith;
        inside = λ p b.
            let below : p < count bs = omega (arith, count-numbers (x + 1) bs) in
            let number = number-at (x + 1) bs p below in
            let less = first-less bs p below in
            let room = long in
            omega arith;
      }

      split-formed : (node.kind ≡ Split → IsSplitAt n nodes x node) × AreSteps n node.steps
      split-formed =
          let many = count-numbers (x + 1) bs in
          let parts = count-parts bs in
          let at : IsSplitAt n nodes x whole = record {
            order = t.0;
            below = t.1;
            paired = omega arith;
            some = omega (arith, t.2);
            numbers = numbers-formed;
          } in
          (λ _. subst (λ y. IsSplitAt n nodes x y) (sym split-is) at, subst (λ (y : TreeNode). AreSteps n y.steps) (sym split-is) t.3)

  -- what comes after the first node, and after a whole tree
  rest-of : (x i j : ℕ) (steps : NodeSteps) (bs : Branches) (rest : List TreeNode) → map bare (drop x nodes) ≡ preorder x (split i j steps bs) ++ rest → map bare (drop (x + 1) nodes) ≡ preorder_of_all (x + 1) bs ++ rest
  rest-of x i j steps bs rest e =
      sym (ap (map bare) (drop-drop 1 x nodes)) ∙ sym (map-drop 1 (drop x nodes)) ∙ ap (drop 1) e

  after : (y : ℕ) (t : NestedTree) (ys : List TreeNode) → map bare (drop y nodes) ≡ preorder y t ++ ys → map bare (drop (y + size t) nodes) ≡ ys
  after y t ys e =
      sym (ap (map bare) (drop-drop (size t) y nodes)) ∙ sym (map-drop (size t) (drop y nodes)) ∙ ap (drop (size t)) e ∙ drop-append (preorder y t) ys (size t) (length-preorder y t)

  mutual
    tree-formed : (x : ℕ) (t : NestedTree) (rest : List TreeNode) → map bare (drop x nodes) ≡ preorder x t ++ rest → IsTree n t → FormedBetween x (size t)
    tree-formed x (leaf kind steps) rest e t = λ y node low high there.
        let same : x ≡ y = omega arith in
        subst (λ k. (node.kind ≡ Split → IsSplitAt n nodes k node) × AreSteps n node.steps) same
        (leaf-formed x node (subst (λ k. slice_get nodes k ≡ Some node) (sym same) there) kind steps rest e t)
    tree-formed x (split i j steps bs) rest e t = λ y node low high there. elim (cases_eq x y) [
      | inl same ↦ subst (λ k. (node.kind ≡ Split → IsSplitAt n nodes k node) × AreSteps n node.steps) same
          (split-formed x node (subst (λ k. slice_get nodes k ≡ Some node) (sym same) there) i j steps bs rest e t)
      | inr other ↦ all-formed (x + 1) bs rest (rest-of x i j steps bs rest e) t.4 y node (omega arith) (omega arith) there
    ]

    all-formed : (y : ℕ) (bs : Branches) (rest : List TreeNode) → map bare (drop y nodes) ≡ preorder_of_all y bs ++ rest → AreTrees n bs → FormedBetween y (size_of_all bs)
    all-formed y no_branches rest e t = λ z node low high there. absurd (omega arith)
    all-formed y (branch p t bs) rest e ts = λ z node low high there.
        let split_off : map bare (drop y nodes) ≡ preorder y t ++ (preorder_of_all (y + size t) bs ++ rest) = e ∙ append_assoc (preorder y t) (preorder_of_all (y + size t) bs) rest in
        elim (cases_lt z (y + size t)) [
          | inl here ↦ tree-formed y t (preorder_of_all (y + size t) bs ++ rest) split_off ts.0 z node low here there
          | inr later ↦ all-formed (y + size t) bs rest (after y t (preorder_of_all (y + size t) bs ++ rest) split_off) ts.1 z node (omega arith) (omega arith) there
        ]

  pub formed-tree : (tree : NestedTree) → StandsFor n nodes tree → AreFormed n nodes
  formed-tree tree s = λ x node there.
      let whole : map bare nodes ≡ preorder 0 tree ++ [] = s.nodes_are ∙ sym (append-nil (preorder 0 tree)) in
      let below = slice_get_within nodes x node there in
      let all : length nodes ≡ size tree = sym (length-map nodes bare) ∙ ap length s.nodes_are ∙ length-preorder 0 tree in
      let under : nodes_of 1 nodes ≡ size tree + 0 = sym (nodes_of-bare 1 nodes) ∙ ap (nodes_of 1) whole ∙ nodes_of-tree 0 tree 0 [] in
      let formed = tree-formed 0 tree [] whole s.is_tree x node (omega arith) (omega arith) there in
      record { form = record { is_split = formed.0; under_first = omega arith }; steps = formed.1 }
