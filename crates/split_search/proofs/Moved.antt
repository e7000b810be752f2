-- The nodes of a tree where more nodes stand before it.
use Rattle.std.proofs.Common.{◌≡◌, ℕ, ◌+◌, ◌<◌, ◌≤◌, List, [], ◌∷◌, ◌++◌, length, map, refl, sym, ap, ◌∙◌, subst, arith}
use Rattle.std.specs.Prelude.{All}
use Rattle.std.proofs.lemmas.List.{map-append}
use Rattle.std.proofs.lemmas.List.Elements.{All-nil, All-cons, All-append}
use Rattle.calculus_table.specs.Algebra.{Algebra}
use Rattle.split_trees.specs.declared.tree.Kind.TheVariants.{Split}
use Rattle.split_trees.specs.Tree.{TreeNode, NodeSteps, NestedTree, leaf, leaf_node, split, Branches, no_branches}
use Rattle.split_trees.specs.Tree.{branch, parts_of, numbers_from, size, size_of_all, preorder, preorder_of_all}
use Rattle.split_search.specs.declared.verdict.Verdict.{Verdict}
use Rattle.split_search.specs.declared.verdict.Verdict.TheVariants.{Yes, No, Budget}
use Rattle.split_search.specs.Ruled.{IsVerdict}
use Rattle.split_search.specs.Verdicts.{nodes_of}
use Rattle.split_search.specs.Grafts.{moved}
use Rattle.split_search.proofs.Transitions.{length-preorder}

-- ---- the numbers are greater by the number of these nodes

moved-numbers : (x k : ℕ) (bs : Branches) → map (λ c. c + k) (numbers_from x bs) ≡ numbers_from (x + k) bs
moved-numbers x k no_branches = refl
moved-numbers x k (branch part child rest) =
    let at : x + size child + k ≡ x + k + size child = omega arith in
    ap (λ xs. (x + k) ∷ xs) (moved-numbers (x + size child) k rest ∙ ap (λ y. numbers_from y rest) at)

abbrev split_node : ℕ → ℕ → List ℕ → List ℕ → NodeSteps → TreeNode
split_node i j parts children steps = record {
  kind = Split;
  i = i;
  j = j;
  parts = parts;
  children = children;
  steps = steps;
}

mutual
  pub moved-preorder : (x k : ℕ) (t : NestedTree) → map (moved k) (preorder x t) ≡ preorder (x + k) t
  moved-preorder x k (leaf kind steps) = refl
  moved-preorder x k (split i j steps bs) =
      let at : x + 1 + k ≡ x + k + 1 = omega arith in
      ap (λ cs. split_node i j (parts_of bs) cs steps ∷ map (moved k) (preorder_of_all (x + 1) bs))
      (moved-numbers (x + 1) k bs ∙ ap (λ y. numbers_from y bs) at)
      ∙ ap (λ xs. split_node i j (parts_of bs) (numbers_from (x + k + 1) bs) steps ∷ xs)
      (moved-all (x + 1) k bs ∙ ap (λ y. preorder_of_all y bs) at)

  moved-all : (x k : ℕ) (bs : Branches) → map (moved k) (preorder_of_all x bs) ≡ preorder_of_all (x + k) bs
  moved-all x k no_branches = refl
  moved-all x k (branch part child rest) =
      let at : x + size child + k ≡ x + k + size child = omega arith in
      map-append (moved k) (preorder x child) (preorder_of_all (x + size child) rest)
      ∙ ap (λ xs. xs ++ map (moved k) (preorder_of_all (x + size child) rest)) (moved-preorder x k child)
      ∙ ap (λ xs. preorder (x + k) child ++ xs) (moved-all (x + size child) k rest
      ∙ ap (λ y. preorder_of_all y rest) at)

-- ---- the numbers lie among the nodes

pub size-some : (t : NestedTree) → 0 < size t
size-some (leaf kind steps) = omega arith
size-some (split i j steps bs) = omega arith

below-numbers : (x : ℕ) (bs : Branches) (top : ℕ) → x + size_of_all bs ≤ top → All (λ c. c < top) (numbers_from x bs)
below-numbers x no_branches top h = All-nil (λ c. c < top)
below-numbers x (branch part child rest) top h =
    All-cons (λ c. c < top) x (numbers_from (x + size child) rest) (omega (arith, h, size-some child))
    (below-numbers (x + size child) rest top (omega (arith, h)))

abbrev IsBelow : ℕ → TreeNode → Type 0
IsBelow top node = All (λ c. c < top) node.children

mutual
  below-preorder : (x : ℕ) (t : NestedTree) (top : ℕ) → x + size t ≤ top → All (IsBelow top) (preorder x t)
  below-preorder x (leaf kind steps) top h = All-cons (IsBelow top) (leaf_node kind steps) [] (All-nil (λ c. c < top))
      (All-nil (IsBelow top))
  below-preorder x (split i j steps bs) top h =
      All-cons (IsBelow top) (record {
        kind = Split;
        i = i;
        j = j;
        parts = parts_of bs;
        children = numbers_from (x + 1) bs;
        steps = steps;
      })
      (preorder_of_all (x + 1) bs) (below-numbers (x + 1) bs top (omega (arith, h)))
      (below-all (x + 1) bs top (omega (arith, h)))

  below-all : (x : ℕ) (bs : Branches) (top : ℕ) → x + size_of_all bs ≤ top → All (IsBelow top) (preorder_of_all x bs)
  below-all x no_branches top h = All-nil (IsBelow top)
  below-all x (branch part child rest) top h =
      All-append (IsBelow top) (preorder x child) (preorder_of_all (x + size child) rest)
      (below-preorder x child top (omega (arith, h)))
      (below-all (x + size child) rest top (omega (arith, h)))

tree-numbers : (nodes : List TreeNode) (t : NestedTree) → nodes ≡ preorder 0 t →
    All (λ (node : TreeNode). All (λ c. c < length nodes) node.children) nodes
tree-numbers nodes t e =
    let P : List TreeNode → Type 0 = λ xs. All (λ (node : TreeNode). All (λ c. c < length xs) node.children) xs in
    subst P (sym e) (below-preorder 0 t (length (preorder 0 t)) (omega (arith, length-preorder 0 t)))

pub verdict-numbers : (m : Algebra) (n : ℕ) (class : List ℕ) (budget : ℕ) (words : List ℕ) (v : Verdict) →
    IsVerdict m n class budget words v →
    All (λ (node : TreeNode). All (λ c. c < length (nodes_of v)) node.children) (nodes_of v)
verdict-numbers m n class budget words (No nodes) v = tree-numbers nodes v.tree v.nodes_are
verdict-numbers m n class budget words (Yes relations nodes) v = tree-numbers nodes v.tree v.nodes_are
verdict-numbers m n class budget words (Budget nodes) v = tree-numbers nodes v.tree v.nodes_are
