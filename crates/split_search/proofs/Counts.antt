-- The splits of a ruled tree are those among its nodes.
use Rattle.std.proofs.Common.{◌≡◌, ℕ, ◌+◌, false, cond, List, [], ◌∷◌, ◌++◌, map, refl, sym, ap, ◌∙◌, arith, inl, inr}
use Rattle.std.specs.Prelude.{count_by}
use Rattle.std.proofs.lemmas.List.Sums.{sum_by-append, sum_by-cons}
use Rattle.calculus_table.specs.Algebra.{Algebra}
use Rattle.network_words.specs.Edge.{edge_at}
use Rattle.split_trees.specs.declared.tree.Kind.{Kind}
use Rattle.split_trees.specs.declared.tree.Kind.TheVariants.{Empty, Found, Open, Later, Split}
use Rattle.split_trees.specs.Tree.{TreeNode, NodeSteps, sweep, leaf_node, is_split, is_split_kind, bare, NestedTree}
use Rattle.split_trees.specs.Tree.{leaf, split, Branches, no_branches, branch, parts_of, numbers_from, size, preorder}
use Rattle.split_trees.specs.Tree.{preorder_of_all}
use Rattle.split_search.specs.declared.verdict.Verdict.{Verdict}
use Rattle.split_search.specs.declared.verdict.Verdict.TheVariants.{Yes, No, Budget}
use Rattle.split_search.specs.Ruled.{IsDone, AreDone, End, Ends, EndsAmong, IsEndLeaf, AreLater, at_scenario, at_budget}
use Rattle.split_search.specs.Ruled.{splits, splits_of_all, IsVerdict}
use Rattle.split_search.specs.Verdicts.{nodes_of, KeepsBudget}
use Rattle.split_search.proofs.Refuted.{bare-preorder}

count-append : (xs ys : List TreeNode) → count_by is_split (xs ++ ys) ≡ count_by is_split xs + count_by is_split ys
count-append xs ys = sum_by-append (λ (x : TreeNode). cond (is_split x) 1 0) xs ys

count-split : (x i j : ℕ) (steps : NodeSteps) (bs : Branches) →
    count_by is_split (preorder x (split i j steps bs)) ≡ 1 + count_by is_split (preorder_of_all (x + 1) bs)
count-split x i j steps bs =
    sum_by-cons (λ (y : TreeNode). cond (is_split y) 1 0)
    (record { kind = Split; i = i; j = j; parts = parts_of bs; children = numbers_from (x + 1) bs; steps = steps })
    (preorder_of_all (x + 1) bs)

count-leaf : (kind : Kind) (steps : NodeSteps) → is_split_kind kind ≡ false →
    count_by is_split (leaf_node kind steps ∷ []) ≡ 0
count-leaf Empty steps e = refl
count-leaf Found steps e = refl
count-leaf Open steps e = refl
count-leaf Later steps e = refl
count-leaf Split steps e = absurd (cc)

end-kind : (end : End) (words : List ℕ) (kind : Kind) → IsEndLeaf end words kind → is_split_kind kind ≡ false
end-kind (at_scenario relations) words kind h = ap is_split_kind h.0
end-kind at_budget words kind h = ap is_split_kind h.0

later-count : (x : ℕ) (bs : Branches) → AreLater bs → count_by is_split (preorder_of_all x bs) ≡ splits_of_all bs
later-count x no_branches h = refl
later-count x (branch part child rest) h =
    omega (
      arith,
      count-append (preorder x child) (preorder_of_all (x + size child) rest),
      ap (λ (t : NestedTree). count_by is_split (preorder x t)) h.0,
      ap splits h.0,
      count-leaf Later sweep refl,
      later-count (x + size child) rest h.1,
    )

module _ (m : Algebra) (n : ℕ) (class : List ℕ) where
  mutual
    pub done-count : (x : ℕ) (words : List ℕ) (t : NestedTree) → IsDone m n class words t →
        count_by is_split (preorder x t) ≡ splits t
    done-count x words (leaf kind steps) h = count-leaf kind steps (ap is_split_kind h.0)
    done-count x words (split i j steps bs) h =
        omega (arith, count-split x i j steps bs, all-count (x + 1) words (edge_at n i j) bs h.1)

    all-count : (x : ℕ) (words : List ℕ) (e : ℕ) (bs : Branches) → AreDone m n class words e bs →
        count_by is_split (preorder_of_all x bs) ≡ splits_of_all bs
    all-count x words e no_branches h = refl
    all-count x words e (branch part child rest) h =
        omega (
          arith,
          count-append (preorder x child) (preorder_of_all (x + size child) rest),
          done-count x h.0.0 child h.0.2,
          all-count (x + size child) words e rest h.1,
        )

  mutual
    pub ends-count : (end : End) (x : ℕ) (words : List ℕ) (t : NestedTree) → Ends m n class end words t →
        count_by is_split (preorder x t) ≡ splits t
    ends-count end x words (leaf kind steps) h = count-leaf kind steps (end-kind end words kind h.1)
    ends-count end x words (split i j steps bs) h =
        omega (arith, count-split x i j steps bs, among-count end (x + 1) words (edge_at n i j) bs h.1)

    among-count : (end : End) (x : ℕ) (words : List ℕ) (e : ℕ) (bs : Branches) → EndsAmong m n class end words e bs →
        count_by is_split (preorder_of_all x bs) ≡ splits_of_all bs
    among-count end x words e no_branches h = absurd h
    among-count end x words e (branch part child rest) (closed, is_closure, inl h) =
        omega (
          arith,
          count-append (preorder x child) (preorder_of_all (x + size child) rest),
          ends-count end x closed child h.0,
          later-count (x + size child) rest h.1,
        )
    among-count end x words e (branch part child rest) (closed, is_closure, inr h) =
        omega (
          arith,
          count-append (preorder x child) (preorder_of_all (x + size child) rest),
          done-count x closed child h.0,
          among-count end (x + size child) words e rest h.1,
        )

  pub verdict-splits : (budget : ℕ) (words : List ℕ) (v : Verdict) → IsVerdict m n class budget words v →
      KeepsBudget budget v
  verdict-splits budget words (No nodes) v =
      omega (arith, ap (count_by is_split) v.nodes_are, done-count 0 v.closure v.tree v.has.0, v.has.1)
  verdict-splits budget words (Yes relations nodes) v =
      omega (
        arith,
        ap (count_by is_split) v.nodes_are,
        ends-count (at_scenario relations) 0 v.closure v.tree v.has.0,
        v.has.1,
      )
  verdict-splits budget words (Budget nodes) v =
      omega (arith, ap (count_by is_split) v.nodes_are, ends-count at_budget 0 v.closure v.tree v.has.0, v.has.1)

  pub verdict-bare : (budget : ℕ) (words : List ℕ) (v : Verdict) → IsVerdict m n class budget words v →
      map bare (nodes_of v) ≡ nodes_of v
  verdict-bare budget words (No nodes) v = ap (map bare) v.nodes_are ∙ bare-preorder 0 v.tree ∙ sym v.nodes_are
  verdict-bare budget words (Yes relations nodes) v = ap (map bare) v.nodes_are ∙ bare-preorder 0 v.tree
      ∙ sym v.nodes_are
  verdict-bare budget words (Budget nodes) v = ap (map bare) v.nodes_are ∙ bare-preorder 0 v.tree ∙ sym v.nodes_are
