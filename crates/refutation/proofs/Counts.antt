-- The numbers of the nodes that trees have at the front of a list.
use Rattle.std.proofs.Common.{◌≡◌, ℕ, zero, suc, ◌+◌, ◌<◌, ◌≤◌, List, [], ◌∷◌, length, drop, sym, ◌∙◌, ap, arith, add-one, zero-add, slice_get, Some, inl, inr, subst}
use Rattle.std.specs.Prelude.{slice_index, slice_set}
use Rattle.std.proofs.lemmas.List.{length-drop, drop-drop, length-set, get_or-set_same, get_or-set_other}
use Rattle.std.proofs.lemmas.Bool.{cases_eq}
use Rattle.split_trees.specs.Tree.{TreeNode}
use Rattle.refutation.specs.TreeFault.{nodes_of, child_number}
use Rattle.split_trees.specs.Tree.{arity}
use Rattle.refutation.specs.Ends.{AreEnds}
use Rattle.refutation.proofs.Pendings.{drop-there}

pub nodes_of-le : (k : ℕ) (nodes : List TreeNode) → nodes_of k nodes ≤ length nodes
nodes_of-le zero nodes = omega arith
nodes_of-le (suc k) [] = omega arith
nodes_of-le (suc k) (node ∷ rest) = let h = nodes_of-le (arity node + k) rest in omega arith

-- one tree more
nodes_of-more : (k : ℕ) (nodes : List TreeNode) → nodes_of (k + 1) nodes ≡ nodes_of k nodes + nodes_of 1 (drop (nodes_of k nodes) nodes)
nodes_of-more zero nodes = sym (zero-add (nodes_of 1 nodes))
nodes_of-more (suc k) [] = ap (λ p. nodes_of p []) (add-one (suc k))
nodes_of-more (suc k) (node ∷ rest) =
    let p = arity node + k in
    let s : suc k + 1 ≡ suc (k + 1) = omega arith in
    let a : arity node + (k + 1) ≡ p + 1 = omega arith in
    let h = nodes_of-more p rest in
    let d : drop (nodes_of p rest + 1) (node ∷ rest) ≡ drop (nodes_of p rest) rest = ap (λ q. drop q (node ∷ rest)) (add-one (nodes_of p rest)) in
    let e = ap (nodes_of 1) d in
    ap (λ q. nodes_of q (node ∷ rest)) s ∙ ap (λ q. nodes_of q rest + 1) a ∙ omega arith

module _ (nodes : List TreeNode) (x : ℕ) (below : x < length nodes) where
  pub child_number-le : (p : ℕ) → child_number nodes x p ≤ length nodes
  child_number-le p =
      let h = nodes_of-le p (drop (x + 1) nodes) in
      let l = length-drop (x + 1) nodes in
      omega arith

  -- the next child comes after the nodes of the one before
  pub child_number-more : (p : ℕ) → child_number nodes x (p + 1) ≡ child_number nodes x p + nodes_of 1 (drop (child_number nodes x p) nodes)
  child_number-more p =
      let rest = drop (x + 1) nodes in
      let h = nodes_of-more p rest in
      let d : drop (nodes_of p rest) rest ≡ drop (x + 1 + nodes_of p rest) nodes = drop-drop (nodes_of p rest) (x + 1) nodes in
      let e = ap (nodes_of 1) d in
      omega arith

  pub child_number-first : child_number nodes x 0 ≡ x + 1
  child_number-first = omega arith

  -- the nodes under node x end after those of its children
  pub child_number-last : (node : TreeNode) → slice_get nodes x ≡ Some node → child_number nodes x (arity node) ≡ x + nodes_of 1 (drop x nodes)
  child_number-last node there =
      let e = ap (nodes_of 1) (drop-there nodes x node there) in
      let z : arity node + 0 ≡ arity node = omega arith in
      let w = ap (λ q. nodes_of q (drop (x + 1) nodes)) z in
      omega arith

  -- the look-up of where the nodes under a child end gives the number of the next
  module _ (ends : List ℕ) (from : ℕ) (e : AreEnds nodes from ends) (low : from ≤ x + 1) (next p : ℕ) (is_next : next ≡ child_number nodes x p) where
    pub next-lt : next < length ends
    next-lt = let h = child_number-le p in omega (arith, e.length_is)

    pub next-more : slice_index ends next ≡ child_number nodes x (p + 1)
    next-more =
        let h = child_number-le p in
        e.each next (omega arith) (omega arith) ∙ ap (λ k. k + nodes_of 1 (drop k nodes)) is_next ∙ sym (child_number-more p)

-- the end of one node more
pub ends-more : (nodes : List TreeNode) (x from : ℕ) (ends : List ℕ) (node : TreeNode) (end : ℕ) → x < length nodes → from ≡ x + 1 → AreEnds nodes from ends → slice_get nodes x ≡ Some node →
    end ≡ child_number nodes x (arity node) → AreEnds nodes x (slice_set ends x end)
ends-more nodes x from ends node end below next e there is_end = record {
  length_is = length-set ends x end ∙ e.length_is;
  each = λ y low high. elim (cases_eq y x) [
    | inl same ↦
        (let b : x < length ends = omega (arith, e.length_is) in
        let here : slice_index (slice_set ends x end) x ≡ x + nodes_of 1 (drop x nodes) = get_or-set_same ends x end 0 b ∙ is_end ∙ child_number-last nodes x below node there in
        subst (λ k. slice_index (slice_set ends x end) k ≡ k + nodes_of 1 (drop k nodes)) (sym same) here)
    | inr other ↦ get_or-set_other ends x y end 0 other ∙ e.each y (omega arith) high
  ];
}
