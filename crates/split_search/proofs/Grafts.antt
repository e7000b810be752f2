-- The tree of a child that is known, put below the last open split of a search.
use Rattle.std.proofs.Common.{◌≡◌, ℕ, ◌+◌, ◌*◌, ◌<◌, ◌≤◌, List, [], ◌∷◌, ◌++◌, length, map, refl, sym, ap, ◌∙◌}
use Rattle.std.proofs.Common.{arith, inr}
use Rattle.std.specs.Prelude.{slice_index, slice_set, count_by}
use Rattle.std.proofs.lemmas.List.{length-append, length-map}
use Rattle.network_words.specs.Closure.{IsClosure}
use Rattle.split_trees.specs.Tree.{TreeNode, NestedTree, is_split, preorder}
use Rattle.split_search.specs.declared.verdict.Verdict.TheVariants.{Yes, No, Budget}
use Rattle.split_search.specs.Ruled.{End, at_scenario, at_budget, Ends, splits}
use Rattle.split_search.specs.Way.{SplitState, Held, IsBetween}
use Rattle.split_search.specs.Searches.{Task, IsTask, IsWithinBudget, IsAtChild, IsGoing, HasStopped}
use Rattle.split_search.specs.Grafts.{moved, IsGraft}
use Rattle.split_search.proofs.Transitions.{with_tree}
use Rattle.split_search.proofs.Leaving.{between-done}
use Rattle.split_search.proofs.Steps.{held-same, goes-on}
use Rattle.split_search.proofs.Counts.{done-count, ends-count}
use Rattle.split_search.proofs.Moved.{moved-preorder}

-- the nodes of a tree that is known stand below those that were made
pub placed-nodes : (held nodes ns : List TreeNode) (t : NestedTree) → nodes ≡ preorder 0 t →
    ns ≡ held ++ map (moved (length held)) nodes →
    ns ≡ held ++ preorder (length held) t
placed-nodes held nodes ns t nodes_are e =
    let x = length held in
    let at : 0 + x ≡ x = omega arith in
    e ∙ ap (λ xs. held ++ map (moved x) xs) nodes_are
    ∙ ap (λ xs. held ++ xs) (moved-preorder 0 x t ∙ ap (λ y. preorder y t) at)

module _ (t : Task) (is : IsTask t) (held : Held) (top : List ℕ) (outer : List SplitState) (split : SplitState)
    (going : IsGoing t held top)
    (opened : held.open_splits ≡ outer ++ split ∷ []) (left : length split.children < length split.parts) where
  -- what is held where the search has gone down to the child
  abbrev pub down : Held
  down = record {
    open_splits = outer ++ (record split { children = split.children ++ length held.nodes ∷ [] }) ∷ [];
    below = held.below ++ top ∷ [];
    nodes = held.nodes;
    count = held.count;
  }

  at-child : (closed : List ℕ) → IsClosure t.algebra t.nodes
      (slice_set top split.edge (slice_index split.parts (length split.children))) closed →
      IsAtChild t down closed
  at-child closed is_closure = goes-on t is held top outer split going opened left closed is_closure

  -- the tree has room
  room : (closed : List ℕ) → IsAtChild t down closed → (nodes : List TreeNode) →
      held.count + count_by is_split nodes ≤ t.budget →
      length nodes ≤ 64 * count_by is_split nodes + 1 → (below : List (List ℕ)) (ns : List TreeNode) →
      ns ≡ held.nodes ++ map (moved (length held.nodes)) nodes → (k : ℕ) → k ≡ held.count + count_by is_split nodes →
      IsWithinBudget t (record { open_splits = down.open_splits; below = below; nodes = ns; count = k }) (length ns)
  room closed at nodes fits few below ns ns_are k k_is = record {
    few = omega (arith, fits, k_is);
    room = omega (
      arith,
      at.bound.room,
      few,
      k_is,
      ap length ns_are,
      length-append held.nodes (map (moved (length held.nodes)) nodes),
      length-map nodes (moved (length held.nodes)),
    );
  }

  -- the tree of the child is done
  pub graft-no : (nodes : List TreeNode) → IsGraft t top split held.count (No nodes) → (ns : List TreeNode) →
      ns ≡ held.nodes ++ map (moved (length held.nodes)) nodes → (k : ℕ) → k ≡ held.count + count_by is_split nodes →
      IsGoing t (record { open_splits = down.open_splits; below = held.below; nodes = ns; count = k }) top
  graft-no nodes g ns ns_are k k_is =
      let v = g.ruled in
      let at : IsAtChild t down v.closure = at-child v.closure v.is_closure in
      let d = down in
      let whole = with_tree t.algebra t.nodes t.class t.net.words d v.tree held.below in
      let count : k ≡ held.count + splits v.tree =
      omega (
        arith,
        k_is,
        ap (count_by is_split) v.nodes_are,
        done-count t.algebra t.nodes t.class 0 v.closure v.tree v.has.0,
      ) in
      record {
        between = held-same (λ h. IsBetween t.algebra t.nodes t.class t.net.words h top) whole down.open_splits ns k
            refl
            (sym (placed-nodes held.nodes nodes ns v.tree v.nodes_are ns_are)) (sym count)
            (between-done t.algebra t.nodes t.class t.net.words is.bases is.network at.visiting.way d at.visiting.net
            v.closure v.tree
            at.visiting.is_way at.visiting.is_closure v.has.0 held.below top (inr refl));
        bound = room v.closure at nodes g.room.left g.room.few held.below ns ns_are k k_is;
      }

  -- the search ends in the tree of the child
  ended : (end : End) (closed : List ℕ) (tree : NestedTree) → (at : IsAtChild t down closed) →
      Ends t.algebra t.nodes t.class end closed tree →
      (nodes : List TreeNode) → nodes ≡ preorder 0 tree → held.count + count_by is_split nodes ≤ t.budget →
      length nodes ≤ 64 * count_by is_split nodes + 1 → (ns : List TreeNode) →
      ns ≡ held.nodes ++ map (moved (length held.nodes)) nodes → (k : ℕ) → k ≡ held.count + count_by is_split nodes →
      (end ≡ at_budget → k ≡ t.budget) →
      HasStopped t end (record { open_splits = down.open_splits; below = held.below; nodes = ns; count = k })
  ended end closed tree at ends nodes nodes_are fits few ns ns_are k k_is spent = record {
    ended = record {
      way = at.visiting.way;
      before = down;
      net = at.visiting.net;
      is_way = at.visiting.is_way;
      network = at.visiting.network;
      closed = closed;
      is_closure = at.visiting.is_closure;
      tree = tree;
      ends = ends;
      opened = refl;
      nodes_are = placed-nodes held.nodes nodes ns tree nodes_are ns_are;
      count_is = omega (
        arith,
        k_is,
        ap (count_by is_split) nodes_are,
        ends-count t.algebra t.nodes t.class end 0 closed tree ends,
      );
    };
    bound = room closed at nodes fits few held.below ns ns_are k k_is;
    spent = spent;
  }

  pub graft-yes : (relations : List ℕ) (nodes : List TreeNode) → IsGraft t top split held.count (Yes relations nodes) →
      (ns : List TreeNode) →
      ns ≡ held.nodes ++ map (moved (length held.nodes)) nodes → (k : ℕ) → k ≡ held.count + count_by is_split nodes →
      HasStopped t (at_scenario relations) (record {
        open_splits = down.open_splits;
        below = held.below;
        nodes = ns;
        count = k;
      })
  graft-yes relations nodes g ns ns_are k k_is =
      let v = g.ruled in
      ended (at_scenario relations) v.closure v.tree (at-child v.closure v.is_closure) v.has.0 nodes v.nodes_are
      g.room.left g.room.few ns ns_are k k_is
      (λ e. absurd (cc))

  pub graft-spent : (nodes : List TreeNode) → IsGraft t top split held.count (Budget nodes) → (ns : List TreeNode) →
      ns ≡ held.nodes ++ map (moved (length held.nodes)) nodes → (k : ℕ) → k ≡ held.count + count_by is_split nodes →
      HasStopped t at_budget (record { open_splits = down.open_splits; below = held.below; nodes = ns; count = k })
  graft-spent nodes g ns ns_are k k_is =
      let v = g.ruled in
      let fits : held.count + count_by is_split nodes ≤ t.budget = omega (arith, g.room.left) in
      ended at_budget v.closure v.tree (at-child v.closure v.is_closure) v.has.0 nodes v.nodes_are fits g.room.few ns
      ns_are k k_is
      (λ e. k_is ∙ g.room.left)
