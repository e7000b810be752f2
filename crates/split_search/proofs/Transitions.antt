-- What the steps of a search do to what it holds.
use Rattle.std.proofs.Common.{◌≡◌, ℕ, ◌+◌, ◌<◌, ◌≤◌, List, [], ◌∷◌, ◌++◌, length, set, refl, sym, ap, ◌∙◌, subst, arith}
use Rattle.std.proofs.Common.{inr}
use Rattle.std.specs.Prelude.{slice_index, slice_set}
use Rattle.std.proofs.lemmas.List.{append-nil, append_assoc, length-append}
use Rattle.calculus_table.specs.Algebra.{Algebra}
use Rattle.network_words.specs.Edge.{edge_at}
use Rattle.network_words.specs.Network.{IsNetwork}
use Rattle.network_words.specs.Closure.{IsClosure}
use Rattle.network_words.specs.Scenario.{as_network}
use Rattle.split_trees.specs.declared.tree.Kind.TheVariants.{Found, Open, Split}
use Rattle.split_trees.specs.Tree.{TreeNode, sweep, leaf_node, NestedTree, leaf, split, Branches, no_branches, branch}
use Rattle.split_trees.specs.Tree.{size, size_of_all, numbers_from, preorder, preorder_of_all}
use Rattle.split_search.specs.declared.verdict.Verdict.TheVariants.{Yes, No, Budget}
use Rattle.split_search.specs.Ruled.{IsUndecided, IsRuledSplit, IsSplitOf, IsDone, AreDone, End, at_scenario, at_budget}
use Rattle.split_search.specs.Ruled.{Ends, splits, IsVerdict}
use Rattle.split_search.specs.Way.{SplitState, node_of, branches_with, nodes_of_trees, numbers_of_trees}
use Rattle.split_search.specs.Way.{splits_of_trees, Frame, Held, IsLast, IsWay, IsVisiting, IsAtSplit, IsWhole}
use Rattle.split_search.specs.Way.{IsBetween, IsEnded}
use Rattle.split_search.proofs.Ways.{branches_with-parts, branches_with-splits, branches_with-numbers}
use Rattle.split_search.proofs.Ways.{branches_with-nodes, all-done, one-done}
use Rattle.split_search.proofs.Networks.{closure-network}

-- ---- a tree more

sizes_of : List NestedTree → ℕ
sizes_of [] = 0
sizes_of (t ∷ trees) = size t + sizes_of trees

mutual
  pub length-preorder : (x : ℕ) (t : NestedTree) → length (preorder x t) ≡ size t
  length-preorder x (leaf kind steps) = refl
  length-preorder x (split i j steps branches) = omega (arith, length-preorder_of_all (x + 1) branches)

  length-preorder_of_all : (x : ℕ) (branches : Branches) → length (preorder_of_all x branches) ≡ size_of_all branches
  length-preorder_of_all x no_branches = refl
  length-preorder_of_all x (branch part child rest) =
      omega (
        arith,
        length-append (preorder x child) (preorder_of_all (x + size child) rest),
        length-preorder x child,
        length-preorder_of_all (x + size child) rest,
      )

length-trees : (x : ℕ) (trees : List NestedTree) → length (nodes_of_trees x trees) ≡ sizes_of trees
unfolding sizes_of
length-trees x [] = refl
length-trees x (t ∷ trees) =
    omega (
      arith,
      length-append (preorder x t) (nodes_of_trees (x + size t) trees),
      length-preorder x t,
      length-trees (x + size t) trees,
    )

nodes-more : (x : ℕ) (trees : List NestedTree) (t : NestedTree) →
    nodes_of_trees x (trees ++ t ∷ []) ≡ nodes_of_trees x trees ++ preorder (x + sizes_of trees) t
unfolding sizes_of
nodes-more x [] t = append-nil (preorder x t) ∙ ap (λ k. preorder k t) (omega arith)
nodes-more x (u ∷ trees) t =
    ap (λ xs. preorder x u ++ xs) (nodes-more (x + size u) trees t)
    ∙ sym (append_assoc (preorder x u) (nodes_of_trees (x + size u) trees) (preorder (x + size u + sizes_of trees) t))
    ∙ ap (λ k. (preorder x u ++ nodes_of_trees (x + size u) trees) ++ preorder k t) (omega arith)

numbers-more : (x : ℕ) (trees : List NestedTree) (t : NestedTree) →
    numbers_of_trees x (trees ++ t ∷ []) ≡ numbers_of_trees x trees ++ (x + sizes_of trees) ∷ []
unfolding sizes_of
numbers-more x [] t = ap (λ k. k ∷ []) (omega arith)
numbers-more x (u ∷ trees) t =
    ap (λ xs. x ∷ xs) (numbers-more (x + size u) trees t)
    ∙ ap (λ k. x ∷ (numbers_of_trees (x + size u) trees ++ k ∷ [])) (omega arith)

splits-more : (trees : List NestedTree) (t : NestedTree) →
    splits_of_trees (trees ++ t ∷ []) ≡ splits_of_trees trees + splits t
splits-more [] t = omega arith
splits-more (u ∷ trees) t = omega (arith, splits-more trees t)

-- ---- the node of a split

pub set-middle : (before : List TreeNode) (old new : TreeNode) (after : List TreeNode) →
    set (before ++ old ∷ after) (length before) new ≡ before ++ new ∷ after
set-middle [] old new after = refl
set-middle (x ∷ before) old new after = ap (λ xs. x ∷ xs) (set-middle before old new after)

-- the tree of a split each of whose children is made
pub tree_of : SplitState → List NestedTree → NestedTree
tree_of s trees = split s.i s.j sweep (branches_with s.parts trees)

pub tree_of-is : (s : SplitState) (trees : List NestedTree) →
    tree_of s trees ≡ split s.i s.j sweep (branches_with s.parts trees)
unfolding tree_of
tree_of-is s trees = refl

pub tree_of-nodes : (s : SplitState) (trees : List NestedTree) → length trees ≡ length s.parts →
    s.children ≡ numbers_of_trees (s.node + 1) trees →
    preorder s.node (tree_of s trees) ≡ node_of s ∷ nodes_of_trees (s.node + 1) trees
unfolding tree_of
tree_of-nodes s trees same children =
    let bs = branches_with s.parts trees in
    let with_parts : List ℕ → List ℕ → TreeNode = λ ps cs. record {
      kind = Split;
      i = s.i;
      j = s.j;
      parts = ps;
      children = cs;
      steps = sweep;
    } in
    ap (λ ps. with_parts ps (numbers_from (s.node + 1) bs) ∷ preorder_of_all (s.node + 1) bs)
    (branches_with-parts s.parts trees same)
    ∙ ap (λ cs. with_parts s.parts cs ∷ preorder_of_all (s.node + 1) bs)
    (branches_with-numbers (s.node + 1) s.parts trees same ∙ sym children)
    ∙ ap (λ xs. node_of s ∷ xs) (branches_with-nodes (s.node + 1) s.parts trees same)

pub tree_of-splits : (s : SplitState) (trees : List NestedTree) → length trees ≡ length s.parts →
    splits (tree_of s trees) ≡ splits_of_trees trees + 1
unfolding tree_of
tree_of-splits s trees same = ap (λ k. k + 1) (branches_with-splits s.parts trees same)

module _ (m : Algebra) (n : ℕ) (class words : List ℕ) where
  -- ---- the end

  -- nothing is open where the way has no split
  record IsBare (held : Held) (net : List ℕ) : Type 0 where
    nodes_are : held.nodes ≡ []
    count_is : held.count ≡ 0
    net_is : net ≡ words

  way-bare : (way : List Frame) (held : Held) (net : List ℕ) → IsWay m n class words way held net →
      held.open_splits ≡ [] → IsBare held net
  way-bare [] held net h e = record { nodes_are = h.2; count_is = h.3; net_is = h.4 }
  way-bare (f ∷ way) held net h e =
      absurd (omega (arith, ap length e, ap length h.3.1.opened, length-append h.3.0.open_splits (f.state ∷ [])))

  pub whole-verdict : (held : Held) (budget : ℕ) → IsWhole m n class words held → held.count ≤ budget →
      IsVerdict m n class budget words (No held.nodes)
  whole-verdict held budget w few = record {
    closure = w.closure;
    is_closure = w.is_closure;
    tree = w.tree;
    nodes_are = w.nodes_are;
    has = (w.done, omega (arith, w.count_is, few));
  }

  -- what has ended without an open split is the tree of the whole
  pub record IsEndedWhole (end : End) (held : Held) : Type 0 where
    pub closure : List ℕ
    pub is_closure : IsClosure m n words closure
    pub tree : NestedTree
    pub nodes_are : held.nodes ≡ preorder 0 tree
    pub ends : Ends m n class end closure tree
    pub count_is : held.count ≡ splits tree

  pub ended-whole : (end : End) (held : Held) → IsEnded m n class words end held → held.open_splits ≡ [] →
      IsEndedWhole end held
  ended-whole end held e none =
      let bare : IsBare e.before e.net = way-bare e.way e.before e.net e.is_way (sym e.opened ∙ none) in
      record {
        closure = e.closed;
        is_closure = subst (λ x. IsClosure m n x e.closed) bare.net_is e.is_closure;
        tree = e.tree;
        nodes_are = e.nodes_are ∙ ap (λ xs. xs ++ preorder (length xs) e.tree) bare.nodes_are;
        ends = e.ends;
        count_is = omega (arith, e.count_is, bare.count_is);
      }

  pub yes-verdict : (held : Held) (budget : ℕ) (relations : List ℕ) →
      IsEnded m n class words (at_scenario relations) held → held.open_splits ≡ [] →
      held.count ≤ budget → IsVerdict m n class budget words (Yes relations held.nodes)
  yes-verdict held budget relations e none few =
      let w : IsEndedWhole (at_scenario relations) held = ended-whole (at_scenario relations) held e none in
      record {
        closure = w.closure;
        is_closure = w.is_closure;
        tree = w.tree;
        nodes_are = w.nodes_are;
        has = (w.ends, omega (arith, w.count_is, few));
      }

  pub budget-verdict : (held : Held) → IsEnded m n class words at_budget held → held.open_splits ≡ [] →
      IsVerdict m n class held.count words (Budget held.nodes)
  budget-verdict held e none =
      let w : IsEndedWhole at_budget held = ended-whole at_budget held e none in
      record {
        closure = w.closure;
        is_closure = w.is_closure;
        tree = w.tree;
        nodes_are = w.nodes_are;
        has = (w.ends, sym w.count_is);
      }

  -- ---- a visit

  -- what is held with a node more
  abbrev pub with_node : Held → TreeNode → Held
  with_node held node = record {
    open_splits = held.open_splits;
    below = held.below;
    nodes = held.nodes ++ node ∷ [];
    count = held.count;
  }

  pub visit-scenario : (held : Held) (top relations : List ℕ) → IsVisiting m n class words held top →
      as_network relations ≡ top →
      IsEnded m n class words (at_scenario relations) (with_node held (leaf_node Found sweep))
  visit-scenario held top relations v e = record {
    way = v.way;
    before = held;
    net = v.net;
    is_way = v.is_way;
    network = v.network;
    closed = top;
    is_closure = v.is_closure;
    tree = leaf Found sweep;
    ends = (refl, (refl, e));
    opened = refl;
    nodes_are = refl;
    count_is = omega arith;
  }

  pub visit-budget : (held : Held) (top : List ℕ) → IsVisiting m n class words held top → IsUndecided top →
      IsEnded m n class words at_budget (with_node held (leaf_node Open sweep))
  visit-budget held top v u = record {
    way = v.way;
    before = held;
    net = v.net;
    is_way = v.is_way;
    network = v.network;
    closed = top;
    is_closure = v.is_closure;
    tree = leaf Open sweep;
    ends = (refl, (refl, u));
    opened = refl;
    nodes_are = refl;
    count_is = omega arith;
  }

  -- a split is opened: it has no child yet
  pub visit-split : (held : Held) (top : List ℕ) (i j e : ℕ) (parts : List ℕ) → IsVisiting m n class words held top →
      IsSplitOf m class top e parts →
      i < j → j < n → e ≡ edge_at n i j →
      IsBetween m n class words (record {
        open_splits = held.open_splits ++ (record {
          node = length held.nodes;
          i = i;
          j = j;
          edge = e;
          parts = parts;
          children = [];
        }) ∷ [];
        below = held.below;
        nodes = held.nodes ++ leaf_node Open sweep ∷ [];
        count = held.count + 1;
      }) top
  visit-split held top i j e parts v s order below edge_is =
      let state : SplitState = record {
        node = length held.nodes;
        i = i;
        j = j;
        edge = e;
        parts = parts;
        children = [];
      } in
      inr (
        record { state = state; words = top; trees = [] },
        record {
          way = v.way;
          is_frame = record {
            network = closure-network m n v.net top v.network v.is_closure;
            undecided = s.0;
            order = order;
            below = below;
            edge_is = edge_is;
            ruled = s.1;
            done = tt;
          };
          is_top = refl;
          net = v.net;
          network = v.network;
          is_closure = v.is_closure;
          rest = held;
          is_last = record { opened = refl; nodes_are = refl; number = refl; count_is = omega arith; children = refl };
          below_is = refl;
          is_way = v.is_way;
        },
      )

  -- ---- a child is done

  -- what is held after a tree is done and the search left its network
  abbrev pub with_tree : Held → NestedTree → List (List ℕ) → Held
  with_tree held t below =
      record {
        open_splits = held.open_splits;
        below = below;
        nodes = held.nodes ++ preorder (length held.nodes) t;
        count = held.count + splits t;
      }

  -- the nodes of the last split, and those of one tree more
  last-length : (f : Frame) (made : List ℕ) (rest held : Held) → IsLast f made rest held →
      length held.nodes ≡ f.state.node + 1 + sizes_of f.trees
  last-length f made rest held last =
      let x = length rest.nodes + 1 in
      omega (
        arith,
        ap length last.nodes_are,
        length-append rest.nodes
            (leaf_node Open sweep ∷ nodes_of_trees x f.trees),
        length-trees x f.trees,
        last.number,
      )

  pub child-last : (f : Frame) (rest held : Held) (t : NestedTree) →
      IsLast f (numbers_of_trees (f.state.node + 1) f.trees ++ length held.nodes ∷ []) rest held →
      IsLast (record f { trees = f.trees ++ t ∷ [] }) (numbers_of_trees (f.state.node + 1) (f.trees ++ t ∷ [])) rest
      (with_tree held t rest.below)
  child-last f rest held t last =
      let made = numbers_of_trees (f.state.node + 1) f.trees ++ length held.nodes ∷ [] in
      let long : length held.nodes ≡ f.state.node + 1 + sizes_of f.trees = last-length f made rest held last in
      let x = length rest.nodes + 1 in
      let old = nodes_of_trees x f.trees in
      let at : length held.nodes ≡ x + sizes_of f.trees = omega (arith, long, last.number) in
      record {
        opened = last.opened;
        nodes_are = ap (λ xs. xs ++ preorder (length held.nodes) t) last.nodes_are
            ∙ append_assoc rest.nodes (leaf_node Open sweep ∷ old) (preorder (length held.nodes) t)
            ∙ ap (λ k. rest.nodes ++ leaf_node Open sweep ∷ (old ++ preorder k t)) at
            ∙ ap (λ xs. rest.nodes ++ leaf_node Open sweep ∷ xs) (sym (nodes-more x f.trees t));
        number = last.number;
        count_is = omega (arith, last.count_is, splits-more f.trees t);
        children = last.children ∙ ap (λ k. numbers_of_trees (f.state.node + 1) f.trees ++ k ∷ []) long
            ∙ sym (numbers-more (f.state.node + 1) f.trees t);
      }

  -- the child of a split is done
  pub child-done : (f : Frame) (way : List Frame) (held : Held) (net closed : List ℕ) (t : NestedTree) →
      (h : IsWay m n class words (f ∷ way) held net) →
      IsClosure m n net closed → IsDone m n class closed t → IsNetwork m n h.3.3.0 →
      IsAtSplit m n class words (with_tree held t h.3.0.below) f.words (record f { trees = f.trees ++ t ∷ [] })
  child-done f way held net closed t h is_closure done network = record {
    way = way;
    is_frame = record {
      network = h.0.network;
      undecided = h.0.undecided;
      order = h.0.order;
      below = h.0.below;
      edge_is = h.0.edge_is;
      ruled = h.0.ruled;
      done = one-done m n class f.words f.state.edge f.state.parts f.trees t closed h.1 h.0.done
          (subst (λ x. IsClosure m n x closed) h.2 is_closure) done;
    };
    is_top = refl;
    net = h.3.3.0;
    network = network;
    is_closure = h.3.3.1;
    rest = h.3.0;
    is_last = child-last f h.3.0 held t h.3.1;
    below_is = refl;
    is_way = h.3.3.2;
  }

  -- the first node is done
  pub first-done : (held : Held) (net closed : List ℕ) (t : NestedTree) → IsWay m n class words [] held net →
      IsClosure m n net closed → IsDone m n class closed t →
      IsWhole m n class words (with_tree held t [])
  first-done held net closed t h is_closure done = record {
    closure = closed;
    is_closure = subst (λ x. IsClosure m n x closed) h.4 is_closure;
    tree = t;
    nodes_are = ap (λ xs. xs ++ preorder (length xs) t) h.2;
    done = done;
    count_is = omega (arith, h.3);
    closed = h.0;
  }

  -- ---- a split is closed

  pub split-done : (held : Held) (top : List ℕ) (f : Frame) → IsAtSplit m n class words held top f →
      length f.trees ≡ length f.state.parts →
      IsDone m n class f.words (tree_of f.state f.trees)
  unfolding tree_of
  split-done held top f h same =
      let bs = branches_with f.state.parts f.trees in
      let e : f.state.edge ≡ edge_at n f.state.i f.state.j = h.is_frame.edge_is in (
        record {
          no_steps = refl;
          order = h.is_frame.order;
          below = h.is_frame.below;
          undecided = h.is_frame.undecided;
          ruled = subst (λ ps. IsRuledSplit m class f.words (edge_at n f.state.i f.state.j) ps)
              (sym (branches_with-parts f.state.parts f.trees same))
              (subst (λ k. IsRuledSplit m class f.words k f.state.parts) e h.is_frame.ruled);
        },
        subst (λ k. AreDone m n class f.words k bs) e
            (all-done m n class f.words f.state.edge f.state.parts f.trees same h.is_frame.done),
      )

  pub closed-nodes : (held : Held) (top : List ℕ) (f : Frame) → (h : IsAtSplit m n class words held top f) →
      length f.trees ≡ length f.state.parts →
      set held.nodes f.state.node (node_of f.state) ≡ h.rest.nodes ++ preorder (length h.rest.nodes)
      (tree_of f.state f.trees)
  closed-nodes held top f h same =
      let r = h.rest.nodes in
      let x = length r + 1 in
      let old = nodes_of_trees x f.trees in
      ap (λ xs. set xs f.state.node (node_of f.state)) h.is_last.nodes_are
      ∙ ap (λ k. set (r ++ leaf_node Open sweep ∷ old) k (node_of f.state)) h.is_last.number
      ∙ set-middle r (leaf_node Open sweep) (node_of f.state) old
      ∙ ap (λ k. r ++ node_of f.state ∷ nodes_of_trees (k + 1) f.trees) (sym h.is_last.number)
      ∙ ap (λ xs. r ++ xs) (sym (tree_of-nodes f.state f.trees same h.is_last.children))
      ∙ ap (λ k. r ++ preorder k (tree_of f.state f.trees)) h.is_last.number

  pub closed-count : (held : Held) (top : List ℕ) (f : Frame) → (h : IsAtSplit m n class words held top f) →
      length f.trees ≡ length f.state.parts →
      held.count ≡ h.rest.count + splits (tree_of f.state f.trees)
  closed-count held top f h same = omega (arith, h.is_last.count_is, tree_of-splits f.state f.trees same)

  -- ---- the search goes down to the next part

  pub goes-down : (held : Held) (top next : List ℕ) (f : Frame) (state : SplitState) →
      (h : IsAtSplit m n class words held top f) →
      length f.trees < length f.state.parts →
      IsNetwork m n (slice_set top f.state.edge (slice_index f.state.parts (length f.trees))) →
      state ≡ record f.state { children = f.state.children ++ length held.nodes ∷ [] } →
      IsClosure m n (slice_set top f.state.edge (slice_index f.state.parts (length f.trees))) next →
      IsVisiting m n class words (record {
        open_splits = h.rest.open_splits ++ state ∷ [];
        below = held.below ++ top ∷ [];
        nodes = held.nodes;
        count = held.count;
      }) next
  goes-down held top next f state h below network state_is is_closure =
      let down : SplitState = record f.state { children = f.state.children ++ length held.nodes ∷ [] } in
      let e : top ≡ f.words = h.is_top in
      record {
        way = (record { state = down; words = f.words; trees = f.trees }) ∷ h.way;
        net = slice_set top f.state.edge (slice_index f.state.parts (length f.trees));
        is_way = (
          record {
            network = h.is_frame.network;
            undecided = h.is_frame.undecided;
            order = h.is_frame.order;
            below = h.is_frame.below;
            edge_is = h.is_frame.edge_is;
            ruled = h.is_frame.ruled;
            done = h.is_frame.done;
          },
          below,
          ap (λ xs. slice_set xs f.state.edge (slice_index f.state.parts (length f.trees))) e,
          (
            h.rest,
            record {
              opened = ap (λ x. h.rest.open_splits ++ x ∷ []) state_is;
              nodes_are = h.is_last.nodes_are;
              number = h.is_last.number;
              count_is = h.is_last.count_is;
              children = ap (λ xs. xs ++ length held.nodes ∷ []) h.is_last.children;
            },
            ap (λ xs. xs ++ top ∷ []) h.below_is ∙ ap (λ x. h.rest.below ++ x ∷ []) e,
            (h.net, h.is_closure, h.is_way),
          ),
        );
        network = network;
        is_closure = is_closure;
      }
