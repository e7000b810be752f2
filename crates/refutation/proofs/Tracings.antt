-- What is still to be traced, as the walk goes on.
use Rattle.std.proofs.Common.{◌≡◌, ℕ, zero, suc, ◌+◌, ◌<◌, ◌≤◌, Bool, true, false, not, List, [], ◌∷◌, ◌++◌, length, map, drop, get_or, refl, sym, ◌∙◌, ap, subst, arith, append_assoc, if◌then◌else◌, slice_get, Some}
use Rattle.calculus_table.specs.Algebra.{Algebra}
use Rattle.calculus_table.specs.Calculus.{IsCalculus}
use Rattle.network_words.specs.Edge.{edge_at}
use Rattle.network_words.specs.Network.{IsNetwork}
use Rattle.split_trees.specs.declared.tree.Kind.{Kind}
use Rattle.split_trees.specs.declared.tree.Kind.TheVariants.{Empty, Found, Open, Later, Split}
use Rattle.split_trees.specs.declared.tree.Step.{Step}
use Rattle.refutation.specs.declared.walking.Entered.{Entered}
use Rattle.split_trees.specs.Tree.{TreeNode, NodeSteps, sweep, listed, NestedTree, leaf, split, Branches, no_branches, branch, is_split, is_split_kind, leaf_node, bare, size, size_of_all, parts_of, numbers_from, preorder, preorder_of_all, split_parts, StandsFor}
use Rattle.split_trees.specs.Refutes.{after_steps, met_at, IsRefutation}
use Rattle.stepped_networks.specs.RuledSteps.{AreCutSteps}
use Rattle.refutation.specs.Traced.{HasShape, HaveShape, IsRuled, EachRuled, IsTracedOf}
use Rattle.refutation.specs.Ways.{Pending, pending_of, nodes_pending, IsWay, HasLast, IsFinished}
use Rattle.stepped_networks.specs.Passes.{AreStepsOf}
use Rattle.refutation.specs.Tracings.{with_steps, shape_of, is_cut, AllRuled, AreLeft, IsTracing, IsTracingAt}
use Rattle.stepped_networks.proofs.ListEnds.{head-same, tail-same, append-nil}
use Rattle.refutation.proofs.Pendings.{bare-kind, bare-split, drop-there, nodes_pending-of, way-finished, way-next}
use Rattle.stepped_networks.proofs.RuledSteps.{ruled-unique, cut-unique}
use Rattle.refutation.proofs.TracedTrees.{traced_tree}
use Rattle.stepped_networks.proofs.Worked.{after_steps-network}

-- ---- shapes

shape-kind : (node : TreeNode) → (shape_of node).kind ≡ node.kind
shape-kind node = bare-kind node

shape-bare : (node : TreeNode) → shape_of (bare node) ≡ shape_of node
shape-bare node = by_test (is_split node) refl
  where
    by_test : (b : Bool) → is_split node ≡ b → shape_of (bare node) ≡ shape_of node
    by_test true e = ap shape_of (ap (λ b. if b then node else leaf_node node.kind node.steps) e)
    by_test false e =
        let whole : bare node ≡ leaf_node node.kind node.steps = ap (λ b. if b then node else leaf_node node.kind node.steps) e in
        ap shape_of whole ∙ ap (λ b. record (if b then leaf_node node.kind node.steps else leaf_node node.kind node.steps) { steps = sweep }) e
        ∙ sym (ap (λ (y : TreeNode). record y { steps = sweep }) whole)

pub map-shape-bare : (nodes : List TreeNode) → map shape_of (map bare nodes) ≡ map shape_of nodes
map-shape-bare [] = refl
map-shape-bare (node ∷ nodes) = ap (λ y. y ∷ map shape_of (map bare nodes)) (shape-bare node) ∙ ap (λ ys. shape_of node ∷ ys) (map-shape-bare nodes)

map-append : (xs ys : List TreeNode) → map shape_of (xs ++ ys) ≡ map shape_of xs ++ map shape_of ys
map-append [] ys = refl
map-append (x ∷ xs) ys = ap (λ zs. shape_of x ∷ zs) (map-append xs ys)

mutual
  size-shape : (t t' : NestedTree) → HasShape t t' → size t ≡ size t'
  size-shape (leaf kind steps) (leaf kind' steps') h = refl
  size-shape (leaf kind steps) (split i j steps' bs) h = absurd h
  size-shape (split i j steps bs) (leaf kind steps') h = absurd h
  size-shape (split i j steps bs) (split i' j' steps' bs') h = ap (λ k. k + 1) (sizes-shape bs bs' h.2)

  sizes-shape : (bs bs' : Branches) → HaveShape bs bs' → size_of_all bs ≡ size_of_all bs'
  sizes-shape no_branches no_branches h = refl
  sizes-shape no_branches (branch part child rest) h = absurd h
  sizes-shape (branch part child rest) no_branches h = absurd h
  sizes-shape (branch part child rest) (branch part' child' rest') h =
      let a = size-shape child child' h.1 in
      let b = sizes-shape rest rest' h.2 in
      omega arith

parts-shape : (bs bs' : Branches) → HaveShape bs bs' → parts_of bs ≡ parts_of bs'
parts-shape no_branches no_branches h = refl
parts-shape no_branches (branch part child rest) h = absurd h
parts-shape (branch part child rest) no_branches h = absurd h
parts-shape (branch part child rest) (branch part' child' rest') h = ap (λ p. p ∷ parts_of rest) h.0 ∙ ap (λ ps. part' ∷ ps) (parts-shape rest rest' h.2)

numbers-shape : (x : ℕ) (bs bs' : Branches) → HaveShape bs bs' → numbers_from x bs ≡ numbers_from x bs'
numbers-shape x no_branches no_branches h = refl
numbers-shape x no_branches (branch part child rest) h = absurd h
numbers-shape x (branch part child rest) no_branches h = absurd h
numbers-shape x (branch part child rest) (branch part' child' rest') h =
    ap (λ ns. x ∷ ns) (numbers-shape (x + size child) rest rest' h.2 ∙ ap (λ k. numbers_from (x + k) rest') (size-shape child child' h.1))

abbrev split_with : ℕ → ℕ → List ℕ → List ℕ → TreeNode
split_with i j parts children = record { kind = Split; i = i; j = j; parts = parts; children = children; steps = sweep }

mutual
  pub shapes : (x : ℕ) (t t' : NestedTree) → HasShape t t' → map shape_of (preorder x t) ≡ map shape_of (preorder x t')
  shapes x (leaf kind steps) (leaf kind' steps') h = ap (λ y. y ∷ []) (leaf-shape kind steps steps' ∙ ap (λ k. shape_of (leaf_node k steps')) h)
    where
      leaf-shape : (kind : Kind) (s s' : NodeSteps) → shape_of (leaf_node kind s) ≡ shape_of (leaf_node kind s')
      leaf-shape Empty s s' = refl
      leaf-shape Found s s' = refl
      leaf-shape Open s s' = refl
      leaf-shape Later s s' = refl
      leaf-shape Split s s' = refl
  shapes x (leaf kind steps) (split i j steps' bs) h = absurd h
  shapes x (split i j steps bs) (leaf kind steps') h = absurd h
  shapes x (split i j steps bs) (split i' j' steps' bs') h =
      ap (λ y. y ∷ map shape_of (preorder_of_all (x + 1) bs))
      (ap (λ a. split_with a j (parts_of bs) (numbers_from (x + 1) bs)) h.0 ∙ ap (λ b. split_with i' b (parts_of bs) (numbers_from (x + 1) bs)) h.1
      ∙ ap (λ ps. split_with i' j' ps (numbers_from (x + 1) bs)) (parts-shape bs bs' h.2) ∙ ap (split_with i' j' (parts_of bs')) (numbers-shape (x + 1) bs bs' h.2))
      ∙ ap (λ ys. split_with i' j' (parts_of bs') (numbers_from (x + 1) bs') ∷ ys) (all-shapes (x + 1) bs bs' h.2)

  all-shapes : (x : ℕ) (bs bs' : Branches) → HaveShape bs bs' → map shape_of (preorder_of_all x bs) ≡ map shape_of (preorder_of_all x bs')
  all-shapes x no_branches no_branches h = refl
  all-shapes x no_branches (branch part child rest) h = absurd h
  all-shapes x (branch part child rest) no_branches h = absurd h
  all-shapes x (branch part child rest) (branch part' child' rest') h =
      map-append (preorder x child) (preorder_of_all (x + size child) rest)
      ∙ ap (λ ys. ys ++ map shape_of (preorder_of_all (x + size child) rest)) (shapes x child child' h.1)
      ∙ ap (λ ys. map shape_of (preorder x child') ++ ys) (all-shapes (x + size child) rest rest' h.2 ∙ ap (λ k. map shape_of (preorder_of_all (x + k) rest')) (size-shape child child' h.1))
      ∙ sym (map-append (preorder x child') (preorder_of_all (x + size child') rest'))

-- ---- the walk

module _ (m : Algebra) (n : ℕ) (words : List ℕ) (nodes : List TreeNode) where
  -- all is to be traced first
  pub tracing-first : (tree traced : NestedTree) → StandsFor n nodes tree → HasShape tree traced → IsRuled m n words traced → IsTracingAt m n words nodes 0 [] words [] []
  tracing-first tree traced s h r = record {
    tree = traced;
    rest = [];
    are_left = record {
      tree = tree;
      traced = traced;
      stands = s;
      shape = h;
      ruled = r;
      nodes_are = sym (append-nil (preorder 0 traced));
      alike = sym (map-shape-bare nodes) ∙ ap (map shape_of) s.nodes_are ∙ shapes 0 tree traced h ∙ ap (map shape_of) (sym (append-nil (preorder 0 traced)));
      left = (r, tt);
    };
    is_way = refl;
  }

  -- at the end all is traced
  pub traced-end : (x : ℕ) (made : List TreeNode) (way : List Entered) (networks : List (List ℕ)) → length nodes ≤ x → IsTracing m n words nodes x made way networks → IsTracedOf m n words nodes made
  traced-end x made way networks l t =
      let a = t.are_left in
      let none : [] ≡ map shape_of (nodes_pending x t.pending) = sym (ap (map shape_of) (drop-past nodes x l)) ∙ a.alike in
      record {
        tree = a.tree;
        traced_tree = a.traced;
        stands = a.stands;
        shape = a.shape;
        ruled = a.ruled;
        nodes_are = sym (a.nodes_are ∙ ap (λ ys. made ++ ys) (none-mapped (nodes_pending x t.pending) (sym none)) ∙ append-nil made);
      }
    where
      none-mapped : (xs : List TreeNode) → map shape_of xs ≡ [] → xs ≡ []
      none-mapped [] e = refl
      none-mapped (y ∷ ys) e = absurd (cc)

      drop-past : (xs : List TreeNode) (k : ℕ) → length xs ≤ k → drop k xs ≡ []
      drop-past [] zero l = refl
      drop-past [] (suc k) l = refl
      drop-past (y ∷ ys) zero l = absurd (omega arith)
      drop-past (y ∷ ys) (suc k) l = drop-past ys k (omega arith)

  ruled-of : (w : List ℕ) (e : ℕ) (bs : Branches) (rest : List Pending) → EachRuled m n w e bs → AllRuled m n rest → AllRuled m n (pending_of w e bs ++ rest)
  ruled-of w e no_branches rest r a = a
  ruled-of w e (branch part child more) rest r a = (r.0, ruled-of w e more rest r.1 a)

-- ---- node x

module _ (m : Algebra) (n : ℕ) (words : List ℕ) (nodes : List TreeNode) (x : ℕ) (made : List TreeNode) (node : TreeNode) (there : slice_get nodes x ≡ Some node) (network : List ℕ) (steps : List Step) (worked : List ℕ) (are_steps : AreStepsOf (is_cut node) m n network steps) (worked_is : worked ≡ after_steps m n network steps) where
  -- the node as it is traced
  abbrev new : TreeNode
  new = with_steps node (listed steps)

  front : (y : TreeNode) (ys : List TreeNode) → map shape_of (drop x nodes) ≡ y ∷ ys → shape_of node ≡ y
  front y ys e = head-same _ _ _ _ (sym (ap (map shape_of) (drop-there nodes x node there)) ∙ e)

  behind : (y : TreeNode) (ys : List TreeNode) → map shape_of (drop x nodes) ≡ y ∷ ys → map shape_of (drop (x + 1) nodes) ≡ ys
  behind y ys e = tail-same _ _ _ _ (sym (ap (map shape_of) (drop-there nodes x node there)) ∙ e)

  bare-leaf : is_split node ≡ false → bare node ≡ leaf_node node.kind node.steps
  bare-leaf e = ap (λ b. if b then node else leaf_node node.kind node.steps) e

  module _ (kind : Kind) (ss : NodeSteps) (rest : List Pending) (left : AreLeft m n words nodes x made (record { tree = leaf kind ss; network = network } ∷ rest)) where
    leaf-empty : node.kind ≡ Empty
    leaf-empty =
        sym (shape-kind node) ∙ ap (λ (y : TreeNode). y.kind) (front _ _ left.alike) ∙ shape-kind (leaf_node kind ss) ∙ left.left.0.0

    leaf-not_split : is_split node ≡ false
    leaf-not_split = ap is_split_kind leaf-empty

    leaf-steps : ss ≡ listed steps
    leaf-steps =
        let cut : AreCutSteps m n network steps = subst (λ b. AreStepsOf (not b) m n network steps) leaf-not_split are_steps in
        left.left.0.1.1 ∙ ap listed (cut-unique m n network left.left.0.1.0 steps left.left.0.1.2 cut)

    leaf-new : leaf_node kind ss ≡ new
    leaf-new =
        ap (λ k. leaf_node k ss) (left.left.0.0 ∙ sym leaf-empty) ∙ ap (leaf_node node.kind) leaf-steps
        ∙ sym (ap (λ (y : TreeNode). record y { steps = listed steps }) (bare-leaf leaf-not_split))

    leaf-left : AreLeft m n words nodes (x + 1) (made ++ new ∷ []) rest
    leaf-left = record {
      tree = left.tree;
      traced = left.traced;
      stands = left.stands;
      shape = left.shape;
      ruled = left.ruled;
      nodes_are = left.nodes_are ∙ ap (λ y. made ++ (y ∷ nodes_pending (x + 1) rest)) leaf-new ∙ sym (append_assoc made (new ∷ []) (nodes_pending (x + 1) rest));
      alike = behind _ _ left.alike;
      left = left.left.1;
    }

    leaf-parts : split_parts node ≡ []
    leaf-parts = ap (λ b. if b then node.parts else []) leaf-not_split

  module _ (i j : ℕ) (ss : NodeSteps) (bs : Branches) (rest : List Pending) (left : AreLeft m n words nodes x made (record { tree = split i j ss bs; network = network } ∷ rest)) where
    abbrev whole : TreeNode
    whole = record { kind = Split; i = i; j = j; parts = parts_of bs; children = numbers_from (x + 1) bs; steps = ss }

    split-shape : shape_of node ≡ record whole { steps = sweep }
    split-shape = front _ _ left.alike

    split-kind : node.kind ≡ Split
    split-kind = sym (shape-kind node) ∙ ap (λ (y : TreeNode). y.kind) split-shape

    split-bare : bare node ≡ node
    split-bare = bare-split node split-kind

    split-own : record node { steps = sweep } ≡ record whole { steps = sweep }
    split-own = sym (ap (λ (y : TreeNode). record y { steps = sweep }) split-bare) ∙ split-shape

    split-steps : left.left.0.0 ≡ steps
    split-steps = ruled-unique m n network left.left.0.0 steps left.left.0.2 (subst (λ k. AreStepsOf (not (is_split_kind k)) m n network steps) split-kind are_steps)

    split-new : whole ≡ new
    split-new =
        ap (λ s. record whole { steps = s }) (left.left.0.1 ∙ ap listed split-steps)
        ∙ sym (ap (λ (y : TreeNode). record y { steps = listed steps }) split-own)
        ∙ sym (ap (λ (y : TreeNode). record y { steps = listed steps }) split-bare)

    split-worked : after_steps m n network left.left.0.0 ≡ worked
    split-worked = ap (after_steps m n network) split-steps ∙ sym worked_is

    split-left : AreLeft m n words nodes (x + 1) (made ++ new ∷ []) (pending_of worked (edge_at n i j) bs ++ rest)
    split-left =
        let same : x + 1 + size_of_all bs ≡ x + (size_of_all bs + 1) = omega arith in
        let after : preorder_of_all (x + 1) bs ++ nodes_pending (x + (size_of_all bs + 1)) rest ≡ nodes_pending (x + 1) (pending_of worked (edge_at n i j) bs ++ rest) =
        ap (λ k. preorder_of_all (x + 1) bs ++ nodes_pending k rest) (sym same) ∙ sym (nodes_pending-of (x + 1) worked (edge_at n i j) bs rest) in
        record {
          tree = left.tree;
          traced = left.traced;
          stands = left.stands;
          shape = left.shape;
          ruled = left.ruled;
          nodes_are =
              left.nodes_are ∙ ap (λ y. made ++ (y ∷ (preorder_of_all (x + 1) bs ++ nodes_pending (x + (size_of_all bs + 1)) rest))) split-new
              ∙ ap (λ ys. made ++ (new ∷ ys)) after ∙ sym (append_assoc made (new ∷ []) (nodes_pending (x + 1) (pending_of worked (edge_at n i j) bs ++ rest)));
          alike = behind _ _ left.alike ∙ ap (map shape_of) after;
          left = ruled-of m n words nodes worked (edge_at n i j) bs rest (subst (λ w. EachRuled m n w (edge_at n i j) bs) split-worked left.left.0.3) left.left.1;
        }

    split-parts : split_parts node ≡ parts_of bs
    split-parts =
        ap (λ k. if is_split_kind k then node.parts else []) split-kind ∙ ap (λ (y : TreeNode). y.parts) split-own

    split-edge : edge_at n i j ≡ edge_at n node.i node.j
    split-edge = sym (ap (λ (y : TreeNode). edge_at n y.i y.j) split-own)

  -- after node x was traced, its branches are left
  pub tracing-visited : (way : List Entered) (networks : List (List ℕ)) (at : Entered) → at.node ≡ x → at.next ≡ 0 → IsNetwork m n worked →
      IsTracingAt m n words nodes x made network way networks → IsTracing m n words nodes (x + 1) (made ++ new ∷ []) (at ∷ way) (worked ∷ networks)
  tracing-visited way networks at node_is next_is net v = by_tree v.tree v.rest v.are_left v.is_way
    where
      at_there : slice_get nodes at.node ≡ Some node
      at_there = subst (λ k. slice_get nodes k ≡ Some node) (sym node_is) there

      by_tree : (tree : NestedTree) (rest : List Pending) → AreLeft m n words nodes x made (record { tree = tree; network = network } ∷ rest) → IsWay m n nodes way networks rest →
          IsTracing m n words nodes (x + 1) (made ++ new ∷ []) (at ∷ way) (worked ∷ networks)
      by_tree (leaf kind ss) rest left is_way = record {
        pending = rest;
        are_left = leaf-left kind ss rest left;
        is_way = (
          rest,
          record {
            node = node;
            is_there = at_there;
            network = net;
            branches = no_branches;
            parts_are = ap (λ k. drop k (split_parts node)) next_is ∙ leaf-parts kind ss rest left;
            pending_is = refl;
          },
          is_way,
        );
      }
      by_tree (split i j ss bs) rest left is_way = record {
        pending = pending_of worked (edge_at n i j) bs ++ rest;
        are_left = split-left i j ss bs rest left;
        is_way = (
          rest,
          record {
            node = node;
            is_there = at_there;
            network = net;
            branches = bs;
            parts_are = ap (λ k. drop k (split_parts node)) next_is ∙ split-parts i j ss bs rest left;
            pending_is = ap (λ e. pending_of worked e bs ++ rest) (split-edge i j ss bs rest left);
          },
          is_way,
        );
      }

-- ---- the last node on the way

module _ (m : Algebra) (n : ℕ) (words : List ℕ) (nodes : List TreeNode) (x : ℕ) (made : List TreeNode) where
  -- there is one, where nodes are left
  tracing-left : (networks : List (List ℕ)) → x < length nodes → IsTracing m n words nodes x made [] networks → ⊥
  tracing-left [] l s =
      let none : map shape_of (drop x nodes) ≡ [] = s.are_left.alike ∙ ap (λ ps. map shape_of (nodes_pending x ps)) s.is_way in
      none-there (drop x nodes) none (long nodes x l)
    where
      none-there : (xs : List TreeNode) → map shape_of xs ≡ [] → 0 < length xs → ⊥
      none-there [] e l = omega arith
      none-there (y ∷ ys) e l = cc

      long : (xs : List TreeNode) (k : ℕ) → k < length xs → 0 < length (drop k xs)
      long [] k l = absurd (omega arith)
      long (y ∷ ys) zero l = omega arith
      long (y ∷ ys) (suc k) l = long ys k (omega arith)
  tracing-left (y ∷ ys) l s = absurd s.is_way

  pub tracing-last : (way : List Entered) (networks : List (List ℕ)) → x < length nodes → IsTracing m n words nodes x made way networks → HasLast nodes way
  tracing-last [] networks l s = absurd (tracing-left networks l s)
  tracing-last (at ∷ way) [] l s = absurd s.is_way
  tracing-last (at ∷ way) (w ∷ networks) l s = record { at = at; before = way; way_is = refl; node = s.is_way.1.node; is_there = s.is_way.1.is_there }

  pub tracing-network : (way : List Entered) (w : List ℕ) (networks : List (List ℕ)) → IsTracing m n words nodes x made way (w ∷ networks) → IsNetwork m n w
  tracing-network [] w networks s = absurd s.is_way
  tracing-network (at ∷ way) w networks s = s.is_way.1.network

  -- where its children were all entered, the one before it is the last then
  module _ (way : List Entered) (w : List ℕ) (networks : List (List ℕ)) (s : IsTracing m n words nodes x made way (w ∷ networks)) (f : IsFinished nodes way) where
    pub tracing-before : IsTracing m n words nodes x made f.before networks
    tracing-before = by_way (subst (λ y. IsTracing m n words nodes x made y (w ∷ networks)) f.way_is s)
      where
        by_way : IsTracing m n words nodes x made (f.at ∷ f.before) (w ∷ networks) → IsTracing m n words nodes x made f.before networks
        by_way t =
            let left = way-finished m n nodes (AreLeft m n words nodes x made) f.at f.before w networks f.node f.is_there f.none_left t.pending t.are_left t.is_way in
            record { pending = left.0; are_left = left.1; is_way = left.2 }

    pub tracing-under : x < length nodes → 0 < length networks
    tracing-under l = by_networks f.before networks tracing-before
      where
        by_networks : (before : List Entered) (ws : List (List ℕ)) → IsTracing m n words nodes x made before ws → 0 < length ws
        by_networks [] [] t = absurd (tracing-left [] l t)
        by_networks [] (v ∷ ws) t = omega arith
        by_networks (at ∷ before) [] t = absurd t.is_way
        by_networks (at ∷ before) (v ∷ ws) t = omega arith

  -- a child wasn't entered yet
  pub tracing-next : (at : Entered) (way : List Entered) (w : List ℕ) (networks : List (List ℕ)) (node : TreeNode) → slice_get nodes at.node ≡ Some node → at.next < length (split_parts node) →
      (entered : Entered) → entered.node ≡ at.node → entered.next ≡ at.next + 1 → IsTracing m n words nodes x made (at ∷ way) (w ∷ networks) →
      IsTracingAt m n words nodes x made (met_at w (edge_at n node.i node.j) (get_or (split_parts node) at.next 0)) (entered ∷ way) (w ∷ networks)
  tracing-next at way w networks node there l entered node_is next_is s =
      let next = way-next m n nodes (AreLeft m n words nodes x made) at way w networks node there l entered node_is next_is s.pending s.are_left s.is_way in
      record { tree = next.0; rest = next.1.0; are_left = next.1.1; is_way = next.1.2 }

-- ---- the first node

-- the tree that refutes has node 0, and its nodes are formed
pub refuting-some : (m : Algebra) (n : ℕ) (words : List ℕ) (nodes : List TreeNode) → IsRefutation m n words nodes → 0 < length nodes
refuting-some m n words [] r = absurd (no-nodes r.tree r.stands.nodes_are)
  where
    no-nodes : (t : NestedTree) → [] ≡ preorder 0 t → ⊥
    no-nodes (leaf kind steps) e = cc
    no-nodes (split i j steps bs) e = cc
refuting-some m n words (node ∷ nodes) r = omega arith

-- where it was traced, the walk has begun
pub tracing-begun : (m : Algebra) (n : ℕ) (words : List ℕ) (nodes : List TreeNode) (node : TreeNode) (steps : List Step) (worked : List ℕ) (at : Entered) → IsCalculus m → IsNetwork m n words →
    IsRefutation m n words nodes → slice_get nodes 0 ≡ Some node → AreStepsOf (is_cut node) m n words steps → worked ≡ after_steps m n words steps → at.node ≡ 0 → at.next ≡ 0 →
    IsTracing m n words nodes 1 (with_steps node (listed steps) ∷ []) (at ∷ []) (worked ∷ [])
tracing-begun m n words nodes node steps worked at k net r there are worked_is node_is next_is =
    let traced = traced_tree m n k r.tree words words r.refutes in
    tracing-visited m n words nodes 0 [] node there words steps worked are worked_is [] [] at node_is next_is
    (subst (IsNetwork m n) (sym worked_is) (after_steps-network m n words steps net)) (tracing-first m n words nodes r.tree traced.0 r.stands traced.1 traced.2)
