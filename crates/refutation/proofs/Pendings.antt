-- What is still to be looked at, as the walk goes on.
use Rattle.std.proofs.Common.{◌≡◌, ◌≢◌, ℕ, zero, suc, ◌+◌, ◌<◌, ◌≤◌, Bool, true, false, List, [], ◌∷◌, ◌++◌, length, map, drop, get_or, refl, sym, ◌∙◌, ap, subst, arith, inl, inr, ◌⊎◌, append_assoc, add-one, if◌then◌else◌, Contains, slice_get, Some}
use Rattle.std.proofs.Math.Seq.{drop-cons}
use Rattle.std.proofs.lemmas.Option.{get_or_from_slice_get, slice_get_within}
use Rattle.calculus_table.specs.Algebra.{Algebra}
use Rattle.network_words.specs.Edge.{edge_at}
use Rattle.network_words.specs.Network.{IsNetwork}
use Rattle.refutation.specs.declared.fault.TreeFault.{TreeFault}
use Rattle.split_trees.specs.declared.tree.Kind.{Kind}
use Rattle.split_trees.specs.declared.tree.Kind.TheVariants.{Empty, Found, Open, Later, Split}
use Rattle.refutation.specs.declared.walking.Entered.{Entered}
use Rattle.split_trees.specs.Tree.{TreeNode, NodeSteps, NestedTree, leaf, split, Branches, no_branches, branch, is_split, is_split_kind, leaf_node, bare, size, size_of_all, parts_of, numbers_from, preorder, preorder_of_all, split_parts, AreTrees, StandsFor}
use Rattle.split_trees.specs.Refutes.{IsWorked, IsCovered, met_at, Refutes, EachRefutes, IsRefutation}
use Rattle.refutation.specs.TreeFault.{IsLeafFault, IsFirstFaultAmong, IsNetworkFault}
use Rattle.refutation.specs.Ways.{IsSoundKind, IsSound, IsFaultAtKind, IsFaultAt, Pending, pending_of, nodes_pending, AreTreesPending, AllRefute, IsFirstPending, ArePending, IsOnWay, IsWay, IsStanding, IsVisiting}
use Rattle.stepped_networks.proofs.ListEnds.{head-same, tail-same, append-nil}

-- ---- a node and what is bare of it

if-kind : (b : Bool) (node : TreeNode) → (if b then node else leaf_node node.kind node.steps).kind ≡ node.kind
if-kind true node = refl
if-kind false node = refl

if-steps : (b : Bool) (node : TreeNode) → (if b then node else leaf_node node.kind node.steps).steps ≡ node.steps
if-steps true node = refl
if-steps false node = refl

pub bare-kind : (node : TreeNode) → (bare node).kind ≡ node.kind
bare-kind node = if-kind (is_split node) node

pub bare-steps : (node : TreeNode) → (bare node).steps ≡ node.steps
bare-steps node = if-steps (is_split node) node

pub bare-split : (node : TreeNode) → node.kind ≡ Split → bare node ≡ node
bare-split node e = ap (λ k. if is_split_kind k then node else leaf_node node.kind node.steps) e

pub leaf-kind : (kind : Kind) → kind ≢ Split → is_split_kind kind ≡ false
leaf-kind Empty h = refl
leaf-kind Found h = refl
leaf-kind Open h = refl
leaf-kind Later h = refl
leaf-kind Split h = absurd (h refl)

-- ---- soundness by kind

sound-leaf : (n : ℕ) (w : List ℕ) (node : TreeNode) (kind : Kind) → kind ≢ Split → IsSoundKind n w node kind → (kind ≡ Empty) × Contains w 0
sound-leaf n w node Empty h s = (refl, s)
sound-leaf n w node Found h s = absurd s
sound-leaf n w node Open h s = absurd s
sound-leaf n w node Later h s = absurd s
sound-leaf n w node Split h s = absurd (h refl)

fault-leaf : (n : ℕ) (w : List ℕ) (node : TreeNode) (x : ℕ) (fault : TreeFault) (kind : Kind) → kind ≢ Split → IsFaultAtKind n w node x fault kind → IsLeafFault kind w x fault
fault-leaf n w node x fault Empty h f = f
fault-leaf n w node x fault Found h f = f
fault-leaf n w node x fault Open h f = f
fault-leaf n w node x fault Later h f = f
fault-leaf n w node x fault Split h f = absurd (h refl)

-- ---- lists

pub drop-there : {A : Type 0} (xs : List A) (x : ℕ) (a : A) → slice_get xs x ≡ Some a → drop x xs ≡ a ∷ drop (x + 1) xs
drop-there xs x a e =
    let d : drop x xs ≡ get_or xs x a ∷ drop (suc x) xs = drop-cons xs x a (slice_get_within xs x a e) in
    d ∙ ap (λ y. y ∷ drop (suc x) xs) (get_or_from_slice_get xs x a a e) ∙ ap (λ k. a ∷ drop k xs) (sym (add-one x))

-- ---- branches as pending trees

pub nodes_pending-of : (x : ℕ) (w : List ℕ) (e : ℕ) (branches : Branches) (rest : List Pending) →
    nodes_pending x (pending_of w e branches ++ rest) ≡ preorder_of_all x branches ++ nodes_pending (x + size_of_all branches) rest
nodes_pending-of x w e no_branches rest = ap (λ k. nodes_pending k rest) (omega arith)
nodes_pending-of x w e (branch part child more) rest =
    let same : x + size child + size_of_all more ≡ x + (size child + size_of_all more) = omega arith in
    ap (λ ys. preorder x child ++ ys) (nodes_pending-of (x + size child) w e more rest)
    ∙ sym (append_assoc (preorder x child) (preorder_of_all (x + size child) more) (nodes_pending (x + size child + size_of_all more) rest))
    ∙ ap (λ k. preorder x child ++ preorder_of_all (x + size child) more ++ nodes_pending k rest) same

trees-of : (n : ℕ) (w : List ℕ) (e : ℕ) (branches : Branches) (rest : List Pending) → AreTrees n branches → AreTreesPending n rest → AreTreesPending n (pending_of w e branches ++ rest)
trees-of n w e no_branches rest t r = r
trees-of n w e (branch part child more) rest t r = (t.0, trees-of n w e more rest t.1 r)

module _ (m : Algebra) (n : ℕ) where
  refute-of : (w : List ℕ) (e : ℕ) (branches : Branches) (rest : List Pending) → AllRefute m n (pending_of w e branches ++ rest) → EachRefutes m n w e branches × AllRefute m n rest
  refute-of w e no_branches rest a = (tt, a)
  refute-of w e (branch part child more) rest a =
      let r = refute-of w e more rest a.1 in
      ((a.0, r.0), r.1)

  first-of : (fault : TreeFault) (x : ℕ) (w : List ℕ) (e : ℕ) (branches : Branches) (rest : List Pending) → IsFirstPending m n fault x (pending_of w e branches ++ rest) →
      IsFirstFaultAmong m n w e fault x branches ⊎ (EachRefutes m n w e branches × IsFirstPending m n fault (x + size_of_all branches) rest)
  first-of fault x w e no_branches rest f = inr (tt, subst (λ k. IsFirstPending m n fault k rest) (omega arith) f)
  first-of fault x w e (branch part child more) rest f = elim f [
    | inl here ↦ inl (inl here)
    | inr later ↦ elim (first-of fault (x + size child) w e more rest later.1) [
      | inl among ↦ inl (inr (later.0, among))
      | inr after ↦ inr ((later.0, after.0), subst (λ k. IsFirstPending m n fault k rest) (omega arith) after.1)
    ]
  ]

-- ---- the walk

module _ (m : Algebra) (n : ℕ) (words : List ℕ) (nodes : List TreeNode) where
  pub visiting-first : (tree : NestedTree) → StandsFor n nodes tree → IsVisiting m n words nodes 0 words [] []
  visiting-first tree s = record {
    tree = tree;
    rest = [];
    are_pending = record {
      nodes_are = s.nodes_are ∙ sym (append-nil (preorder 0 tree));
      trees = (s.is_tree, tt);
      refutes = λ a. record { tree = tree; stands = s; refutes = a.0 };
      faults = λ fault f. elim f [ inl first ↦ record { tree = tree; stands = s; first = first } | inr later ↦ absurd later.1 ];
    };
    is_way = refl;
  }

  -- where a whole list was looked at, the tree refutes
  none-left : (x : ℕ) (pending : List Pending) → [] ≡ nodes_pending x pending → AllRefute m n pending
  none-left x [] e = tt
  none-left x (p ∷ ps) e = absurd (no-nodes x p.tree (nodes_pending (x + size p.tree) ps) e)
    where
      no-nodes : (x : ℕ) (tree : NestedTree) (ys : List TreeNode) → [] ≡ preorder x tree ++ ys → ⊥
      no-nodes x (leaf kind steps) ys e = cc
      no-nodes x (split i j steps _) ys e = cc

  pub standing-end : (x : ℕ) (way : List Entered) (networks : List (List ℕ)) → length nodes ≤ x → IsStanding m n words nodes x way networks → IsRefutation m n words nodes
  standing-end x way networks l s =
      s.are_pending.refutes (none-left x s.pending (sym (ap (map bare) (drop-past nodes x l)) ∙ s.are_pending.nodes_are))
    where
      drop-past : (xs : List TreeNode) (k : ℕ) → length xs ≤ k → drop k xs ≡ []
      drop-past [] zero l = refl
      drop-past [] (suc k) l = refl
      drop-past (y ∷ ys) zero l = absurd (omega arith)
      drop-past (y ∷ ys) (suc k) l = drop-past ys k (omega arith)

module _ (m : Algebra) (n : ℕ) (words : List ℕ) (nodes : List TreeNode) (x : ℕ) (node : TreeNode) (there : slice_get nodes x ≡ Some node) (network w : List ℕ) (worked : IsWorked m n node.steps network w) where
  -- the nodes of what is pending begin with node x
  front : (ys : List TreeNode) → map bare (drop x nodes) ≡ ys → bare node ∷ map bare (drop (x + 1) nodes) ≡ ys
  front ys e = sym (ap (map bare) (drop-there nodes x node there)) ∙ e

  module _ (kind : Kind) (steps : NodeSteps) (rest : List Pending) (pending : ArePending m n words nodes x (record { tree = leaf kind steps; network = network } ∷ rest)) where
    leaf-is : bare node ∷ map bare (drop (x + 1) nodes) ≡ leaf_node kind steps ∷ nodes_pending (x + 1) rest
    leaf-is = front (leaf_node kind steps ∷ nodes_pending (x + 1) rest) pending.nodes_are

    leaf-head : bare node ≡ leaf_node kind steps
    leaf-head = head-same _ _ _ _ leaf-is

    leaf-kind_is : node.kind ≡ kind
    leaf-kind_is = sym (bare-kind node) ∙ ap (λ (y : TreeNode). y.kind) leaf-head

    leaf-steps_are : node.steps ≡ steps
    leaf-steps_are = sym (bare-steps node) ∙ ap (λ (y : TreeNode). y.steps) leaf-head

    leaf-worked : IsWorked m n steps network w
    leaf-worked = subst (λ s. IsWorked m n s network w) leaf-steps_are worked

    leaf-parts : split_parts node ≡ []
    leaf-parts =
        ap (λ k. if is_split_kind k then node.parts else []) leaf-kind_is ∙ ap (λ b. if b then node.parts else []) (leaf-kind kind pending.trees.0.0)

    leaf-pending : IsSound n w node → ArePending m n words nodes (x + 1) rest
    leaf-pending sound =
        let s = sound-leaf n w node kind pending.trees.0.0 (subst (IsSoundKind n w node) leaf-kind_is sound) in
        let r : Refutes m n network (leaf kind steps) = (s.0, (w, leaf-worked, s.1)) in
        record {
          nodes_are = tail-same _ _ _ _ leaf-is;
          trees = pending.trees.1;
          refutes = λ a. pending.refutes (r, a);
          faults = λ fault f. pending.faults fault (inr (r, f));
        }

    leaf-fault : (fault : TreeFault) → IsFaultAt n w node x fault → IsNetworkFault m n words nodes fault
    leaf-fault fault f =
        pending.faults fault (inl (w, leaf-worked, fault-leaf n w node x fault kind pending.trees.0.0 (subst (IsFaultAtKind n w node x fault) leaf-kind_is f)))

  module _ (i j : ℕ) (steps : NodeSteps) (bs : Branches) (rest : List Pending) (pending : ArePending m n words nodes x (record { tree = split i j steps bs; network = network } ∷ rest)) where
    abbrev whole : TreeNode
    whole = record { kind = Split; i = i; j = j; parts = parts_of bs; children = numbers_from (x + 1) bs; steps = steps }

    split-front : bare node ∷ map bare (drop (x + 1) nodes) ≡ whole ∷ (preorder_of_all (x + 1) bs ++ nodes_pending (x + (size_of_all bs + 1)) rest)
    split-front = front _ pending.nodes_are

    split-is : node ≡ whole
    split-is =
        let head : bare node ≡ whole = head-same _ _ _ _ split-front in
        sym (bare-split node (sym (bare-kind node) ∙ ap (λ (y : TreeNode). y.kind) head)) ∙ head

    split-worked : IsWorked m n steps network w
    split-worked = subst (λ (y : TreeNode). IsWorked m n y.steps network w) split-is worked

    split-pending : IsSound n w node → ArePending m n words nodes (x + 1) (pending_of w (edge_at n i j) bs ++ rest)
    split-pending sound =
        let covered : IsCovered w (edge_at n i j) (parts_of bs) = subst (IsSound n w) split-is sound in
        let same : x + 1 + size_of_all bs ≡ x + (size_of_all bs + 1) = omega arith in
        record {
          nodes_are =
              tail-same _ _ _ _ split-front
              ∙ ap (λ k. preorder_of_all (x + 1) bs ++ nodes_pending k rest) (sym same)
              ∙ sym (nodes_pending-of (x + 1) w (edge_at n i j) bs rest);
          trees = trees-of n w (edge_at n i j) bs rest pending.trees.0.4 pending.trees.1;
          refutes = λ a.
              let r = refute-of m n w (edge_at n i j) bs rest a in
              pending.refutes ((w, split-worked, covered, r.0), r.1);
          faults = λ fault f. elim (first-of m n fault (x + 1) w (edge_at n i j) bs rest f) [
            | inl among ↦ pending.faults fault (inl (w, split-worked, inr (covered, among)))
            | inr later ↦ pending.faults fault (inr ((w, split-worked, covered, later.0), subst (λ k. IsFirstPending m n fault k rest) same later.1))
          ];
        }

    split-fault : (fault : TreeFault) → IsFaultAt n w node x fault → IsNetworkFault m n words nodes fault
    split-fault fault f =
        let uncovered : IsFaultAt n w whole x fault = subst (λ (y : TreeNode). IsFaultAt n w y x fault) split-is f in
        pending.faults fault (inl (w, split-worked, inl uncovered))

  -- after node x was looked at, its branches are pending
  pub standing-visited : (way : List Entered) (networks : List (List ℕ)) (at : Entered) → at.node ≡ x → at.next ≡ 0 → IsNetwork m n w → IsSound n w node →
      IsVisiting m n words nodes x network way networks → IsStanding m n words nodes (x + 1) (at ∷ way) (w ∷ networks)
  standing-visited way networks at node_is next_is net sound v = by_tree v.tree v.rest v.are_pending v.is_way
    where
      at_there : slice_get nodes at.node ≡ Some node
      at_there = subst (λ k. slice_get nodes k ≡ Some node) (sym node_is) there

      by_tree : (tree : NestedTree) (rest : List Pending) → ArePending m n words nodes x (record { tree = tree; network = network } ∷ rest) → IsWay m n nodes way networks rest →
          IsStanding m n words nodes (x + 1) (at ∷ way) (w ∷ networks)
      by_tree (leaf kind steps) rest pending is_way = record {
        pending = rest;
        are_pending = leaf-pending kind steps rest pending sound;
        is_way = (
          rest,
          record {
            node = node;
            is_there = at_there;
            network = net;
            branches = no_branches;
            parts_are = ap (λ k. drop k (split_parts node)) next_is ∙ leaf-parts kind steps rest pending;
            pending_is = refl;
          },
          is_way,
        );
      }
      by_tree (split i j steps bs) rest pending is_way = record {
        pending = pending_of w (edge_at n i j) bs ++ rest;
        are_pending = split-pending i j steps bs rest pending sound;
        is_way = (
          rest,
          record {
            node = node;
            is_there = at_there;
            network = net;
            branches = bs;
            parts_are = ap (λ k. drop k (split_parts node)) next_is ∙ ap split_parts (split-is i j steps bs rest pending);
            pending_is = ap (λ (y : TreeNode). pending_of w (edge_at n y.i y.j) bs ++ rest) (sym (split-is i j steps bs rest pending));
          },
          is_way,
        );
      }

  -- what is wrong with node x is the first fault
  pub fault-visited : (way : List Entered) (networks : List (List ℕ)) (fault : TreeFault) → IsFaultAt n w node x fault → IsVisiting m n words nodes x network way networks → IsNetworkFault m n words nodes fault
  fault-visited way networks fault f v = by_tree v.tree v.rest v.are_pending
    where
      by_tree : (tree : NestedTree) (rest : List Pending) → ArePending m n words nodes x (record { tree = tree; network = network } ∷ rest) → IsNetworkFault m n words nodes fault
      by_tree (leaf kind steps) rest pending = leaf-fault kind steps rest pending fault f
      by_tree (split i j steps bs) rest pending = split-fault i j steps bs rest pending fault f

-- ---- the last node on the way

-- whatever is known of what is pending
module _ (m : Algebra) (n : ℕ) (nodes : List TreeNode) (P : List Pending → Type 0) (at : Entered) (way : List Entered) (w : List ℕ) (networks : List (List ℕ)) (node : TreeNode) (there : slice_get nodes at.node ≡ Some node) where
  one-node : (other : TreeNode) → slice_get nodes at.node ≡ Some other → other ≡ node
  one-node other e = let same : Some other ≡ Some node = sym e ∙ there in cc

  -- where all its children were entered, the rest is pending of the nodes before it
  pub way-finished : length (split_parts node) ≤ at.next → (pending : List Pending) → P pending → IsWay m n nodes (at ∷ way) (w ∷ networks) pending →
      (rest : List Pending) × P rest × IsWay m n nodes way networks rest
  way-finished l pending p is_way = (is_way.0, subst P (last is_way.1) p, is_way.2)
    where
      past : (xs : List ℕ) (k : ℕ) → length xs ≤ k → drop k xs ≡ []
      past [] zero l = refl
      past [] (suc k) l = refl
      past (y ∷ ys) zero l = absurd (omega arith)
      past (y ∷ ys) (suc k) l = past ys k (omega arith)

      no-parts : (bs : Branches) (e : ℕ) → [] ≡ parts_of bs → pending_of w e bs ≡ []
      no-parts no_branches e h = refl
      no-parts (branch part child more) e h = absurd (let bad : [] ≡ part ∷ parts_of more = h in cc)

      last : IsOnWay m n nodes at w pending is_way.0 → pending ≡ is_way.0
      last on =
          let same : on.node ≡ node = one-node on.node on.is_there in
          let none : [] ≡ parts_of on.branches = sym (past (split_parts node) at.next l) ∙ ap (λ y. drop at.next (split_parts y)) (sym same) ∙ on.parts_are in
          on.pending_is ∙ ap (λ ps. ps ++ is_way.0) (no-parts on.branches (edge_at n on.node.i on.node.j) none)

  -- where a child wasn't entered yet, its tree is pending first
  pub way-next : at.next < length (split_parts node) → (entered : Entered) → entered.node ≡ at.node → entered.next ≡ at.next + 1 → (pending : List Pending) → P pending →
      IsWay m n nodes (at ∷ way) (w ∷ networks) pending →
      (tree : NestedTree) × ((rest : List Pending)
      × P (record { tree = tree; network = met_at w (edge_at n node.i node.j) (get_or (split_parts node) at.next 0) } ∷ rest) × IsWay m n nodes (entered ∷ way) (w ∷ networks) rest)
  way-next l entered node_is next_is pending p is_way = by_branches on.branches parts (on.pending_is ∙ ap (λ (y : TreeNode). pending_of w (edge_at n y.i y.j) on.branches ++ is_way.0) same)
    where
      on : IsOnWay m n nodes at w pending is_way.0
      on = is_way.1

      same : on.node ≡ node
      same = one-node on.node on.is_there

      part : ℕ
      part = get_or (split_parts node) at.next 0

      parts : part ∷ drop (suc at.next) (split_parts node) ≡ parts_of on.branches
      parts = sym (drop-cons (split_parts node) at.next 0 l) ∙ ap (λ y. drop at.next (split_parts y)) (sym same) ∙ on.parts_are

      by_branches : (bs : Branches) → part ∷ drop (suc at.next) (split_parts node) ≡ parts_of bs → pending ≡ pending_of w (edge_at n node.i node.j) bs ++ is_way.0 →
          (tree : NestedTree) × ((rest : List Pending) × P (record { tree = tree; network = met_at w (edge_at n node.i node.j) part } ∷ rest) × IsWay m n nodes (entered ∷ way) (w ∷ networks) rest)
      by_branches no_branches e h = absurd (let bad : part ∷ drop (suc at.next) (split_parts node) ≡ [] = e in cc)
      by_branches (branch q child more) e h =
          let front : part ≡ q = head-same _ _ _ _ e in
          let rest = pending_of w (edge_at n node.i node.j) more ++ is_way.0 in (
            child,
            (
              rest,
              subst P (h ∙ ap (λ r. record { tree = child; network = met_at w (edge_at n node.i node.j) r } ∷ rest) (sym front)) p,
              (
                is_way.0,
                record {
                  node = node;
                  is_there = subst (λ k. slice_get nodes k ≡ Some node) (sym node_is) there;
                  network = on.network;
                  branches = more;
                  parts_are = ap (λ k. drop k (split_parts node)) (next_is ∙ add-one at.next) ∙ tail-same _ _ _ _ e;
                  pending_is = refl;
                },
                is_way.2,
              ),
            ),
          )

module _ (m : Algebra) (n : ℕ) (words : List ℕ) (nodes : List TreeNode) (x : ℕ) where
  -- there is one, where nodes are left
  pub standing-left : (networks : List (List ℕ)) → x < length nodes → IsStanding m n words nodes x [] networks → ⊥
  standing-left [] l s =
      let none : map bare (drop x nodes) ≡ [] = s.are_pending.nodes_are ∙ ap (nodes_pending x) s.is_way in
      none-there (drop x nodes) none (long nodes x l)
    where
      none-there : (xs : List TreeNode) → map bare xs ≡ [] → 0 < length xs → ⊥
      none-there [] e l = omega arith
      none-there (y ∷ ys) e l = cc

      long : (xs : List TreeNode) (k : ℕ) → k < length xs → 0 < length (drop k xs)
      long [] k l = absurd (omega arith)
      long (y ∷ ys) zero l = omega arith
      long (y ∷ ys) (suc k) l = long ys k (omega arith)
  standing-left (y ∷ ys) l s = absurd s.is_way

  pub standing-networks : (at : Entered) (way : List Entered) → IsStanding m n words nodes x (at ∷ way) [] → ⊥
  standing-networks at way s = s.is_way

  module _ (at : Entered) (way : List Entered) (w : List ℕ) (networks : List (List ℕ)) (node : TreeNode) (there : slice_get nodes at.node ≡ Some node) where
    -- all its children were entered
    pub standing-finished : length (split_parts node) ≤ at.next → IsStanding m n words nodes x (at ∷ way) (w ∷ networks) → IsStanding m n words nodes x way networks
    standing-finished l s =
        let left = way-finished m n nodes (ArePending m n words nodes x) at way w networks node there l s.pending s.are_pending s.is_way in
        record { pending = left.0; are_pending = left.1; is_way = left.2 }

    -- a child wasn't entered yet
    pub visiting-next : at.next < length (split_parts node) → (entered : Entered) → entered.node ≡ at.node → entered.next ≡ at.next + 1 → IsStanding m n words nodes x (at ∷ way) (w ∷ networks) →
        IsVisiting m n words nodes x (met_at w (edge_at n node.i node.j) (get_or (split_parts node) at.next 0)) (entered ∷ way) (w ∷ networks)
    visiting-next l entered node_is next_is s =
        let next = way-next m n nodes (ArePending m n words nodes x) at way w networks node there l entered node_is next_is s.pending s.are_pending s.is_way in
        record { tree = next.0; rest = next.1.0; are_pending = next.1.1; is_way = next.1.2 }
