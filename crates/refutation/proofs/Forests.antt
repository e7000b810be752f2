-- Nodes that are formed are the preorder list of a tree: from the last node on they are those of trees, one after another.
use Rattle.std.proofs.Common.{◌≡◌, ℕ, zero, suc, ◌+◌, ◌-◌, ◌<◌, ◌≤◌, Bool, true, false, List, [], ◌∷◌, ◌++◌, length, map, drop, take, get_or, refl, sym, ◌∙◌, ap, arith, inl, inr, append_assoc, add-one, zero-add, if◌then◌else◌, slice_get, Some, length-append, ◌⊎◌}
use Rattle.std.specs.Prelude.{slice_index}
use Rattle.std.proofs.lemmas.Bool.{cases_lt}
use Rattle.std.proofs.lemmas.List.{length-drop, length-map}
use Rattle.std.proofs.lemmas.Grind.{same_number_lists}
use Rattle.std.proofs.lemmas.Option.{slice_get-get_or}
use Rattle.split_trees.specs.declared.tree.Kind.{Kind}
use Rattle.split_trees.specs.declared.tree.Kind.TheVariants.{Empty, Found, Open, Later, Split}
use Rattle.split_trees.specs.Tree.{TreeNode, sweep, NestedTree, leaf, split, Branches, no_branches, branch, is_split, is_split_kind, leaf_node, bare, size, size_of_all, parts_of, numbers_from, preorder, preorder_of_all, IsTree, AreTrees, StandsFor}
use Rattle.refutation.specs.TreeFault.{nodes_of, IsSplitAt, IsFormed, AreFormed}
use Rattle.split_trees.specs.Tree.{arity}
use Rattle.stepped_networks.proofs.ListEnds.{append-nil}
use Rattle.refutation.proofs.Pendings.{drop-there, bare-split}

-- ---- trees one after another

abbrev forest_nodes : ℕ → List NestedTree → List TreeNode
forest_nodes x [] = []
forest_nodes x (t ∷ ts) = preorder x t ++ forest_nodes (x + size t) ts

abbrev AreTreesIn : ℕ → List NestedTree → Type 0
AreTreesIn n [] = Unit {0}
AreTreesIn n (t ∷ ts) = IsTree n t × AreTreesIn n ts

abbrev sizes : List NestedTree → ℕ
sizes [] = 0
sizes (t ∷ ts) = size t + sizes ts

-- the first trees as the branches of a split into these parts
abbrev branches_of : List ℕ → List NestedTree → Branches
branches_of [] ts = no_branches
branches_of (p ∷ ps) [] = no_branches
branches_of (p ∷ ps) (t ∷ ts) = branch p t (branches_of ps ts)

-- ---- lengths

mutual
  pub length-preorder : (x : ℕ) (t : NestedTree) → length (preorder x t) ≡ size t
  length-preorder x (leaf kind steps) = refl
  length-preorder x (split i j steps bs) = sym (add-one (length (preorder_of_all (x + 1) bs))) ∙ ap (λ k. k + 1) (length-preorder_of_all (x + 1) bs)

  pub length-preorder_of_all : (x : ℕ) (bs : Branches) → length (preorder_of_all x bs) ≡ size_of_all bs
  length-preorder_of_all x no_branches = refl
  length-preorder_of_all x (branch p t bs) =
      let a = length-append (preorder x t) (preorder_of_all (x + size t) bs) in
      let l = length-preorder x t in
      let r = length-preorder_of_all (x + size t) bs in
      omega arith

pub size-some : (t : NestedTree) → 0 < size t
size-some (leaf kind steps) = omega arith
size-some (split i j steps bs) = omega arith

length-forest_nodes : (x : ℕ) (ts : List NestedTree) → length (forest_nodes x ts) ≡ sizes ts
length-forest_nodes x [] = refl
length-forest_nodes x (t ∷ ts) =
    let a = length-append (preorder x t) (forest_nodes (x + size t) ts) in
    let l = length-preorder x t in
    let r = length-forest_nodes (x + size t) ts in
    omega arith

-- ---- taking branches

take-all : (ts : List NestedTree) (k : ℕ) → length ts ≤ k → sizes (take k ts) ≡ sizes ts
take-all [] zero l = refl
take-all [] (suc k) l = refl
take-all (t ∷ ts) zero l = absurd (omega arith)
take-all (t ∷ ts) (suc k) l = ap (λ y. size t + y) (take-all ts k (omega arith))

sizes-take : (ts : List NestedTree) (a q : ℕ) → sizes (take (a + q) ts) ≡ sizes (take a ts) + sizes (take q (drop a ts))
sizes-take [] zero q = ap (λ k. sizes (take k [])) (zero-add q) ∙ sym (zero-add (sizes (take q [])))
sizes-take [] (suc a) q = none (suc a + q) ∙ sym (ap (λ y. 0 + y) (none q))
  where
    none : (k : ℕ) → sizes (take k []) ≡ 0
    none zero = refl
    none (suc k) = refl
sizes-take (t ∷ ts) zero q = ap (λ k. sizes (take k (t ∷ ts))) (zero-add q) ∙ sym (zero-add (sizes (take q (t ∷ ts))))
sizes-take (t ∷ ts) (suc a) q =
    let s : suc a + q ≡ suc (a + q) = omega arith in
    let r = sizes-take ts a q in
    ap (λ k. sizes (take k (t ∷ ts))) s ∙ ap (λ y. size t + y) r ∙ omega arith

parts_of-branches : (ps : List ℕ) (ts : List NestedTree) → length ps ≤ length ts → parts_of (branches_of ps ts) ≡ ps
parts_of-branches [] ts l = refl
parts_of-branches (p ∷ ps) [] l = absurd (omega arith)
parts_of-branches (p ∷ ps) (t ∷ ts) l = ap (λ ys. p ∷ ys) (parts_of-branches ps ts (omega arith))

size_of-branches : (ps : List ℕ) (ts : List NestedTree) → size_of_all (branches_of ps ts) ≡ sizes (take (length ps) ts)
size_of-branches [] ts = refl
size_of-branches (p ∷ ps) [] = refl
size_of-branches (p ∷ ps) (t ∷ ts) = ap (λ y. size t + y) (size_of-branches ps ts)

nodes-branches : (y : ℕ) (ps : List ℕ) (ts : List NestedTree) →
    preorder_of_all y (branches_of ps ts) ++ forest_nodes (y + size_of_all (branches_of ps ts)) (drop (length ps) ts) ≡ forest_nodes y ts
nodes-branches y [] ts = ap (λ k. forest_nodes k ts) (omega arith)
nodes-branches y (p ∷ ps) [] = refl
nodes-branches y (p ∷ ps) (t ∷ ts) =
    let more = branches_of ps ts in
    let same : y + (size t + size_of_all more) ≡ y + size t + size_of_all more = omega arith in
    append_assoc (preorder y t) (preorder_of_all (y + size t) more) (forest_nodes (y + (size t + size_of_all more)) (drop (length ps) ts))
    ∙ ap (λ k. preorder y t ++ (preorder_of_all (y + size t) more ++ forest_nodes k (drop (length ps) ts))) same
    ∙ ap (λ ys. preorder y t ++ ys) (nodes-branches (y + size t) ps ts)

length-numbers : (y : ℕ) (ps : List ℕ) (ts : List NestedTree) → length ps ≤ length ts → length (numbers_from y (branches_of ps ts)) ≡ length ps
length-numbers y [] ts l = refl
length-numbers y (p ∷ ps) [] l = absurd (omega arith)
length-numbers y (p ∷ ps) (t ∷ ts) l = ap suc (length-numbers (y + size t) ps ts (omega arith))

numbers-at : (y : ℕ) (ps : List ℕ) (ts : List NestedTree) (p : ℕ) → length ps ≤ length ts → p < length ps → slice_index (numbers_from y (branches_of ps ts)) p ≡ y + sizes (take p ts)
numbers-at y [] ts p l b = absurd (omega arith)
numbers-at y (q ∷ ps) [] p l b = absurd (omega arith)
numbers-at y (q ∷ ps) (t ∷ ts) zero l b = omega arith
numbers-at y (q ∷ ps) (t ∷ ts) (suc p) l b = numbers-at (y + size t) ps ts p (omega arith) (omega arith) ∙ omega arith

trees-branches : (n : ℕ) (ps : List ℕ) (ts : List NestedTree) → AreTreesIn n ts → AreTrees n (branches_of ps ts)
trees-branches n [] ts h = tt
trees-branches n (p ∷ ps) [] h = tt
trees-branches n (p ∷ ps) (t ∷ ts) h = (h.0, trees-branches n ps ts h.1)

trees-drop : (n k : ℕ) (ts : List NestedTree) → AreTreesIn n ts → AreTreesIn n (drop k ts)
trees-drop n zero ts h = h
trees-drop n (suc k) [] h = tt
trees-drop n (suc k) (t ∷ ts) h = trees-drop n k ts h.1

-- ---- from the last node on

-- the nodes from x on are those of trees, and k trees among them are the first k
record IsForest (n : ℕ) (nodes : List TreeNode) (x : ℕ) (ts : List NestedTree) : Type 0 where
  nodes_are : map bare (drop x nodes) ≡ forest_nodes x ts
  trees : AreTreesIn n ts
  counts : (p : ℕ) → nodes_of p (drop x nodes) ≡ sizes (take p ts)

module _ (n : ℕ) (nodes : List TreeNode) (x : ℕ) (node : TreeNode) (there : slice_get nodes x ≡ Some node) (formed : IsFormed n nodes x node) (ts : List NestedTree) (f : IsForest n nodes (x + 1) ts) where
  counts-more : (q : ℕ) → nodes_of (suc q) (drop x nodes) ≡ nodes_of (arity node + q) (drop (x + 1) nodes) + 1
  counts-more q = ap (nodes_of (suc q)) (drop-there nodes x node there)

  bare-more : map bare (drop x nodes) ≡ bare node ∷ forest_nodes (x + 1) ts
  bare-more = ap (map bare) (drop-there nodes x node there) ∙ ap (λ ys. bare node ∷ ys) f.nodes_are

  leaf-forest : is_split_kind node.kind ≡ false → IsForest n nodes x (leaf node.kind node.steps ∷ ts)
  leaf-forest no_split = record {
    nodes_are = bare-more ∙ ap (λ y. y ∷ forest_nodes (x + 1) ts) (ap (λ b. if b then node else leaf_node node.kind node.steps) no_split);
    trees = ((λ e. let bad : true ≡ false = sym (ap is_split_kind e) ∙ no_split in cc, formed.steps), f.trees);
    counts = elim [
      | zero ↦ refl
      | suc q ↦
          (let none : arity node ≡ 0 = ap (λ b. if b then length node.children else 0) no_split in
          let same : arity node + q ≡ q = omega arith in
          let c = f.counts q in
          counts-more q ∙ ap (λ k. nodes_of k (drop (x + 1) nodes) + 1) same ∙ omega arith)
    ];
  }

  module _ (is_split : node.kind ≡ Split) where
    at : IsSplitAt n nodes x node
    at = formed.form.is_split is_split

    -- there are as many trees as children
    enough : length node.parts ≤ length ts
    enough = elim (cases_lt (length ts) (length node.parts)) [
      | inr g ↦ omega arith
      | inl l ↦
          (let a = length node.children - 1 in
          let below : a < length node.children = omega (arith, at.some) in
          let number = at.numbers.numbered a below in
          let inside = at.numbers.inside a below in
          let count = f.counts a in
          let whole = take-all ts a (omega (arith, at.paired)) in
          let long : length (map bare (drop (x + 1) nodes)) ≡ sizes ts = ap length f.nodes_are ∙ length-forest_nodes (x + 1) ts in
          let same = length-map (drop (x + 1) nodes) bare in
          let rest = length-drop (x + 1) nodes in
          absurd (omega arith))
    ]

    abbrev bs : Branches
    bs = branches_of node.parts ts

    numbers_are : node.children ≡ numbers_from (x + 1) bs
    numbers_are = same_number_lists node.children (numbers_from (x + 1) bs) (sym at.paired ∙ sym (length-numbers (x + 1) node.parts ts enough))
        (λ p b. at.numbers.numbered p b ∙ ap (λ k. x + 1 + k) (f.counts p) ∙ sym (numbers-at (x + 1) node.parts ts p enough (omega (arith, at.paired))))

    node_is : node ≡ record { kind = Split; i = node.i; j = node.j; parts = parts_of bs; children = numbers_from (x + 1) bs; steps = node.steps }
    node_is =
        let parts = sym (parts_of-branches node.parts ts enough) in
        λ i. record { kind = is_split i; i = node.i; j = node.j; parts = parts i; children = numbers_are i; steps = node.steps }

    split-forest : IsForest n nodes x (split node.i node.j node.steps bs ∷ drop (length node.parts) ts)
    split-forest = record {
      nodes_are =
          bare-more
          ∙ ap (λ y. y ∷ forest_nodes (x + 1) ts) (bare-split node is_split ∙ node_is)
          ∙ ap (λ ys. record { kind = Split; i = node.i; j = node.j; parts = parts_of bs; children = numbers_from (x + 1) bs; steps = node.steps } ∷ ys)
          (sym (nodes-branches (x + 1) node.parts ts)
          ∙ ap (λ k. preorder_of_all (x + 1) bs ++ forest_nodes k (drop (length node.parts) ts)) (omega arith));
      trees = (
        (
          at.order,
          at.below,
          (let l : length (parts_of bs) ≡ length node.parts = ap length (parts_of-branches node.parts ts enough) in omega (arith, at.some, at.paired)),
          formed.steps,
          trees-branches n node.parts ts f.trees,
        ),
        trees-drop n (length node.parts) ts f.trees,
      );
      counts = elim [
        | zero ↦ refl
        | suc q ↦
            (let many : arity node ≡ length node.parts = ap (λ k. if is_split_kind k then length node.children else 0) is_split ∙ sym at.paired in
            let all = size_of-branches node.parts ts in
            let parted = sizes-take ts (length node.parts) q in
            let c = f.counts (length node.parts + q) in
            counts-more q ∙ ap (λ k. nodes_of (k + q) (drop (x + 1) nodes) + 1) many ∙ omega arith)
      ];
    }

-- some trees
record HasForest (n : ℕ) (nodes : List TreeNode) (x : ℕ) : Type 0 where
  trees : List NestedTree
  forest : IsForest n nodes x trees

kind-cases : (b : Bool) (kind : Kind) → is_split_kind kind ≡ b → (is_split_kind kind ≡ false) ⊎ (kind ≡ Split)
kind-cases b Empty e = inl refl
kind-cases b Found e = inl refl
kind-cases b Open e = inl refl
kind-cases b Later e = inl refl
kind-cases b Split e = inr refl

module _ (n : ℕ) (nodes : List TreeNode) (formed : AreFormed n nodes) where
  no-forest : (x : ℕ) → drop x nodes ≡ [] → HasForest n nodes x
  no-forest x e = record {
    trees = [];
    forest = record {
      nodes_are = ap (map bare) e;
      trees = tt;
      counts = elim [ zero ↦ refl | suc p ↦ ap (nodes_of (suc p)) e ];
    };
  }

  forest-from : (k x : ℕ) → x + k ≡ length nodes → HasForest n nodes x
  forest-from zero x e = no-forest x (drop-past nodes x (omega arith))
    where
      drop-past : (xs : List TreeNode) (k : ℕ) → length xs ≤ k → drop k xs ≡ []
      drop-past [] zero l = refl
      drop-past [] (suc k) l = refl
      drop-past (y ∷ ys) zero l = absurd (omega arith)
      drop-past (y ∷ ys) (suc k) l = drop-past ys k (omega arith)
  forest-from (suc k) x e =
      let d : TreeNode = leaf_node Empty sweep in
      let node = get_or nodes x d in
      let there : slice_get nodes x ≡ Some node = slice_get-get_or nodes x d (omega arith) in
      let more = forest-from k (x + 1) (omega arith) in
      elim (kind-cases (is_split_kind node.kind) node.kind refl) [
        | inl no_split ↦ record { trees = leaf node.kind node.steps ∷ more.trees; forest = leaf-forest n nodes x node there (formed x node there) more.trees more.forest no_split }
        | inr is_split ↦ record {
          trees = split node.i node.j node.steps (branches_of node.parts more.trees) ∷ drop (length node.parts) more.trees;
          forest = split-forest n nodes x node there (formed x node there) more.trees more.forest is_split;
        }
      ]

  -- the nodes are those of one tree
  pub tree_of-formed : 0 < length nodes → (tree : NestedTree) × StandsFor n nodes tree
  tree_of-formed some = by_forest f.trees f.forest
    where
      f : HasForest n nodes 0
      f = forest-from (length nodes) 0 (zero-add (length nodes))

      under : length nodes - 1 < nodes_of 1 nodes
      under =
          let d : TreeNode = leaf_node Empty sweep in
          (formed (length nodes - 1) (get_or nodes (length nodes - 1) d) (slice_get-get_or nodes (length nodes - 1) d (omega arith))).form.under_first

      by_forest : (ts : List NestedTree) → IsForest n nodes 0 ts → (tree : NestedTree) × StandsFor n nodes tree
      by_forest [] g = absurd (let c = g.counts 1 in omega (arith, under))
      by_forest (t ∷ []) g = (t, record { nodes_are = g.nodes_are ∙ append-nil (preorder 0 t); is_tree = g.trees.0 })
      by_forest (t ∷ u ∷ ts) g =
          let c = g.counts 1 in
          let long : length (map bare nodes) ≡ size t + (size u + sizes ts) = ap length g.nodes_are ∙ length-forest_nodes 0 (t ∷ u ∷ ts) in
          let same = length-map nodes bare in
          absurd (omega (arith, under, size-some u))
