-- A list of nodes has one fault at most, and none where it refutes.
use Rattle.std.proofs.Common.{◌≡◌, ◌≢◌, ℕ, ◌+◌, ◌⊎◌, List, [], ◌∷◌, ◌++◌, length, map, refl, sym, ◌∙◌, ap, subst, arith, inl, inr, Contains, append_assoc, slice_get, Some}
use Rattle.std.proofs.lemmas.Bool.{cases_lt, cases_eq}
use Rattle.std.proofs.lemmas.Option.{same_Some, slice_get_within, get_or_from_slice_get}
use Rattle.calculus_table.specs.Algebra.{Algebra}
use Rattle.network_words.specs.Edge.{edge_at, IsProperTriple}
use Rattle.network_words.proofs.Networks.{IsClosure-unique}
use Rattle.refutation.specs.declared.fault.TreeFault.{TreeFault}
use Rattle.refutation.specs.declared.fault.TreeFault.TheVariants.{Uncovered, NotEmpty, BadTree, BadStep, Memory}
use Rattle.split_trees.specs.declared.tree.Kind.{Kind}
use Rattle.split_trees.specs.declared.tree.Kind.TheVariants.{Empty, Found, Open, Later, Split}
use Rattle.split_trees.specs.declared.tree.Step.{Step}
use Rattle.split_trees.specs.Tree.{TreeNode, NodeSteps, sweep, listed, NestedTree, leaf, split, Branches, no_branches, branch, leaf_node, bare, size, parts_of, preorder, preorder_of_all, AreSteps, IsTree, AreTrees, StandsFor}
use Rattle.split_trees.specs.Refutes.{IsWorked, IsCovered, met_at, Refutes, EachRefutes, IsRefutation}
use Rattle.refutation.specs.TreeFault.{HasForm, IsFormed, IsReached, IsFirstBadForm, IsFirstBadSteps, HasBadStep, IsFormFault, IsLeafFault, IsFirstFault, IsFirstFaultAmong, IsFaultOf}
use Rattle.stepped_networks.proofs.ListEnds.{head-same, tail-same, append-nil}
use Rattle.refutation.proofs.Numbered.{formed-tree}

-- ---- networks

module _ (m : Algebra) (n : ℕ) where
  worked-one : (words a b : List ℕ) (steps : NodeSteps) → IsWorked m n steps words a → IsWorked m n steps words b → a ≡ b
  worked-one words a b sweep p q = IsClosure-unique m n words a b p q
  worked-one words a b (listed steps) p q = p ∙ sym q

  leaf-sound : (kind : Kind) (w : List ℕ) (x : ℕ) (fault : TreeFault) → kind ≡ Empty → Contains w 0 → IsLeafFault kind w x fault → ⊥
  leaf-sound Empty w x fault e c f = f.1 c
  leaf-sound Found w x fault e c f = cc
  leaf-sound Open w x fault e c f = cc
  leaf-sound Later w x fault e c f = cc
  leaf-sound Split w x fault e c f = f

  leaf-one : (kind : Kind) (w : List ℕ) (x : ℕ) (f g : TreeFault) → IsLeafFault kind w x f → IsLeafFault kind w x g → f ≡ g
  leaf-one Empty w x f g p q = p.0 ∙ sym q.0
  leaf-one Found w x f g p q = p ∙ sym q
  leaf-one Open w x f g p q = p ∙ sym q
  leaf-one Later w x f g p q = p ∙ sym q
  leaf-one Split w x f g p q = absurd p

  mutual
    -- a tree that refutes has no fault
    no-first : (t : NestedTree) (words : List ℕ) (x : ℕ) (fault : TreeFault) → Refutes m n words t → IsFirstFault m n words fault x t → ⊥
    no-first (leaf kind steps) words x fault r f =
        leaf-sound kind f.0 x fault r.0 (subst (λ w. Contains w 0) (worked-one words r.1.0 f.0 steps r.1.1 f.1) r.1.2) f.2
    no-first (split i j steps bs) words x fault r f =
        let same : r.0 ≡ f.0 = worked-one words r.0 f.0 steps r.1 f.1 in
        elim f.2 [
          | inl uncovered ↦ uncovered.1 (subst (λ w. IsCovered w (edge_at n i j) (parts_of bs)) same r.2)
          | inr among ↦ no-first-among bs f.0 (edge_at n i j) (x + 1) fault (subst (λ w. EachRefutes m n w (edge_at n i j) bs) same r.3) among.1
        ]

    no-first-among : (bs : Branches) (w : List ℕ) (e x : ℕ) (fault : TreeFault) → EachRefutes m n w e bs → IsFirstFaultAmong m n w e fault x bs → ⊥
    no-first-among no_branches w e x fault r f = f
    no-first-among (branch p t bs) w e x fault r f = elim f [
      | inl here ↦ no-first t (met_at w e p) x fault r.0 here
      | inr later ↦ no-first-among bs w e (x + size t) fault r.1 later.1
    ]

  split-one : (e : ℕ) (parts : List ℕ) (x : ℕ) (f g : TreeFault) (bs : Branches) (v w : List ℕ) → v ≡ w →
      (IsFirstFaultAmong m n w e f (x + 1) bs → IsFirstFaultAmong m n w e g (x + 1) bs → f ≡ g) →
      ((f ≡ Uncovered x) × (¬ IsCovered v e parts)) ⊎ (IsCovered v e parts × IsFirstFaultAmong m n v e f (x + 1) bs) →
      ((g ≡ Uncovered x) × (¬ IsCovered w e parts)) ⊎ (IsCovered w e parts × IsFirstFaultAmong m n w e g (x + 1) bs) → f ≡ g
  split-one e parts x f g bs v w same among p q = elim p [
    | inl a ↦ elim q [ inl b ↦ a.0 ∙ sym b.0 | inr b ↦ absurd (a.1 (subst (λ y. IsCovered y e parts) (sym same) b.0)) ]
    | inr a ↦ elim q [
      | inl b ↦ absurd (b.1 (subst (λ y. IsCovered y e parts) same a.0))
      | inr b ↦ among (subst (λ y. IsFirstFaultAmong m n y e f (x + 1) bs) same a.1) b.1
    ]
  ]

  mutual
    -- and another has one
    first-one : (t : NestedTree) (words : List ℕ) (x : ℕ) (f g : TreeFault) → IsFirstFault m n words f x t → IsFirstFault m n words g x t → f ≡ g
    first-one (leaf kind steps) words x f g p q =
        leaf-one kind q.0 x f g (subst (λ w. IsLeafFault kind w x f) (worked-one words p.0 q.0 steps p.1 q.1) p.2) q.2
    first-one (split i j steps bs) words x f g p q =
        split-one (edge_at n i j) (parts_of bs) x f g bs p.0 q.0 (worked-one words p.0 q.0 steps p.1 q.1)
        (λ a b. among-one bs q.0 (edge_at n i j) (x + 1) f g a b) p.2 q.2

    among-one : (bs : Branches) (w : List ℕ) (e x : ℕ) (f g : TreeFault) → IsFirstFaultAmong m n w e f x bs → IsFirstFaultAmong m n w e g x bs → f ≡ g
    among-one no_branches w e x f g p q = absurd p
    among-one (branch part t bs) w e x f g p q = elim p [
      | inl a ↦ elim q [
        | inl b ↦ first-one t (met_at w e part) x f g a b
        | inr b ↦ absurd (no-first t (met_at w e part) x f b.0 a)
      ]
      | inr a ↦ elim q [
        | inl b ↦ absurd (no-first t (met_at w e part) x g a.0 b)
        | inr b ↦ among-one bs w e (x + size t) f g a.1 b.1
      ]
    ]

-- ---- the tree that a list stands for

abbrev SameFront : NestedTree → NestedTree → List TreeNode → List TreeNode → Type 0
SameFront t u xs ys = (t ≡ u) × (xs ≡ ys)

mutual
  preorder-one : (n x : ℕ) (t u : NestedTree) (xs ys : List TreeNode) → IsTree n t → IsTree n u → preorder x t ++ xs ≡ preorder x u ++ ys → SameFront t u xs ys
  preorder-one n x (leaf kind steps) (leaf kind' steps') xs ys a b e =
      let head : leaf_node kind steps ≡ leaf_node kind' steps' = head-same _ _ _ _ e in
      let k = ap (λ (y : TreeNode). y.kind) head in
      let s = ap (λ (y : TreeNode). y.steps) head in
      (λ i. leaf (k i) (s i), tail-same _ _ _ _ e)
  preorder-one n x (leaf kind steps) (split i j steps' bs) xs ys a b e = absurd (a.0 (ap (λ (y : TreeNode). y.kind) (head-same _ _ _ _ e)))
  preorder-one n x (split i j steps bs) (leaf kind' steps') xs ys a b e = absurd (b.0 (sym (ap (λ (y : TreeNode). y.kind) (head-same _ _ _ _ e))))
  preorder-one n x (split i j steps bs) (split i' j' steps' bs') xs ys a b e =
      let head = head-same _ _ _ _ e in
      let is_i = ap (λ (y : TreeNode). y.i) head in
      let is_j = ap (λ (y : TreeNode). y.j) head in
      let is_steps = ap (λ (y : TreeNode). y.steps) head in
      let rest = branches-one n (x + 1) bs bs' xs ys a.4 b.4 (ap (λ (y : TreeNode). y.parts) head) (tail-same _ _ _ _ e) in
      (λ k. split (is_i k) (is_j k) (is_steps k) (rest.0 k), rest.1)

  branches-one : (n y : ℕ) (bs cs : Branches) (xs ys : List TreeNode) → AreTrees n bs → AreTrees n cs → parts_of bs ≡ parts_of cs → preorder_of_all y bs ++ xs ≡ preorder_of_all y cs ++ ys →
      (bs ≡ cs) × (xs ≡ ys)
  branches-one n y no_branches no_branches xs ys a b p e = (refl, e)
  branches-one n y no_branches (branch q u cs) xs ys a b p e = absurd (let bad : [] ≡ q ∷ parts_of cs = p in cc)
  branches-one n y (branch p' t bs) no_branches xs ys a b p e = absurd (let bad : p' ∷ parts_of bs ≡ [] = p in cc)
  branches-one n y (branch p' t bs) (branch q u cs) xs ys a b p e =
      let whole = sym (append_assoc (preorder y t) (preorder_of_all (y + size t) bs) xs) ∙ e ∙ append_assoc (preorder y u) (preorder_of_all (y + size u) cs) ys in
      let first = preorder-one n y t u (preorder_of_all (y + size t) bs ++ xs) (preorder_of_all (y + size u) cs ++ ys) a.0 b.0 whole in
      let number = ap size first.0 in
      let more = branches-one n (y + size t) bs cs xs ys a.1 b.1 (tail-same _ _ _ _ p) (first.1 ∙ ap (λ k. preorder_of_all (y + k) cs ++ ys) (sym number)) in
      let part = head-same _ _ _ _ p in
      (λ k. branch (part k) (first.0 k) (more.0 k), more.1)

pub tree-one : (n : ℕ) (nodes : List TreeNode) (t u : NestedTree) → StandsFor n nodes t → StandsFor n nodes u → t ≡ u
tree-one n nodes t u p q =
    (preorder-one n 0 t u [] [] p.is_tree q.is_tree (append-nil (preorder 0 t) ∙ sym p.nodes_are ∙ q.nodes_are ∙ sym (append-nil (preorder 0 u)))).0

-- ---- forms

steps-one : (n : ℕ) (node : TreeNode) (s : ℕ) → AreSteps n node.steps → HasBadStep n node s → ⊥
steps-one n node s a b =
    let all : AreSteps n (listed b.steps) = subst (AreSteps n) b.steps_are a in
    b.first.here (subst (λ (y : Step). IsProperTriple n y.i y.j y.k) (get_or_from_slice_get b.steps s b.first.step b.first.step b.first.is_there) (all s b.first.step (slice_get_within b.steps s b.first.step b.first.is_there)))

-- a node that isn't formed, after nodes that are
record IsFirstUnformed (n : ℕ) (nodes : List TreeNode) (x : ℕ) : Type 0 where
  node : TreeNode
  reached : IsReached n nodes x node
  here : ¬ IsFormed n nodes x node

unformed-form : (n : ℕ) (nodes : List TreeNode) (x : ℕ) → IsFirstBadForm n nodes x → IsFirstUnformed n nodes x
unformed-form n nodes x f = record { node = f.node; reached = f.reached; here = λ h. f.form h.form }

unformed-steps : (n : ℕ) (nodes : List TreeNode) (x s : ℕ) → IsFirstBadSteps n nodes x s → IsFirstUnformed n nodes x
unformed-steps n nodes x s f = record { node = f.node; reached = f.reached; here = λ h. steps-one n f.node s h.steps f.step }

unformed-one : (n : ℕ) (nodes : List TreeNode) (x y : ℕ) → IsFirstUnformed n nodes x → IsFirstUnformed n nodes y → x ≡ y
unformed-one n nodes x y f g = elim (cases_lt x y) [
  | inl less ↦ absurd (f.here (g.reached.before x f.node less f.reached.is_there))
  | inr more ↦ elim (cases_eq x y) [
    | inl same ↦ same
    | inr other ↦ absurd (g.here (f.reached.before y g.node (omega arith) g.reached.is_there))
  ]
]

bad_step-one : (n : ℕ) (node : TreeNode) (s t : ℕ) → HasBadStep n node s → HasBadStep n node t → s ≡ t
bad_step-one n node s t f g =
    let same : listed f.steps ≡ listed g.steps = sym f.steps_are ∙ g.steps_are in
    let lists : f.steps ≡ g.steps = cc in
    elim (cases_lt s t) [
      | inl less ↦ absurd (f.first.here (g.first.before s f.first.step less (subst (λ ys. slice_get ys s ≡ Some f.first.step) lists f.first.is_there)))
      | inr more ↦ elim (cases_eq s t) [
        | inl e ↦ e
        | inr other ↦ absurd (g.first.here (f.first.before t g.first.step (omega arith) (subst (λ ys. slice_get ys t ≡ Some g.first.step) (sym lists) g.first.is_there)))
      ]
    ]

form_fault-unformed : (n : ℕ) (nodes : List TreeNode) (f : TreeFault) → IsFormFault n nodes f → (x : ℕ) × IsFirstUnformed n nodes x
form_fault-unformed n nodes (BadTree x) h = (x, unformed-form n nodes x h)
form_fault-unformed n nodes (BadStep x s) h = (x, unformed-steps n nodes x s h)
form_fault-unformed n nodes (NotEmpty x) h = absurd h
form_fault-unformed n nodes (Uncovered x) h = absurd h
form_fault-unformed n nodes Memory h = absurd h

node-there : (n : ℕ) (nodes : List TreeNode) (x y : ℕ) (a b : TreeNode) → IsReached n nodes x a → IsReached n nodes y b → x ≡ y → a ≡ b
node-there n nodes x y a b p q e = same_Some a b (sym p.is_there ∙ subst (λ k. slice_get nodes k ≡ Some b) (sym e) q.is_there)

form-there : (n : ℕ) (nodes : List TreeNode) (x y : ℕ) (a b : TreeNode) → IsReached n nodes x a → IsReached n nodes y b → x ≡ y → HasForm n nodes y b → HasForm n nodes x a
form-there n nodes x y a b p q e h =
    subst (λ c. HasForm n nodes x c) (sym (node-there n nodes x y a b p q e)) (subst (λ k. HasForm n nodes k b) (sym e) h)

form_fault-one : (n : ℕ) (nodes : List TreeNode) (f g : TreeFault) → IsFormFault n nodes f → IsFormFault n nodes g → f ≡ g
form_fault-one n nodes (BadTree x) (BadTree y) p q = ap BadTree (unformed-one n nodes x y (unformed-form n nodes x p) (unformed-form n nodes y q))
form_fault-one n nodes (BadTree x) (BadStep y t) p q = absurd (p.form (form-there n nodes x y p.node q.node p.reached q.reached (unformed-one n nodes x y (unformed-form n nodes x p) (unformed-steps n nodes y t q)) q.form))
form_fault-one n nodes (BadTree x) (NotEmpty y) p q = absurd q
form_fault-one n nodes (BadTree x) (Uncovered y) p q = absurd q
form_fault-one n nodes (BadTree x) Memory p q = absurd q
form_fault-one n nodes (BadStep x s) (BadTree y) p q = absurd (q.form (form-there n nodes y x q.node p.node q.reached p.reached (unformed-one n nodes y x (unformed-form n nodes y q) (unformed-steps n nodes x s p)) p.form))
form_fault-one n nodes (BadStep x s) (BadStep y t) p q =
    let same = unformed-one n nodes x y (unformed-steps n nodes x s p) (unformed-steps n nodes y t q) in
    let node = node-there n nodes x y p.node q.node p.reached q.reached same in
    let step = bad_step-one n q.node s t (subst (λ a. HasBadStep n a s) node p.step) q.step in
    λ i. BadStep (same i) (step i)
form_fault-one n nodes (BadStep x s) (NotEmpty y) p q = absurd q
form_fault-one n nodes (BadStep x s) (Uncovered y) p q = absurd q
form_fault-one n nodes (BadStep x s) Memory p q = absurd q
form_fault-one n nodes (NotEmpty x) g p q = absurd p
form_fault-one n nodes (Uncovered x) g p q = absurd p
form_fault-one n nodes Memory g p q = absurd p

-- ---- faults

module _ (m : Algebra) (n : ℕ) (words : List ℕ) (nodes : List TreeNode) where
  -- what stands for a tree has a node, and each is formed
  some-nodes : (t : NestedTree) → StandsFor n nodes t → nodes ≡ [] → ⊥
  some-nodes t s e = no-nodes t (sym (ap (map bare) e) ∙ s.nodes_are)
    where
      no-nodes : (t : NestedTree) → [] ≡ preorder 0 t → ⊥
      no-nodes (leaf kind steps) h = cc
      no-nodes (split i j steps _) h = cc

  no-form_fault : (t : NestedTree) (f : TreeFault) → StandsFor n nodes t → IsFormFault n nodes f → ⊥
  no-form_fault t f s h =
      let u = form_fault-unformed n nodes f h in
      u.1.here (formed-tree n nodes t s u.0 u.1.node u.1.reached.is_there)

  pub refutation-no_fault : (fault : TreeFault) → IsRefutation m n words nodes → fault ≢ Memory → ¬ IsFaultOf m n words nodes fault
  refutation-no_fault fault r real f = elim f [
    | inl none ↦ some-nodes r.tree r.stands none.0
    | inr (inl form) ↦ no-form_fault r.tree fault r.stands form.1
    | inr (inr (inl network)) ↦
        no-first m n r.tree words 0 fault r.refutes (subst (IsFirstFault m n words fault 0) (tree-one n nodes network.tree r.tree network.stands r.stands) network.first)
    | inr (inr (inr memory)) ↦ real memory
  ]

  pub fault-one : (f g : TreeFault) → f ≢ Memory → g ≢ Memory → IsFaultOf m n words nodes f → IsFaultOf m n words nodes g → f ≡ g
  fault-one f g rf rg p q = elim p [
    | inl a ↦ elim q [
      | inl b ↦ a.1 ∙ sym b.1
      | inr (inl b) ↦ absurd (let l = ap length a.0 in let s = b.0 in omega arith)
      | inr (inr (inl b)) ↦ absurd (some-nodes b.tree b.stands a.0)
      | inr (inr (inr b)) ↦ absurd (rg b)
    ]
    | inr (inl a) ↦ elim q [
      | inl b ↦ absurd (let l = ap length b.0 in let s = a.0 in omega arith)
      | inr (inl b) ↦ form_fault-one n nodes f g a.1 b.1
      | inr (inr (inl b)) ↦ absurd (no-form_fault b.tree f b.stands a.1)
      | inr (inr (inr b)) ↦ absurd (rg b)
    ]
    | inr (inr (inl a)) ↦ elim q [
      | inl b ↦ absurd (some-nodes a.tree a.stands b.0)
      | inr (inl b) ↦ absurd (no-form_fault a.tree g a.stands b.1)
      | inr (inr (inl b)) ↦ first-one m n b.tree words 0 f g (subst (IsFirstFault m n words f 0) (tree-one n nodes a.tree b.tree a.stands b.stands) a.first) b.first
      | inr (inr (inr b)) ↦ absurd (rg b)
    ]
    | inr (inr (inr a)) ↦ absurd (rf a)
  ]
