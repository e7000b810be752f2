-- Each part of the check can be decided, so a list of nodes refutes or has a fault.
use Rattle.std.proofs.Common.{◌≡◌, ◌≢◌, ℕ, zero, suc, ◌+◌, ◌<◌, ◌⊎◌, List, [], ◌∷◌, length, get_or, refl, subst, arith, inl, inr, Contains}
use Rattle.std.specs.Prelude.{slice_index}
use Rattle.std.proofs.lemmas.Bool.{cases_lt, cases_eq}
use Rattle.std.proofs.lemmas.Option.{slice_get-get_or, get_or_from_slice_get, slice_get_within}
use Rattle.calculus_table.specs.Algebra.{Algebra}
use Rattle.calculus_table.specs.Calculus.{IsCalculus}
use Rattle.calculus_table.proofs.Sets.{within-meet, meet-within}
use Rattle.std.specs.Prelude.{bit_and}
use Rattle.network_words.specs.Edge.{edge_at, IsProperTriple}
use Rattle.network_words.specs.Network.{IsNetwork}
use Rattle.network_words.proofs.Existence.{closure_of}
use Rattle.refutation.specs.declared.fault.TreeFault.{TreeFault}
use Rattle.refutation.specs.declared.fault.TreeFault.TheVariants.{Uncovered, NotEmpty, BadTree, BadStep, Memory}
use Rattle.split_trees.specs.declared.tree.Kind.{Kind}
use Rattle.split_trees.specs.declared.tree.Kind.TheVariants.{Empty, Found, Open, Later, Split}
use Rattle.split_trees.specs.declared.tree.Step.{Step}
use Rattle.split_trees.specs.Tree.{TreeNode, NodeSteps, sweep, listed, NestedTree, leaf, split, Branches, no_branches, branch, leaf_node, size, parts_of, AreSteps, IsTree, AreTrees}
use Rattle.split_trees.specs.Refutes.{IsWorked, IsCovered, after_steps, met_at, union_of, Refutes, EachRefutes, IsRefutation}
use Rattle.refutation.specs.TreeFault.{nodes_of, child_number, HasNumbers, IsSplitAt, HasForm, IsFormed, AreFormed, IsReached, HasBadStep, IsFormFault, IsLeafFault, IsFirstFault, IsFirstFaultAmong}
use Rattle.refutation.specs.Laws.{Fault}
use Rattle.stepped_networks.proofs.Worked.{worked-network, met_at-network}
use Rattle.refutation.proofs.Forests.{tree_of-formed}

-- ---- what is decided

abbrev pub Decided : Type 0 → Type 0
Decided P = P ⊎ (¬ P)

both : {P Q : Type 0} → Decided P → Decided Q → Decided (P × Q)
both (inl p) (inl q) = inl (p, q)
both (inl p) (inr n) = inr (λ h. n h.1)
both (inr n) q = inr (λ h. n h.0)

through : {P Q : Type 0} → (P → Q) → (Q → P) → Decided P → Decided Q
through f g (inl p) = inl (f p)
through f g (inr n) = inr (λ q. n (g q))

less : (a b : ℕ) → Decided (a < b)
less a b = elim (cases_lt a b) [ inl l ↦ inl l | inr g ↦ inr (λ l. absurd (omega arith)) ]

same : (a b : ℕ) → Decided (a ≡ b)
same a b = elim (cases_eq a b) [ inl e ↦ inl e | inr n ↦ inr n ]

differs : (a b : ℕ) → Decided (a ≢ b)
differs a b = elim (cases_eq a b) [ inl e ↦ inr (λ n. n e) | inr n ↦ inl n ]

-- the first place below n without a property
record IsFirst (n : ℕ) (P : ℕ → Type 0) : Type 0 where
  at : ℕ
  below : at < n
  here : ¬ P at
  before : (k : ℕ) → k < at → P k

each_or_first : (n : ℕ) (P : ℕ → Type 0) → ((k : ℕ) → Decided (P k)) → ((k : ℕ) → k < n → P k) ⊎ IsFirst n P
each_or_first zero P decided = inl (λ k b. absurd (omega arith))
each_or_first (suc n) P decided = elim (each_or_first n P decided) [
  | inl each ↦ elim (decided n) [
    | inl last ↦ inl (λ k b. elim (cases_lt k n) [ inl l ↦ each k l | inr g ↦ (let e : n ≡ k = omega arith in subst P e last) ])
    | inr breaks ↦ inr (record { at = n; below = omega arith; here = breaks; before = each })
  ]
  | inr first ↦ inr (record { at = first.at; below = omega (arith, first.below); here = first.here; before = first.before })
]

each : (n : ℕ) (P : ℕ → Type 0) → ((k : ℕ) → Decided (P k)) → Decided ((k : ℕ) → k < n → P k)
each n P decided = elim (each_or_first n P decided) [ inl all ↦ inl all | inr first ↦ inr (λ all. first.here (all first.at first.below)) ]

-- ---- forms

proper_triple : (n : ℕ) (s : Step) → Decided (IsProperTriple n s.i s.j s.k)
proper_triple n s =
    through
    (λ h. record { first_below = h.0.0; second_below = h.0.1.0; third_below = h.0.1.1; first_second = h.1.0; second_third = h.1.1.0; first_third = h.1.1.1 })
    (λ t. ((t.first_below, (t.second_below, t.third_below)), (t.first_second, (t.second_third, t.first_third))))
    (both (both (less s.i n) (both (less s.j n) (less s.k n))) (both (differs s.i s.j) (both (differs s.j s.k) (differs s.i s.k))))

abbrev no_step : Step
no_step = record { i = 0; j = 0; k = 0 }

-- the steps are right, or one of them is the first that isn't
steps_or_bad : (n : ℕ) (node : TreeNode) (steps : NodeSteps) → node.steps ≡ steps → AreSteps n steps ⊎ ((s : ℕ) × HasBadStep n node s)
steps_or_bad n node sweep e = inl tt
steps_or_bad n node (listed steps) e = elim (each_or_first (length steps) (λ s. IsProperTriple n (get_or steps s no_step).i (get_or steps s no_step).j (get_or steps s no_step).k) (λ s. proper_triple n (get_or steps s no_step))) [
  | inl all ↦ inl (λ s d b. subst (λ (y : Step). IsProperTriple n y.i y.j y.k) (get_or_from_slice_get steps s (get_or steps s d) no_step (slice_get-get_or steps s d b)) (all s b))
  | inr first ↦ inr (
    first.at,
    record {
      steps = steps;
      steps_are = e;
      first = record {
        step = get_or steps first.at no_step;
        is_there = slice_get-get_or steps first.at no_step first.below;
        here = first.here;
        before = λ t other l there. subst (λ (y : Step). IsProperTriple n y.i y.j y.k) (get_or_from_slice_get steps t other no_step there) (first.before t l);
      };
    },
  )
]

kind_split : (kind : Kind) → Decided (kind ≡ Split)
kind_split Empty = inr (λ e. cc)
kind_split Found = inr (λ e. cc)
kind_split Open = inr (λ e. cc)
kind_split Later = inr (λ e. cc)
kind_split Split = inl refl

module _ (n : ℕ) (nodes : List TreeNode) where
  has_numbers : (x : ℕ) (children : List ℕ) → Decided (HasNumbers nodes x children)
  has_numbers x children =
      through
      (λ h. record { numbered = h.0; inside = h.1 })
      (λ h. (h.numbered, h.inside))
      (both
      (each (length children) (λ p. slice_index children p ≡ child_number nodes x p) (λ p. same (slice_index children p) (child_number nodes x p)))
      (each (length children) (λ p. slice_index children p < length nodes) (λ p. less (slice_index children p) (length nodes))))

  split_at : (x : ℕ) (node : TreeNode) → Decided (IsSplitAt n nodes x node)
  split_at x node =
      through
      (λ h. record { order = h.0.0; below = h.0.1; paired = h.1.0; some = h.1.1.0; numbers = h.1.1.1 })
      (λ h. ((h.order, h.below), (h.paired, (h.some, h.numbers))))
      (both (both (less node.i node.j) (less node.j n)) (both (same (length node.parts) (length node.children)) (both (less 0 (length node.children)) (has_numbers x node.children))))

  has_form : (x : ℕ) (node : TreeNode) → Decided (HasForm n nodes x node)
  has_form x node =
      through (λ h. record { is_split = h.0; under_first = h.1 }) (λ h. (h.is_split, h.under_first)) (both split_if (less x (nodes_of 1 nodes)))
    where
      split_if : Decided (node.kind ≡ Split → IsSplitAt n nodes x node)
      split_if = elim (kind_split node.kind) [
        | inl e ↦ elim (split_at x node) [ inl h ↦ inl (λ _. h) | inr no_split ↦ inr (λ f. no_split (f e)) ]
        | inr no_split ↦ inl (λ e. absurd (no_split e))
      ]

  formed : (x : ℕ) (node : TreeNode) → Decided (IsFormed n nodes x node)
  formed x node = through (λ h. record { form = h.0; steps = h.1 }) (λ h. (h.form, h.steps)) (both (has_form x node) steps)
    where
      bad : (s : ℕ) → HasBadStep n node s → AreSteps n node.steps → ⊥
      bad s b a =
          let all : AreSteps n (listed b.steps) = subst (AreSteps n) b.steps_are a in
          b.first.here (subst (λ (y : Step). IsProperTriple n y.i y.j y.k) (get_or_from_slice_get b.steps s b.first.step b.first.step b.first.is_there)
          (all s b.first.step (slice_get_within b.steps s b.first.step b.first.is_there)))

      steps : Decided (AreSteps n node.steps)
      steps = elim (steps_or_bad n node node.steps refl) [ inl a ↦ inl a | inr b ↦ inr (bad b.0 b.1) ]

  abbrev no_node : TreeNode
  no_node = leaf_node Empty sweep

  abbrev node_at : ℕ → TreeNode
  node_at x = get_or nodes x no_node

  forms_or_fault : AreFormed n nodes ⊎ ((fault : TreeFault) × IsFormFault n nodes fault)
  forms_or_fault = elim (each_or_first (length nodes) (λ x. IsFormed n nodes x (node_at x)) (λ x. formed x (node_at x))) [
    | inl all ↦ inl (λ x node there. subst (IsFormed n nodes x) (get_or_from_slice_get nodes x node no_node there) (all x (slice_get_within nodes x node there)))
    | inr first ↦
        (let node = node_at first.at in
        let reached : IsReached n nodes first.at node = record {
          is_there = slice_get-get_or nodes first.at no_node first.below;
          before = λ y other l there. subst (IsFormed n nodes y) (get_or_from_slice_get nodes y other no_node there) (first.before y l);
        } in
        elim (has_form first.at node) [
          | inr bad ↦ inr (BadTree first.at, record { node = node; reached = reached; form = bad })
          | inl form ↦ elim (steps_or_bad n node node.steps refl) [
            | inl steps ↦ absurd (first.here (record { form = form; steps = steps }))
            | inr b ↦ inr (BadStep first.at b.0, record { node = node; reached = reached; form = form; step = b.1 })
          ]
        ])
  ]

-- ---- networks

pub contains_empty : (words : List ℕ) → Decided (Contains words 0)
contains_empty words = elim (each_or_first (length words) (λ k. slice_index words k ≢ 0) (λ k. differs (slice_index words k) 0)) [
  | inl none ↦ inr (λ c. none c.0 c.1 c.2)
  | inr first ↦ elim (cases_eq (slice_index words first.at) 0) [ inl e ↦ inl (first.at, first.below, e) | inr n ↦ absurd (first.here n) ]
]

covered : (words : List ℕ) (e : ℕ) (parts : List ℕ) → Decided (IsCovered words e parts)
covered words e parts = elim (cases_eq (bit_and (slice_index words e) (union_of parts)) (slice_index words e)) [
  | inl h ↦ inl (within-meet (slice_index words e) (union_of parts) h)
  | inr n ↦ inr (λ w. n (meet-within (slice_index words e) (union_of parts) w))
]

module _ (m : Algebra) (n : ℕ) (calculus : IsCalculus m) where
  worked_of : (words : List ℕ) (steps : NodeSteps) → IsNetwork m n words → (worked : List ℕ) × IsWorked m n steps words worked
  worked_of words sweep net = closure_of m n words calculus net
  worked_of words (listed steps) net = (after_steps m n words steps, refl)

  leaf_or_fault : (kind : Kind) (steps : NodeSteps) (words : List ℕ) (x : ℕ) → IsNetwork m n words → kind ≢ Split →
      Refutes m n words (leaf kind steps) ⊎ ((fault : TreeFault) × IsFirstFault m n words fault x (leaf kind steps))
  leaf_or_fault Empty steps words x net k =
      let w = worked_of words steps net in
      elim (contains_empty w.0) [ inl c ↦ inl (refl, (w.0, w.1, c)) | inr none ↦ inr (NotEmpty x, (w.0, w.1, (refl, none))) ]
  leaf_or_fault Found steps words x net k = (let w = worked_of words steps net in inr (BadTree x, (w.0, w.1, refl)))
  leaf_or_fault Open steps words x net k = (let w = worked_of words steps net in inr (BadTree x, (w.0, w.1, refl)))
  leaf_or_fault Later steps words x net k = (let w = worked_of words steps net in inr (BadTree x, (w.0, w.1, refl)))
  leaf_or_fault Split steps words x net k = absurd (k refl)

  mutual
    tree_or_fault : (t : NestedTree) (words : List ℕ) (x : ℕ) → IsNetwork m n words → IsTree n t → Refutes m n words t ⊎ ((fault : TreeFault) × IsFirstFault m n words fault x t)
    tree_or_fault (leaf kind steps) words x net t = leaf_or_fault kind steps words x net t.0
    tree_or_fault (split i j steps bs) words x net t =
        let w = worked_of words steps net in
        elim (covered w.0 (edge_at n i j) (parts_of bs)) [
          | inr bad ↦ inr (Uncovered x, (w.0, w.1, inl (refl, bad)))
          | inl good ↦ elim (branches_or_fault bs w.0 (edge_at n i j) (x + 1) (worked-network m n words w.0 steps net w.1) t.4) [
            | inl all ↦ inl (w.0, w.1, good, all)
            | inr f ↦ inr (f.0, (w.0, w.1, inr (good, f.1)))
          ]
        ]

    branches_or_fault : (bs : Branches) (w : List ℕ) (e x : ℕ) → IsNetwork m n w → AreTrees n bs → EachRefutes m n w e bs ⊎ ((fault : TreeFault) × IsFirstFaultAmong m n w e fault x bs)
    branches_or_fault no_branches w e x net t = inl tt
    branches_or_fault (branch p u bs) w e x net t = elim (tree_or_fault u (met_at w e p) x (met_at-network m n w e p net) t.0) [
      | inr f ↦ inr (f.0, inl f.1)
      | inl here ↦ elim (branches_or_fault bs w e (x + size u) net t.1) [
        | inl all ↦ inl (here, all)
        | inr f ↦ inr (f.0, inr (here, f.1))
      ]
    ]

  -- ---- no such fault is out of memory

  leaf-real : (kind : Kind) (w : List ℕ) (x : ℕ) (f : TreeFault) → IsLeafFault kind w x f → f ≢ Memory
  leaf-real Empty w x f h e = (let at : f ≡ NotEmpty x = h.0 in cc)
  leaf-real Found w x f h e = cc
  leaf-real Open w x f h e = cc
  leaf-real Later w x f h e = cc
  leaf-real Split w x f h e = h

  mutual
    first-real : (t : NestedTree) (words : List ℕ) (x : ℕ) (f : TreeFault) → IsFirstFault m n words f x t → f ≢ Memory
    first-real (leaf kind steps) words x f h e = leaf-real kind h.0 x f h.2 e
    first-real (split i j steps bs) words x f h e = elim h.2 [
      | inl u ↦ (let at : f ≡ Uncovered x = u.0 in cc)
      | inr a ↦ among-real bs h.0 (edge_at n i j) (x + 1) f a.1 e
    ]

    among-real : (bs : Branches) (w : List ℕ) (e x : ℕ) (f : TreeFault) → IsFirstFaultAmong m n w e f x bs → f ≢ Memory
    among-real no_branches w e x f h r = h
    among-real (branch p t bs) w e x f h r = elim h [ inl here ↦ first-real t (met_at w e p) x f here r | inr later ↦ among-real bs w e (x + size t) f later.1 r ]

  -- ---- a list of nodes refutes or has a fault

  network_or_fault : (words : List ℕ) (nodes : List TreeNode) → IsNetwork m n words → 0 < length nodes → AreFormed n nodes → IsRefutation m n words nodes ⊎ Fault m n words nodes
  network_or_fault words nodes net some all =
      let t = tree_of-formed n nodes all some in
      elim (tree_or_fault t.0 words 0 net t.1.is_tree) [
        | inl r ↦ inl (record { tree = t.0; stands = t.1; refutes = r })
        | inr f ↦ inr (record { fault = f.0; real = first-real t.0 words 0 f.0 f.1; is_fault = inr (inr (inl (record { tree = t.0; stands = t.1; first = f.1 }))) })
      ]

pub refutation_or_fault : (m : Algebra) (n : ℕ) (words : List ℕ) (nodes : List TreeNode) → IsCalculus m → IsNetwork m n words → IsRefutation m n words nodes ⊎ Fault m n words nodes
refutation_or_fault m n words [] k net = inr (record { fault = BadTree 0; real = λ e. cc; is_fault = inl (refl, refl) })
refutation_or_fault m n words (node ∷ rest) k net = elim (forms_or_fault n (node ∷ rest)) [
  | inl all ↦ network_or_fault m n k words (node ∷ rest) net (omega arith) all
  | inr f ↦ inr (record {
    fault = f.0;
    real = λ e. subst (IsFormFault n (node ∷ rest)) e f.1;
    is_fault = inr (inl (omega arith, f.1));
  })
]
