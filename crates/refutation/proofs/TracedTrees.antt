-- Traced trees: a tree that refutes a network has one, which refutes it too.
use Rattle.std.proofs.Common.{◌≡◌, ◌≢◌, ◌⊎◌, ℕ, ◌+◌, ◌<◌, List, [], ◌∷◌, ◌++◌, length, set, refl, sym, ◌∙◌, ap, subst, arith, inl, inr, Contains}
use Rattle.std.specs.Prelude.{slice_index, bit_and, All}
use Rattle.std.proofs.Math.ListN.{get_or-eq_default}
use Rattle.std.proofs.lemmas.Bool.{cases_lt}
use Rattle.std.proofs.lemmas.List.{length-set, get_or-set_same}
use Rattle.std.proofs.lemmas.List.Elements.{All-nil, All-cons, All-append}
use Rattle.calculus_table.specs.Algebra.{Algebra}
use Rattle.calculus_table.specs.Calculus.{IsCalculus}
use Rattle.calculus_table.specs.Rel.{IsWithin}
use Rattle.calculus_table.proofs.Sets.{empty-within, IsWithin-empty, IsWithin-trans, IsWithin-meet, IsWithin-meet_l, IsWithin-meet_r}
use Rattle.network_words.specs.Edge.{edge_at}
use Rattle.network_words.specs.Network.{IsNetwork, Refines}
use Rattle.network_words.specs.Closure.{IsClosure}
use Rattle.network_words.proofs.Networks.{Refines-trans, set-cases}
use Rattle.network_words.proofs.Refinements.{IsNetwork-refines}
use Rattle.split_trees.specs.declared.tree.Kind.TheVariants.{Split}
use Rattle.split_trees.specs.declared.tree.Step.{Step}
use Rattle.split_trees.specs.Tree.{TreeNode, NodeSteps, sweep, listed, NestedTree, leaf, split, Branches, no_branches, branch, size, parts_of, preorder, preorder_of_all, AreSteps, IsTree, AreTrees, leaf_node, IsBareLeaf, HasBareLeaves}
use Rattle.split_trees.specs.Refutes.{after_step, after_steps, IsWorked, met_at, IsCovered, Refutes, EachRefutes}
use Rattle.stepped_networks.specs.RuledSteps.{NoneEmptyBefore, AreCutSteps}
use Rattle.refutation.specs.Traced.{HasShape, HaveShape, IsRuled, EachRuled}
use Rattle.stepped_networks.proofs.ListEnds.{append-nil}
use Rattle.refutation.proofs.Decided.{contains_empty}
use Rattle.stepped_networks.proofs.Worked.{after_steps-network, met_at-refines, met_at-network, worked-network}
use Rattle.stepped_networks.proofs.RuledSteps.{IsProperStep, All-front, KeepsClosed-steps, ruled_steps, ruled-proper, ruled-closure}

-- ---- networks within others

met_at-mono : (m : Algebra) (n : ℕ) (xs ys : List ℕ) (e part : ℕ) → length xs ≡ length ys → Refines xs ys → Refines (met_at xs e part) (met_at ys e part)
met_at-mono m n xs ys e part l r = record {
  each = λ d. elim (set-cases ys e (bit_and (slice_index ys e) part) d) [
    | inl same ↦ rw same (IsWithin-trans _ _ _ ((met_at-refines m n xs e part).each d) (r.each d))
    | inr here ↦ elim (cases_lt e (length xs)) [
      | inl below ↦ rw (here.1, here.0, get_or-set_same xs e (bit_and (slice_index xs e) part) 0 below)
          (IsWithin-meet _ _ _ (IsWithin-trans _ _ _ (IsWithin-meet_l (slice_index xs e) part) (r.each e)) (IsWithin-meet_r (slice_index xs e) part))
      | inr past ↦ rw (here.1, get_or-eq_default (set xs e (bit_and (slice_index xs e) part)) 0 {n = d} (omega (arith, length-set xs e (bit_and (slice_index xs e) part), here.0))) (IsWithin-empty _)
    ]
  ];
}

Contains-refines : (xs ys : List ℕ) → length xs ≡ length ys → Refines xs ys → Contains ys 0 → Contains xs 0
Contains-refines xs ys l r c =
    (c.0, omega (arith, c.1), empty-within (slice_index xs c.0) (subst (IsWithin (slice_index xs c.0)) c.2 (r.each c.0)))

module _ (m : Algebra) (n : ℕ) (k : IsCalculus m) where
  -- the closure of a network is within each network that is worked from one that the network refines
  closure-below : (words others closure worked : List ℕ) (steps : NodeSteps) → IsNetwork m n words → IsNetwork m n others → Refines words others → IsClosure m n words closure → AreSteps n steps →
      IsWorked m n steps others worked → Refines closure worked
  closure-below words others closure worked sweep net onet r c t w =
      w.greatest closure (omega (arith, c.length_is, net.length_is, onet.length_is)) c.closed (Refines-trans closure words others c.within r)
  closure-below words others closure worked (listed steps) net onet r c t w =
      subst (Refines closure) (sym w) ((KeepsClosed-steps m n others steps k t).kept closure (IsNetwork-refines m n closure words net c.length_is c.within) c.closed (Refines-trans closure words others c.within r))

  -- ---- leaves

  -- the ruled steps up to the first empty set
  cut_among : (words : List ℕ) (steps : List Step) → (cut : List Step) × ((rest : List Step) × (steps ≡ cut ++ rest) × NoneEmptyBefore m n words cut
      × (Contains (after_steps m n words cut) 0 ⊎ (rest ≡ [])))
  cut_among words [] = ([], ([], refl, tt, inr refl))
  cut_among words (step ∷ steps) = elim (contains_empty words) [
    | inl empty ↦ ([], (step ∷ steps, refl, tt, inl empty))
    | inr none ↦
        (let next = cut_among (after_step m n words step) steps in
        (step ∷ next.0, (next.1.0, ap (λ ss. step ∷ ss) next.1.1, (none, next.1.2), next.1.3)))
  ]

  pub cut_steps : (words : List ℕ) → (cut : List Step) × AreCutSteps m n words cut
  cut_steps words =
      let whole = ruled_steps m n words in
      let cut = cut_among words whole.0 in
      (cut.0, record { whole = whole.0; rest = cut.1.0; ruled = whole.1; whole_is = cut.1.1; before = cut.1.2; ended = cut.1.3 })

  pub cut-proper : (words : List ℕ) (cut : List Step) → AreCutSteps m n words cut → All (IsProperStep n) cut
  cut-proper words cut a = All-front (IsProperStep n) cut a.rest (subst (All (IsProperStep n)) a.whole_is (ruled-proper m n words a.whole a.ruled))

  -- where a worked network above has an empty set, they lead to one
  cut-empty : (words others worked : List ℕ) (steps : NodeSteps) (cut : List Step) → IsNetwork m n words → IsNetwork m n others → Refines words others → AreSteps n steps → IsWorked m n steps others worked →
      Contains worked 0 → AreCutSteps m n words cut → Contains (after_steps m n words cut) 0
  cut-empty words others worked steps cut net onet r t w c a = elim a.ended [
    | inl empty ↦ empty
    | inr none ↦
        (let closed = ruled-closure m n words a.whole k net a.ruled in
        let same : a.whole ≡ cut = a.whole_is ∙ ap (λ ss. cut ++ ss) none ∙ append-nil cut in
        let below = closure-below words others (after_steps m n words a.whole) worked steps net onet r closed t w in
        let wnet = worked-network m n others worked steps onet w in
        let long : length (after_steps m n words a.whole) ≡ length worked = omega (arith, closed.length_is, net.length_is, wnet.length_is) in
        subst (λ ss. Contains (after_steps m n words ss) 0) same (Contains-refines (after_steps m n words a.whole) worked long below c))
  ]

  -- ---- trees

  parts-same : (bs bs' : Branches) → HaveShape bs bs' → parts_of bs ≡ parts_of bs'
  parts-same no_branches no_branches h = refl
  parts-same no_branches (branch part child rest) h = absurd h
  parts-same (branch part child rest) no_branches h = absurd h
  parts-same (branch part child rest) (branch part' child' rest') h = ap (λ p. p ∷ parts_of rest) h.0 ∙ ap (λ ps. part' ∷ ps) (parts-same rest rest' h.2)

  mutual
    -- a traced tree of a tree that refutes a network refutes each network within it
    pub traced-refutes : (t t' : NestedTree) (words others : List ℕ) → IsNetwork m n words → IsNetwork m n others → Refines words others → IsTree n t → HasShape t t' → IsRuled m n words t' →
        Refutes m n others t → Refutes m n words t'
    traced-refutes (leaf kind steps) (leaf kind' steps') words others net onet r tree shape ruled ref =
        let cut = ruled.1.0 in (
          ruled.0,
          (
            after_steps m n words cut,
            subst (λ s. IsWorked m n s words (after_steps m n words cut)) (sym ruled.1.1) refl,
            cut-empty words others ref.1.0 steps cut net onet r tree.1 ref.1.1 ref.1.2 ruled.1.2,
          ),
        )
    traced-refutes (leaf kind steps) (split i j steps' bs) words others net onet r tree shape ruled ref = absurd shape
    traced-refutes (split i j steps bs) (leaf kind steps') words others net onet r tree shape ruled ref = absurd shape
    traced-refutes (split i j steps bs) (split i' j' steps' bs') words others net onet r tree shape ruled ref =
        let closed = after_steps m n words ruled.0 in
        let closure = ruled-closure m n words ruled.0 k net ruled.2 in
        let below = closure-below words others closed ref.0 steps net onet r closure tree.3 ref.1 in
        let wnet = worked-network m n others ref.0 steps onet ref.1 in
        let cnet = after_steps-network m n words ruled.0 net in
        let e : edge_at n i j ≡ edge_at n i' j' = ap (λ q. edge_at n q j) shape.0 ∙ ap (edge_at n i') shape.1 in
        let covered : IsCovered closed (edge_at n i' j') (parts_of bs') =
        subst (λ ps. IsCovered closed (edge_at n i' j') ps) (parts-same bs bs' shape.2) (subst (λ d. IsCovered closed d (parts_of bs)) e (IsWithin-trans _ _ _ (below.each (edge_at n i j)) ref.2)) in (
          closed,
          subst (λ s. IsWorked m n s words closed) (sym ruled.1) refl,
          covered,
          each-refutes bs bs' closed ref.0 (edge_at n i' j') cnet wnet below tree.4 shape.2 ruled.3 (subst (λ d. EachRefutes m n ref.0 d bs) e ref.3),
        )

    each-refutes : (bs bs' : Branches) (closed worked : List ℕ) (e : ℕ) → IsNetwork m n closed → IsNetwork m n worked → Refines closed worked → AreTrees n bs → HaveShape bs bs' → EachRuled m n closed e bs' →
        EachRefutes m n worked e bs → EachRefutes m n closed e bs'
    each-refutes no_branches no_branches closed worked e cnet wnet r trees shape ruled ref = tt
    each-refutes no_branches (branch part child rest) closed worked e cnet wnet r trees shape ruled ref = absurd shape
    each-refutes (branch part child rest) no_branches closed worked e cnet wnet r trees shape ruled ref = absurd shape
    each-refutes (branch part child rest) (branch part' child' rest') closed worked e cnet wnet r trees shape ruled ref =
        let long : length closed ≡ length worked = omega (arith, cnet.length_is, wnet.length_is) in
        let met = subst (λ p. Refutes m n (met_at worked e p) child) shape.0 ref.0 in (
          traced-refutes child child' (met_at closed e part') (met_at worked e part') (met_at-network m n closed e part' cnet) (met_at-network m n worked e part' wnet)
              (met_at-mono m n closed worked e part' long r) trees.0 shape.1 ruled.0 met,
          each-refutes rest rest' closed worked e cnet wnet r trees.1 shape.2 ruled.1 ref.1,
        )

  mutual
    -- a tree that refutes has a traced one over each network within
    pub traced_tree : (t : NestedTree) (words others : List ℕ) → Refutes m n others t → (t' : NestedTree) × HasShape t t' × IsRuled m n words t'
    traced_tree (leaf kind steps) words others ref =
        let cut = cut_steps words in
        (leaf kind (listed cut.0), refl, (ref.0, (cut.0, refl, cut.1)))
    traced_tree (split i j steps bs) words others ref =
        let ruled = ruled_steps m n words in
        let next = traced_branches bs (after_steps m n words ruled.0) ref.0 (edge_at n i j) ref.3 in
        (split i j (listed ruled.0) next.0, (refl, refl, next.1), (ruled.0, refl, ruled.1, next.2))

    traced_branches : (bs : Branches) (closed worked : List ℕ) (e : ℕ) → EachRefutes m n worked e bs → (bs' : Branches) × HaveShape bs bs' × EachRuled m n closed e bs'
    traced_branches no_branches closed worked e ref = (no_branches, tt, tt)
    traced_branches (branch part child rest) closed worked e ref =
        let first = traced_tree child (met_at closed e part) (met_at worked e part) ref.0 in
        let next = traced_branches rest closed worked e ref.1 in
        (branch part first.0 next.0, (refl, first.1, next.1), (first.2, next.2))

  mutual
    -- a traced tree is one
    pub traced-tree : (t t' : NestedTree) (words : List ℕ) → IsTree n t → HasShape t t' → IsRuled m n words t' → IsTree n t'
    traced-tree (leaf kind steps) (leaf kind' steps') words tree shape ruled =
        (subst (λ q. q ≢ Split) shape tree.0, subst (AreSteps n) (sym ruled.1.1) (cut-proper words ruled.1.0 ruled.1.2))
    traced-tree (leaf kind steps) (split i j steps' bs) words tree shape ruled = absurd shape
    traced-tree (split i j steps bs) (leaf kind steps') words tree shape ruled = absurd shape
    traced-tree (split i j steps bs) (split i' j' steps' bs') words tree shape ruled = (
      subst (λ q. i' < q) shape.1 (subst (λ q. q < j) shape.0 tree.0),
      subst (λ q. q < n) shape.1 tree.1,
      subst (λ ps. 0 < length ps) (parts-same bs bs' shape.2) tree.2,
      subst (AreSteps n) (sym ruled.1) (ruled-proper m n words ruled.0 ruled.2),
      traced-trees bs bs' (after_steps m n words ruled.0) (edge_at n i' j') tree.4 shape.2 ruled.3,
    )

    traced-trees : (bs bs' : Branches) (closed : List ℕ) (e : ℕ) → AreTrees n bs → HaveShape bs bs' → EachRuled m n closed e bs' → AreTrees n bs'
    traced-trees no_branches no_branches closed e trees shape ruled = tt
    traced-trees no_branches (branch part child rest) closed e trees shape ruled = absurd shape
    traced-trees (branch part child rest) no_branches closed e trees shape ruled = absurd shape
    traced-trees (branch part child rest) (branch part' child' rest') closed e trees shape ruled =
        (traced-tree child child' (met_at closed e part') trees.0 shape.1 ruled.0, traced-trees rest rest' closed e trees.1 shape.2 ruled.1)

  -- ---- its nodes

  -- no node sweeps
  abbrev IsListed : TreeNode → Type 0
  IsListed node = node.steps ≢ sweep

  listed-steps : (steps : NodeSteps) (xs : List Step) → steps ≡ listed xs → steps ≢ sweep
  listed-steps steps xs e s = let bad : sweep ≡ listed xs = sym s ∙ e in cc

  mutual
    pub traced-listed : (x : ℕ) (t : NestedTree) (words : List ℕ) → IsRuled m n words t → All (λ node. node.steps ≢ sweep) (preorder x t)
    traced-listed x (leaf kind steps) words ruled = All-cons IsListed _ [] (listed-steps steps ruled.1.0 ruled.1.1) (All-nil IsListed)
    traced-listed x (split i j steps bs) words ruled =
        All-cons IsListed _ _ (listed-steps steps ruled.0 ruled.1) (all-listed (x + 1) bs (after_steps m n words ruled.0) (edge_at n i j) ruled.3)

    all-listed : (x : ℕ) (bs : Branches) (closed : List ℕ) (e : ℕ) → EachRuled m n closed e bs → All IsListed (preorder_of_all x bs)
    all-listed x no_branches closed e ruled = All-nil IsListed
    all-listed x (branch part child rest) closed e ruled =
        All-append IsListed (preorder x child) (preorder_of_all (x + size child) rest) (traced-listed x child (met_at closed e part) ruled.0) (all-listed (x + size child) rest closed e ruled.1)

  -- its leaves are bare
  abbrev IsBare : TreeNode → Type 0
  IsBare node = IsBareLeaf node.kind node

  mutual
    pub traced-bare : (x : ℕ) (t : NestedTree) (words : List ℕ) → IsRuled m n words t → HasBareLeaves (preorder x t)
    traced-bare x (leaf kind steps) words ruled = All-cons IsBare _ [] (subst (λ q. IsBareLeaf q (leaf_node q steps)) (sym ruled.0) refl) (All-nil IsBare)
    traced-bare x (split i j steps bs) words ruled = All-cons IsBare _ _ tt (all-bare (x + 1) bs (after_steps m n words ruled.0) (edge_at n i j) ruled.3)

    all-bare : (x : ℕ) (bs : Branches) (closed : List ℕ) (e : ℕ) → EachRuled m n closed e bs → HasBareLeaves (preorder_of_all x bs)
    all-bare x no_branches closed e ruled = All-nil IsBare
    all-bare x (branch part child rest) closed e ruled =
        All-append IsBare (preorder x child) (preorder_of_all (x + size child) rest) (traced-bare x child (met_at closed e part) ruled.0) (all-bare (x + size child) rest closed e ruled.1)
