-- A tree that is cut is the ruled one with the smaller budget.
use Rattle.std.proofs.Common.{◌≡◌, ℕ, zero, suc, ◌-◌, ◌<◌, ◌≤◌, List, ◌∷◌, refl, sym, ap, ◌∙◌, subst, arith, inl}
use Rattle.std.proofs.Common.{inr}
use Rattle.std.specs.Prelude.{nat_le, slice_set}
use Rattle.std.proofs.lemmas.Bool.{cases_lt, cond-true, cond-false, le-leb, lt-leb}
use Rattle.calculus_table.specs.Algebra.{Algebra}
use Rattle.network_words.specs.Edge.{edge_at}
use Rattle.network_words.specs.Closure.{IsClosure}
use Rattle.split_trees.specs.declared.tree.Kind.TheVariants.{Open}
use Rattle.split_trees.specs.Tree.{NodeSteps, sweep, NestedTree, leaf, split, Branches, no_branches, branch, parts_of}
use Rattle.split_search.specs.Ruled.{IsRuledSplit, IsRuledAt, IsDone, AreDone, End, at_scenario, at_budget, Ends}
use Rattle.split_search.specs.Ruled.{EndsAmong, AreLater, splits, splits_of_all}
use Rattle.parallel_search.specs.Cut.{all_later, cut, cut_all, IsRuledIn}
use Rattle.parallel_search.specs.Laws.{CutIsRuled, FewStay}

-- ---- where a child fits, and where it doesn't

cut-fits : (part : ℕ) (child : NestedTree) (rest : Branches) (b : ℕ) → splits child ≤ b →
    cut_all (branch part child rest) b ≡ branch part child (cut_all rest (b - splits child))
cut-fits part child rest b few =
    cond-true (nat_le (splits child) b) (branch part child (cut_all rest (b - splits child)))
    (branch part (cut child b) (all_later rest))
    (le-leb (splits child) b few)

cut-ends : (part : ℕ) (child : NestedTree) (rest : Branches) (b : ℕ) → b < splits child →
    cut_all (branch part child rest) b ≡ branch part (cut child b) (all_later rest)
cut-ends part child rest b more =
    cond-false (nat_le (splits child) b) (branch part child (cut_all rest (b - splits child)))
    (branch part (cut child b) (all_later rest))
    (lt-leb (splits child) b more)

-- ---- a tree of few splits

mutual
  cut-same : (t : NestedTree) (b : ℕ) → splits t ≤ b → cut t b ≡ t
  cut-same (leaf kind steps) b few = refl
  cut-same (split i j steps bs) zero few = absurd (omega arith)
  cut-same (split i j steps bs) (suc b) few = ap (λ xs. split i j steps xs) (cut-all-same bs b (omega arith))

  cut-all-same : (bs : Branches) (b : ℕ) → splits_of_all bs ≤ b → cut_all bs b ≡ bs
  cut-all-same no_branches b few = refl
  cut-all-same (branch part child rest) b few =
      cut-fits part child rest b (omega arith)
      ∙ ap (λ xs. branch part child xs) (cut-all-same rest (b - splits child) (omega arith))

-- ---- children that weren't looked at

are-later : (bs : Branches) → AreLater (all_later bs)
are-later no_branches = tt
are-later (branch part child rest) = (refl, are-later rest)

later-none : (bs : Branches) → AreLater bs → splits_of_all bs ≡ 0
later-none no_branches h = refl
later-none (branch part child rest) h = omega (arith, ap splits h.0, later-none rest h.1)

later-parts : (bs : Branches) → parts_of (all_later bs) ≡ parts_of bs
later-parts no_branches = refl
later-parts (branch part child rest) = ap (λ ps. part ∷ ps) (later-parts rest)

cut-parts : (bs : Branches) (b : ℕ) → parts_of (cut_all bs b) ≡ parts_of bs
cut-parts no_branches b = refl
cut-parts (branch part child rest) b = elim (cases_lt b (splits child)) [
  | inl more ↦ ap parts_of (cut-ends part child rest b more) ∙ ap (λ ps. part ∷ ps) (later-parts rest)
  | inr few ↦ ap parts_of (cut-fits part child rest b few) ∙ ap (λ ps. part ∷ ps) (cut-parts rest (b - splits child))
]

-- ---- a tree of more splits

module _ (m : Algebra) (n : ℕ) (class : List ℕ) where
  -- the tree ends undecided, with so many splits
  record IsCutTree (words : List ℕ) (t : NestedTree) (b : ℕ) : Type 0 where
    ends : Ends m n class at_budget words t
    count : splits t ≡ b

  record AreCut (words : List ℕ) (e : ℕ) (bs : Branches) (b : ℕ) : Type 0 where
    ends : EndsAmong m n class at_budget words e bs
    count : splits_of_all bs ≡ b

  -- a node whose children are cut
  ruled-parts : (words : List ℕ) (i j : ℕ) (steps : NodeSteps) (bs cs : Branches) → parts_of cs ≡ parts_of bs →
      IsRuledAt m n class words i j steps bs → IsRuledAt m n class words i j steps cs
  ruled-parts words i j steps bs cs same h = record {
    no_steps = h.no_steps;
    order = h.order;
    below = h.below;
    undecided = h.undecided;
    ruled = subst (λ ps. IsRuledSplit m class words (edge_at n i j) ps) (sym same) h.ruled;
  }

  -- the tree of a child is cut, and the children after it weren't looked at
  ends-here : (words : List ℕ) (e part : ℕ) (child : NestedTree) (rest : Branches) (b : ℕ) (closed : List ℕ) →
      IsClosure m n (slice_set words e part) closed → b < splits child → IsCutTree closed (cut child b) b →
      AreCut words e (cut_all (branch part child rest) b) b
  ends-here words e part child rest b closed is_closure more c =
      subst (λ xs. AreCut words e xs b) (sym (cut-ends part child rest b more)) (record {
        ends = (closed, is_closure, inl (c.ends, are-later rest));
        count = omega (arith, c.count, later-none (all_later rest) (are-later rest));
      })

  -- the tree of a child is done, and a later one is cut
  ends-later : (words : List ℕ) (e part : ℕ) (child : NestedTree) (rest : Branches) (b : ℕ) (closed : List ℕ) →
      IsClosure m n (slice_set words e part) closed → IsDone m n class closed child → splits child ≤ b →
      AreCut words e (cut_all rest (b - splits child)) (b - splits child) →
      AreCut words e (cut_all (branch part child rest) b) b
  ends-later words e part child rest b closed is_closure done few c =
      subst (λ xs. AreCut words e xs b) (sym (cut-fits part child rest b few)) (record {
        ends = (closed, is_closure, inr (done, c.ends));
        count = omega (arith, c.count, few);
      })

  -- a split whose children are cut, or that is cut itself
  ends-split : (words : List ℕ) (i j : ℕ) (steps : NodeSteps) (bs cs : Branches) (b : ℕ) →
      IsRuledAt m n class words i j steps bs →
      parts_of cs ≡ parts_of bs → AreCut words (edge_at n i j) cs b → IsCutTree words (split i j steps cs) (suc b)
  ends-split words i j steps bs cs b h same c = record {
    ends = (ruled-parts words i j steps bs cs same h, c.ends);
    count = omega (arith, c.count);
  }

  ends-open : (words : List ℕ) (i j : ℕ) (steps : NodeSteps) (bs : Branches) → IsRuledAt m n class words i j steps bs →
      IsCutTree words (leaf Open sweep) 0
  ends-open words i j steps bs h = record { ends = (refl, (refl, h.undecided)); count = refl }

  mutual
    done-cut : (words : List ℕ) (t : NestedTree) (b : ℕ) → IsDone m n class words t → b < splits t →
        IsCutTree words (cut t b) b
    done-cut words (leaf kind steps) b h more = absurd (omega (arith, more))
    done-cut words (split i j steps bs) zero h more = ends-open words i j steps bs h.0
    done-cut words (split i j steps bs) (suc b) h more =
        ends-split words i j steps bs (cut_all bs b) b h.0 (cut-parts bs b)
        (all-cut words (edge_at n i j) bs b h.1 (omega (arith, more)))

    all-cut : (words : List ℕ) (e : ℕ) (bs : Branches) (b : ℕ) → AreDone m n class words e bs → b < splits_of_all bs →
        AreCut words e (cut_all bs b) b
    all-cut words e no_branches b h more = absurd (omega (arith, more))
    all-cut words e (branch part child rest) b h more = elim (cases_lt b (splits child)) [
      | inl cuts ↦ ends-here words e part child rest b h.0.0 h.0.1 cuts (done-cut h.0.0 child b h.0.2 cuts)
      | inr few ↦ ends-later words e part child rest b h.0.0 h.0.1 h.0.2 few
          (all-cut words e rest (b - splits child) h.1 (omega (arith, more, few)))
    ]

  mutual
    ends-cut : (end : End) (words : List ℕ) (t : NestedTree) (b : ℕ) → Ends m n class end words t → b < splits t →
        IsCutTree words (cut t b) b
    ends-cut end words (leaf kind steps) b h more = absurd (omega (arith, more))
    ends-cut end words (split i j steps bs) zero h more = ends-open words i j steps bs h.0
    ends-cut end words (split i j steps bs) (suc b) h more =
        ends-split words i j steps bs (cut_all bs b) b h.0 (cut-parts bs b)
        (among-cut end words (edge_at n i j) bs b h.1 (omega (arith, more)))

    among-cut : (end : End) (words : List ℕ) (e : ℕ) (bs : Branches) (b : ℕ) → EndsAmong m n class end words e bs →
        b < splits_of_all bs →
        AreCut words e (cut_all bs b) b
    among-cut end words e no_branches b h more = absurd h
    among-cut end words e (branch part child rest) b (closed, is_closure, inl h) more =
        let cuts : b < splits child = omega (arith, more, later-none rest h.1) in
        ends-here words e part child rest b closed is_closure cuts (ends-cut end closed child b h.0 cuts)
    among-cut end words e (branch part child rest) b (closed, is_closure, inr h) more =
        elim (cases_lt b (splits child)) [
          | inl cuts ↦ ends-here words e part child rest b closed is_closure cuts (done-cut closed child b h.0 cuts)
          | inr few ↦ ends-later words e part child rest b closed is_closure h.0 few
              (among-cut end words e rest (b - splits child) h.1 (omega (arith, more, few)))
        ]

  -- ---- the law

  cut-ends-in : (closed : List ℕ) (t : NestedTree) (b : ℕ) → IsCutTree closed (cut t b) b →
      IsRuledIn m n class b closed (cut t b)
  cut-ends-in closed t b c = inr (inr (c.ends, c.count))

  cut-ruled : (closed : List ℕ) (t : NestedTree) (budget less : ℕ) → less ≤ budget →
      IsRuledIn m n class budget closed t →
      IsRuledIn m n class less closed (cut t less)
  cut-ruled closed t budget less below (inl h) = elim (cases_lt less (splits t)) [
    | inl more ↦ cut-ends-in closed t less (done-cut closed t less h.0 more)
    | inr few ↦ subst (IsRuledIn m n class less closed) (sym (cut-same t less few)) (inl (h.0, few))
  ]
  cut-ruled closed t budget less below (inr (inl h)) = elim (cases_lt less (splits t)) [
    | inl more ↦ cut-ends-in closed t less (ends-cut (at_scenario h.0) closed t less h.1 more)
    | inr few ↦ subst (IsRuledIn m n class less closed) (sym (cut-same t less few)) (inr (inl (h.0, h.1, few)))
  ]
  cut-ruled closed t budget less below (inr (inr h)) = elim (cases_lt less (splits t)) [
    | inl more ↦ cut-ends-in closed t less (ends-cut at_budget closed t less h.0 more)
    | inr few ↦ subst (IsRuledIn m n class less closed) (sym (cut-same t less few))
        (inr (inr (h.0, omega (arith, h.1, few, below))))
  ]

pub cut_is_ruled : CutIsRuled
cut_is_ruled m n class budget words tree less below h = (h.0, h.1, cut-ruled m n class h.0 tree budget less below h.2)

pub few_stay : FewStay
few_stay tree budget few = cut-same tree budget few
