-- The search of a label goes through the ruled tree: what lies ahead leads to the label's outcome, step by step.
use Rattle.std.proofs.Common.{◌≡◌, ℕ, suc, ◌+◌, ◌-◌, ◌<◌, ◌≤◌, List, [], ◌∷◌, length, drop, drop-cons, refl, sym, ap, ◌∙◌}
use Rattle.std.proofs.Common.{subst, arith, inl, inr}
use Rattle.std.specs.Prelude.{All, Any, Contains, slice_index, slice_set}
use Rattle.calculus_table.specs.Algebra.{Algebra}
use Rattle.calculus_table.specs.Calculus.{IsCalculus}
use Rattle.calculus_table.proofs.Sets.{IsWithin-refl}
use Rattle.network_words.specs.Edge.{edge_at}
use Rattle.network_words.specs.Network.{IsNetwork}
use Rattle.network_words.specs.Closure.{IsClosed, IsClosure}
use Rattle.network_words.proofs.Networks.{IsClosure-unique}
use Rattle.tract_classes.specs.Class.{IsClosedClass}
use Rattle.tract_classes.specs.Straight.{IsStraight}
use Rattle.split_trees.specs.declared.tree.Kind.{Kind}
use Rattle.split_trees.specs.Tree.{TreeNode, NestedTree, leaf, split, no_branches, branch, parts_of, preorder}
use Rattle.split_search.specs.Ruled.{IsSeveral, IsUndecided, IsRuledSplit, IsDone, AreDone, End, at_scenario, at_budget}
use Rattle.split_search.specs.Ruled.{IsEndLeaf, Ends, EndsAmong, IsVerdict, splits, splits_of_all}
use Rattle.split_search.specs.declared.verdict.Verdict.{Verdict}
use Rattle.split_search.specs.declared.verdict.Verdict.TheVariants.{Yes, No, Budget}
use Rattle.split_search.proofs.OneVerdict.{split-one, empty-no_scenario, undecided-no_scenario, later-splits}
use Rattle.minimal_net.specs.declared.outcome.Outcome.{Outcome}
use Rattle.minimal_net.specs.declared.outcome.Outcome.TheVariants.{Held, Open}
use Rattle.minimal_net.specs.declared.open_split.OpenSplit.{OpenSplit}
use Rattle.minimal_net.specs.Labels.{label_of}
use Rattle.minimal_net.specs.NetworkLabels.{outcome_of}
use Rattle.split_search.specs.Straight.{several_count}
use Rattle.minimal_net.specs.Searching.{IsEnd, Frame, LeadsTo, TreeLeadsTo}
use Rattle.split_search.proofs.Least.{least_exist}
use Rattle.split_search.proofs.EarlyEnds.{straight_yes}

-- no set has several base relations
not-several : (words : List ℕ) → All (λ a. ¬ IsSeveral a) words → Any IsSeveral words → ⊥
not-several words one (k, a, below, at, many) = one k a below (subst IsSeveral (sym at) many)

no_part : (p : ℕ) (parts : List ℕ) → [] ≡ p ∷ parts → ⊥
no_part p parts e = omega (arith, ap length e)

-- a closed network is its own closure
pub closed-closure : (m : Algebra) (n : ℕ) (words : List ℕ) → IsClosed m n words → IsClosure m n words words
closed-closure m n words closed = record {
  length_is = refl;
  closed = closed;
  within = record { each = λ e. IsWithin-refl (slice_index words e) };
  greatest = λ other long own within. within;
}

not-no : (relations : List ℕ) (nodes others : List TreeNode) → No others ≡ Yes relations nodes → ⊥
not-no relations nodes others e = cc

not-budget : (relations : List ℕ) (nodes others : List TreeNode) → Budget others ≡ Yes relations nodes → ⊥
not-budget relations nodes others e = cc

-- the parts from a place on begin with the one there
parts-from : (parts : List ℕ) (k : ℕ) → k < length parts → drop k parts ≡ slice_index parts k ∷ drop (k + 1) parts
parts-from parts k below =
    let next : suc k ≡ k + 1 = omega arith in
    drop-cons parts k 0 below ∙ ap (λ j. slice_index parts k ∷ drop j parts) next

module _ (m : Algebra) (n : ℕ) (class : List ℕ) (budget : ℕ) (o : Outcome) where
  end-few : (end : End) (count : ℕ) → IsEnd o budget end count → count ≤ budget
  end-few (at_scenario relations) count h = h.fits
  end-few at_budget count h = omega (arith, h.fits)

  -- no more splits than the budget
  pub leads-few : (way : List Frame) (count : ℕ) → LeadsTo m n class budget o way count → count ≤ budget
  leads-few [] count h = h.1
  leads-few (f ∷ way) count (bs, parts, inl (done, leads)) =
      omega (arith, leads-few way (count + splits_of_all bs) leads)
  leads-few (f ∷ way) count (bs, parts, inr (end, ends, is)) = omega (arith, end-few end (count + splits_of_all bs) is)

  pub tree-few : (way : List Frame) (count : ℕ) (top : List ℕ) (tree : NestedTree) →
      TreeLeadsTo m n class budget o way count top tree → count ≤ budget
  tree-few way count top tree (inl (done, leads)) = omega (arith, leads-few way (count + splits tree) leads)
  tree-few way count top tree (inr (end, ends, is)) = omega (arith, end-few end (count + splits tree) is)

  -- ---- at a child

  empty-leaf : (end : End) (top : List ℕ) (kind : Kind) → Contains top 0 → IsEndLeaf end top kind → ⊥
  empty-leaf (at_scenario relations) top kind empty h = empty-no_scenario top relations empty h.1
  empty-leaf at_budget top kind empty h = h.1.no_empty empty

  -- the tree of a network with an empty set is done
  pub empty-leads : (way : List Frame) (count : ℕ) (top : List ℕ) (tree : NestedTree) → Contains top 0 →
      TreeLeadsTo m n class budget o way count top tree → LeadsTo m n class budget o way count
  empty-leads way count top (leaf kind steps) empty (inl (done, leads)) =
      subst (LeadsTo m n class budget o way) (omega arith) leads
  empty-leads way count top (leaf kind steps) empty (inr (end, ends, is)) =
      absurd (empty-leaf end top kind empty ends.1)
  empty-leads way count top (split i j steps bs) empty (inl (done, leads)) = absurd (done.0.undecided.no_empty empty)
  empty-leads way count top (split i j steps bs) empty (inr (end, ends, is)) = absurd (ends.0.undecided.no_empty empty)

  -- that of a network with one base relation for each edge ends at these
  pub single-held : (way : List Frame) (count : ℕ) (top : List ℕ) (tree : NestedTree) → ¬ Contains top 0 →
      All (λ a. ¬ IsSeveral a) top → TreeLeadsTo m n class budget o way count top tree → o ≡ Held
  single-held way count top (leaf kind steps) full one (inl (done, leads)) = absurd (full done.2)
  single-held way count top (leaf kind steps) full one (inr (at_scenario relations, ends, is)) = is.outcome
  single-held way count top (leaf kind steps) full one (inr (at_budget, ends, is)) =
      absurd (not-several top one ends.1.1.several)
  single-held way count top (split i j steps bs) full one (inl (done, leads)) =
      absurd (not-several top one done.0.undecided.several)
  single-held way count top (split i j steps bs) full one (inr (end, ends, is)) =
      absurd (not-several top one ends.0.undecided.several)

  -- that of an undecided network ends there, where no split is left
  pub spent-open : (way : List Frame) (count : ℕ) (top : List ℕ) (tree : NestedTree) → IsUndecided top →
      budget ≤ count → TreeLeadsTo m n class budget o way count top tree → o ≡ Open
  spent-open way count top (leaf kind steps) u spent (inl (done, leads)) = absurd (u.no_empty done.2)
  spent-open way count top (leaf kind steps) u spent (inr (at_scenario relations, ends, is)) =
      absurd (undecided-no_scenario top relations u ends.1.1)
  spent-open way count top (leaf kind steps) u spent (inr (at_budget, ends, is)) = is.outcome
  spent-open way count top (split i j steps bs) u spent (inl (done, leads)) =
      absurd (omega (arith, spent, leads-few way (count + splits (split i j steps bs)) leads))
  spent-open way count top (split i j steps bs) u spent (inr (end, ends, is)) =
      absurd (omega (arith, spent, end-few end (count + splits (split i j steps bs)) is))

  -- and else it is split
  pub split-leads : (way : List Frame) (count : ℕ) (top : List ℕ) (tree : NestedTree) (state : OpenSplit) →
      state.next ≡ 0 → IsUndecided top → count < budget → IsRuledSplit m class top state.edge state.parts.items →
      TreeLeadsTo m n class budget o way count top tree →
      LeadsTo m n class budget o (record { state = state; words = top } ∷ way) (count + 1)
  split-leads way count top (leaf kind steps) state first u left ruled (inl (done, leads)) = absurd (u.no_empty done.2)
  split-leads way count top (leaf kind steps) state first u left ruled (inr (at_scenario relations, ends, is)) =
      absurd (undecided-no_scenario top relations u ends.1.1)
  split-leads way count top (leaf kind steps) state first u left ruled (inr (at_budget, ends, is)) =
      absurd (omega (arith, left, is.fits))
  split-leads way count top (split i j steps bs) state first u left ruled (inl (done, leads)) =
      let same = split-one m class top (edge_at n i j) (parts_of bs) state.edge state.parts.items done.0.ruled ruled in (
        bs,
        same.parts ∙ ap (λ k. drop k state.parts.items) (sym first),
        inl (
          subst (λ e. AreDone m n class top e bs) same.edge done.1,
          subst (LeadsTo m n class budget o way) (omega arith) leads,
        ),
      )
  split-leads way count top (split i j steps bs) state first u left ruled (inr (end, ends, is)) =
      let same = split-one m class top (edge_at n i j) (parts_of bs) state.edge state.parts.items ends.0.ruled ruled in (
        bs,
        same.parts ∙ ap (λ k. drop k state.parts.items) (sym first),
        inr (
          end,
          subst (λ e. EndsAmong m n class end top e bs) same.edge ends.1,
          subst (IsEnd o budget end) (omega arith) is,
        ),
      )

  -- that of a network over a straight class that is closed ends at its least base relations, where the budget has room
  -- for its edges with several
  module _ (calculus : IsCalculus m) (own : IsClosedClass m class) (straight : IsStraight m class) where
    early-yes : (count : ℕ) (top : List ℕ) (v : Verdict) → IsNetwork m n top → IsClosed m n top → ¬ Contains top 0 →
        All (Contains class) top → count + several_count top ≤ budget → IsVerdict m n class (budget - count) top v →
        (relations : List ℕ) × (nodes : List TreeNode) × (v ≡ Yes relations nodes)
    early-yes count top v net closed full members room ruled =
        let least = least_exist n top net.length_is full in
        let found = straight_yes m n class (budget - count) top top least.0 v calculus own straight net
        (closed-closure m n top closed) members least.1 (omega (arith, room)) ruled in
        (least.0, found.0, found.1)

    pub early-held : (way : List Frame) (count : ℕ) (top : List ℕ) (tree : NestedTree) → IsNetwork m n top →
        IsClosed m n top → ¬ Contains top 0 → All (Contains class) top → count + several_count top ≤ budget →
        TreeLeadsTo m n class budget o way count top tree → o ≡ Held
    early-held way count top tree net closed full members room (inl (done, leads)) =
        let nodes = preorder 0 tree in
        let found = early-yes count top (No nodes) net closed full members room (record {
          closure = top;
          is_closure = closed-closure m n top closed;
          tree = tree;
          nodes_are = refl;
          has = (done, omega (arith, leads-few way (count + splits tree) leads));
        }) in
        absurd (not-no found.0 found.1 nodes found.2)
    early-held way count top tree net closed full members room (inr (at_scenario relations, ends, is)) = is.outcome
    early-held way count top tree net closed full members room (inr (at_budget, ends, is)) =
        let nodes = preorder 0 tree in
        let found = early-yes count top (Budget nodes) net closed full members room (record {
          closure = top;
          is_closure = closed-closure m n top closed;
          tree = tree;
          nodes_are = refl;
          has = (ends, omega (arith, is.fits));
        }) in
        absurd (not-budget found.0 found.1 nodes found.2)

  -- ---- between two children

  -- the tree of the next child, of whose network this is the closure
  pub record NextChild (f : Frame) (way : List Frame) (count : ℕ) (closed : List ℕ) : Type 0 where
    pub tree : NestedTree
    pub leads : TreeLeadsTo m n class budget o (record f { state = record f.state { next = f.state.next + 1 } } ∷ way)
        count closed tree

  first-part : (p q : ℕ) (xs ys : List ℕ) → p ∷ xs ≡ q ∷ ys → p ≡ q
  first-part p q xs ys e = ap (λ zs. slice_index zs 0) e

  later-parts : (p q : ℕ) (xs ys : List ℕ) → p ∷ xs ≡ q ∷ ys → xs ≡ ys
  later-parts p q xs ys e = ap (drop 1) e

  pub next-leads : (f : Frame) (way : List Frame) (count : ℕ) (closed : List ℕ) →
      f.state.next < length f.state.parts.items → LeadsTo m n class budget o (f ∷ way) count →
      IsClosure m n (slice_set f.words f.state.edge (slice_index f.state.parts.items f.state.next)) closed →
      NextChild f way count closed
  next-leads f way count closed left (no_branches, parts, leads) is =
      absurd (no_part (slice_index f.state.parts.items f.state.next) (drop (f.state.next + 1) f.state.parts.items)
      (parts ∙ parts-from f.state.parts.items f.state.next left))
  next-leads f way count closed left (branch p t bs, parts, inl ((first, done), leads)) is =
      let both = parts ∙ parts-from f.state.parts.items f.state.next left in
      let q = slice_index f.state.parts.items f.state.next in
      let rest = drop (f.state.next + 1) f.state.parts.items in
      let own : IsClosure m n (slice_set f.words f.state.edge q) first.0 =
      subst (λ x. IsClosure m n (slice_set f.words f.state.edge x) first.0) (first-part p q (parts_of bs) rest both) first.1 in
      let same : first.0 ≡ closed = IsClosure-unique m n (slice_set f.words f.state.edge q) first.0 closed own is in
      record {
        tree = t;
        leads = inl (
          subst (λ x. IsDone m n class x t) same first.2,
          (
            bs,
            later-parts p q (parts_of bs) rest both,
            inl (done, subst (LeadsTo m n class budget o way) (omega arith) leads),
          ),
        );
      }
  next-leads f way count closed left (branch p t bs, parts, inr (end, (own, is_own, inl (ends, later)), is_end)) is =
      let both = parts ∙ parts-from f.state.parts.items f.state.next left in
      let q = slice_index f.state.parts.items f.state.next in
      let rest = drop (f.state.next + 1) f.state.parts.items in
      let there : IsClosure m n (slice_set f.words f.state.edge q) own =
      subst (λ x. IsClosure m n (slice_set f.words f.state.edge x) own) (first-part p q (parts_of bs) rest both) is_own in
      let same : own ≡ closed = IsClosure-unique m n (slice_set f.words f.state.edge q) own closed there is in
      record {
        tree = t;
        leads = inr (
          end,
          subst (λ x. Ends m n class end x t) same ends,
          subst (IsEnd o budget end) (omega (arith, later-splits m n class bs later)) is_end,
        );
      }
  next-leads f way count closed left (branch p t bs, parts, inr (end, (own, is_own, inr (done, ends)), is_end)) is =
      let both = parts ∙ parts-from f.state.parts.items f.state.next left in
      let q = slice_index f.state.parts.items f.state.next in
      let rest = drop (f.state.next + 1) f.state.parts.items in
      let there : IsClosure m n (slice_set f.words f.state.edge q) own =
      subst (λ x. IsClosure m n (slice_set f.words f.state.edge x) own) (first-part p q (parts_of bs) rest both) is_own in
      let same : own ≡ closed = IsClosure-unique m n (slice_set f.words f.state.edge q) own closed there is in
      record {
        tree = t;
        leads = inl (
          subst (λ x. IsDone m n class x t) same done,
          (
            bs,
            later-parts p q (parts_of bs) rest both,
            inr (end, ends, subst (IsEnd o budget end) (omega arith) is_end),
          ),
        );
      }

  -- each child was looked at
  pub close-leads : (f : Frame) (way : List Frame) (count : ℕ) → drop f.state.next f.state.parts.items ≡ [] →
      LeadsTo m n class budget o (f ∷ way) count → LeadsTo m n class budget o way count
  close-leads f way count none (no_branches, parts, inl (done, leads)) =
      subst (LeadsTo m n class budget o way) (omega arith) leads
  close-leads f way count none (no_branches, parts, inr (end, ends, is)) = absurd ends
  close-leads f way count none (branch p t bs, parts, rest) = absurd (no_part p (parts_of bs) (sym (parts ∙ none)))

-- ---- the first child

-- the tree of the network of a label leads to its outcome
pub record FirstChild (m : Algebra) (n : ℕ) (class : List ℕ) (budget : ℕ) (top : List ℕ) (v : Verdict) : Type 0 where
  pub tree : NestedTree
  pub leads : TreeLeadsTo m n class budget (outcome_of (label_of v)) [] 0 top tree

pub first-leads : (m : Algebra) (n : ℕ) (class : List ℕ) (budget : ℕ) (words top : List ℕ) (v : Verdict) →
    IsClosure m n words top → IsVerdict m n class budget words v → FirstChild m n class budget top v
first-leads m n class budget words top (No nodes) is h =
    let same = IsClosure-unique m n words h.closure top h.is_closure is in
    record { tree = h.tree; leads = inl (subst (λ x. IsDone m n class x h.tree) same h.has.0, (refl, omega (arith, h.has.1))) }
first-leads m n class budget words top (Yes relations nodes) is h =
    let same = IsClosure-unique m n words h.closure top h.is_closure is in
    record {
      tree = h.tree;
      leads = inr (
        at_scenario relations,
        subst (λ x. Ends m n class (at_scenario relations) x h.tree) same h.has.0,
        record { outcome = refl; fits = omega (arith, h.has.1) },
      );
    }
first-leads m n class budget words top (Budget nodes) is h =
    let same = IsClosure-unique m n words h.closure top h.is_closure is in
    record {
      tree = h.tree;
      leads = inr (
        at_budget,
        subst (λ x. Ends m n class at_budget x h.tree) same h.has.0,
        record { outcome = refl; fits = omega (arith, h.has.1) },
      );
    }
