-- The steps of the search of a label, on the path of closed networks.
use Rattle.std.proofs.Common.{◌≡◌, ℕ, ◌+◌, ◌-◌, ◌<◌, ◌≤◌, Bool, true, false, not, List, [], ◌∷◌, ◌++◌, length, drop, drop_of_length-le, refl, sym, ap, ◌∙◌}
use Rattle.std.proofs.Common.{subst, arith, inl, inr}
use Rattle.std.specs.Prelude.{Contains, slice_index, slice_set, Option, Some, None, is_some, MatchOption, Result, Ok, Err, OnOk}
use Rattle.std.proofs.lemmas.List.{length-append}
use Rattle.calculus_table.specs.Algebra.{Algebra}
use Rattle.calculus_table.specs.Rel.{IsWithin}
use Rattle.calculus_table.proofs.Members.{full-member}
use Rattle.network_words.specs.Edge.{edge_count}
use Rattle.network_words.specs.Network.{IsNetwork}
use Rattle.network_words.specs.Closure.{IsClosed, IsClosure}
use Rattle.network_words.proofs.Networks.{IsClosure-unique}
use Rattle.closure_seq.specs.Paths.{Path, IsPathOf}
use Rattle.tract_classes.specs.Class.{HasBasesOf}
use Rattle.closure_seq.proofs.Trails.{snoc-same}
use Rattle.split_search.specs.Candidates.{GuidedLevels, guided_by, IsNextEdge, AreNextParts}
use Rattle.split_search.specs.Ruled.{IsSeveral, IsUndecided, IsRuledSplit, IsVerdict, singles_in}
use Rattle.split_search.specs.declared.verdict.Verdict.{Verdict}
use Rattle.split_search.specs.Way.{IsLeft}
use Rattle.split_search.proofs.Leaving.{at-index}
use Rattle.split_search.proofs.Bounds.{parts-few}
use Rattle.split_search.proofs.Networks.{set-network, closure-network, not-empty}
use Rattle.split_search.proofs.Refuted.{ruled-make_up, split-below}
use Rattle.split_search.proofs.SomeVerdict.{outside-several, any-at}
use Rattle.split_search.proofs.Splits.{MakeUp}
use Rattle.minimal_net.specs.declared.outcome.Outcome.{Outcome}
use Rattle.minimal_net.specs.declared.outcome.Outcome.TheVariants.{Refuted}
use Rattle.minimal_net.specs.declared.open_split.OpenSplit.{OpenSplit}
use Rattle.minimal_net.specs.Labels.{set_to, label_of}
use Rattle.minimal_net.specs.NetworkLabels.{outcome_of}
use Rattle.minimal_net.specs.Searching.{IsNextPart, Task, task_on, task_over, IsTask, Frame, IsFrame, AreFrames, splits_of}
use Rattle.minimal_net.specs.Searching.{levels_of, LeadsTo, IsBetween, IsAtChild, first_level, children_left}
use Rattle.minimal_net.proofs.Leading.{closed-closure, empty-leads, split-leads, next-leads, close-leads, first-leads}

-- ---- the next split

module _ (t : Task) (is : IsTask t) (top : List ℕ) (net : IsNetwork t.algebra t.nodes top) (full : ¬ Contains top 0) where
  pub next-undecided : (e : ℕ) → IsNextEdge t.class top e → IsUndecided top
  next-undecided e (inl first) = record {
    no_empty = full;
    several = any-at top IsSeveral e first.below
        (outside-several t.algebra t.class is.bases (slice_index top e) (net.within e) (not-empty top e first.below full) first.here);
  }
  next-undecided e (inr next) = record { no_empty = full; several = any-at top IsSeveral e next.1.below next.1.here }

  pub next-below : (e : ℕ) → IsNextEdge t.class top e → e < edge_count t.nodes
  next-below e (inl first) = omega (arith, first.below, net.length_is)
  next-below e (inr next) = omega (arith, next.1.below, net.length_is)

  pub next-bases : (e : ℕ) → HasBasesOf t.class (slice_index top e)
  next-bases e r has = is.bases r (full-member t.algebra r ((net.within e).each r has))

  pub next-ruled : (e : ℕ) → IsNextEdge t.class top e → (parts : List ℕ) →
      AreNextParts t.size t.class (slice_index top e) parts → IsRuledSplit t.algebra t.class top e parts
  next-ruled e (inl first) parts (inl are) = inl (record { first = first; are_parts = are.1 })
  next-ruled e (inl first) parts (inr are) = absurd (first.here are.0)
  next-ruled e (inr next) parts (inl are) = absurd (are.0 (next.0 e 0 next.1.below))
  next-ruled e (inr next) parts (inr are) = inr (record {
    members = next.0;
    first = next.1;
    are_singles = are.1 ∙ ap (λ k. singles_in k (slice_index top e)) is.size_is;
  })

  -- it has 64 parts at most
  pub next-few : (e : ℕ) → IsNextEdge t.class top e → (parts : List ℕ) → IsRuledSplit t.algebra t.class top e parts →
      length parts ≤ 64
  next-few e next parts ruled = omega (
    arith,
    parts-few t.algebra t.nodes t.class is.bases top e parts net (next-undecided e next) ruled,
    is.calculus.table.bounded,
  )

-- ---- levels

levels-some : (words : List ℕ) (way : List Frame) → levels_of words way ≡ [] → ⊥
levels-some words [] e = omega (arith, ap length e)
levels-some words (f ∷ way) e = omega (arith, ap length e, length-append (levels_of words way) (f.words ∷ []))

pub levels-long : (words : List ℕ) (way : List Frame) → 0 < length (levels_of words way)
levels-long words [] = omega arith
levels-long words (f ∷ way) = omega (arith, length-append (levels_of words way) (f.words ∷ []))

-- the top is left
left-levels : (words : List ℕ) (way : List Frame) (old below : List (List ℕ)) (top : List ℕ) → old ≡ levels_of words way →
    IsLeft old below top → below ++ top ∷ [] ≡ levels_of words way
left-levels words way old below top e (inl none) = absurd (levels-some words way (sym e ∙ none.0))
left-levels words way old below top e (inr left) = sym left ∙ e

-- the first level stays when a level is pushed
pub first-pushed : (below : List (List ℕ)) (top next : List ℕ) → first_level (below ++ top ∷ []) next ≡ first_level below top
first-pushed [] top next = refl
first-pushed (first ∷ below) top next = refl

-- a guided path of one level, the closure of a network that is closed
pub first-task : (m : Algebra) (n : ℕ) (words class : List ℕ) (budget : ℕ) (is_straight : Bool) (levels : Path) (size : ℕ)
    (path : GuidedLevels) → IsClosed m n words → IsPathOf m n words levels → path ≡ guided_by class size levels →
    size ≡ m.size → task_on path budget is_straight ≡ task_over m n class words budget is_straight
first-task m n words class budget is_straight levels size path closed of guided size_is =
    let top : levels.top ≡ words =
    IsClosure-unique m n words levels.top words of.closure (closed-closure m n words closed) in
    let task : Algebra → ℕ → ℕ → List ℕ → Task = λ a k s ws. record {
      algebra = a;
      nodes = k;
      size = s;
      class = class;
      words = ws;
      budget = budget;
      is_straight = is_straight;
    } in
    ap (λ (p : GuidedLevels). task_on p budget is_straight) guided
    ∙ ap (λ b. task levels.algebra levels.nodes size (first_level b levels.top)) of.first
    ∙ ap (task levels.algebra levels.nodes size) top
    ∙ ap (λ s. task levels.algebra levels.nodes s words) size_is
    ∙ ap (λ a. task a levels.nodes m.size words) of.algebra_is
    ∙ ap (λ k. task m k m.size words) of.nodes_are

-- a level is pushed, and the top is left
pub pushed-task : (old new : GuidedLevels) (budget : ℕ) (is_straight : Bool) →
    new ≡ record old { top = new.top; below = old.below ++ old.top ∷ [] } →
    task_on new budget is_straight ≡ task_on old budget is_straight
pushed-task old new budget is_straight e =
    ap (λ (p : GuidedLevels). task_on p budget is_straight) e
    ∙ ap (λ ws. record (task_on old budget is_straight) { words = ws }) (first-pushed old.below old.top new.top)

pub left-task : (old new : GuidedLevels) (budget : ℕ) (is_straight : Bool) → 0 < length old.below →
    IsLeft old.below new.below new.top → new ≡ record old { top = new.top; below = new.below } →
    task_on new budget is_straight ≡ task_on old budget is_straight
left-task old new budget is_straight some (inl none) e = absurd (omega (arith, some, ap length none.0))
left-task old new budget is_straight some (inr left) e =
    ap (λ (p : GuidedLevels). task_on p budget is_straight) e
    ∙ ap (λ ws. record (task_on old budget is_straight) { words = ws })
    (sym (ap (λ b. first_level b old.top) left ∙ first-pushed new.below new.top old.top))

module _ (t : Task) (is : IsTask t) (o : Outcome) where
  -- ---- at a child

  -- it has an empty set, and is left
  pub child-left : (open_splits : List OpenSplit) (old below : List (List ℕ)) (last top : List ℕ) (count : ℕ) →
      IsAtChild t o open_splits old last count → Contains last 0 → IsLeft old below top →
      IsBetween t o open_splits below top count
  child-left open_splits old below last top count h empty left = record {
    way = h.way;
    frames = h.frames;
    splits_are = h.splits_are;
    levels_are = left-levels t.words h.way old below top h.levels_are left;
    leads = empty-leads t.algebra t.nodes t.class t.budget o h.way count last h.tree empty h.leads;
  }

  -- it has a level below
  pub child-above : (open_splits : List OpenSplit) (below : List (List ℕ)) (top : List ℕ) (count : ℕ) →
      IsAtChild t o open_splits below top count → 0 < length below
  child-above open_splits below top count h =
      subst (λ b. 0 < length b) (sym h.levels_are) (levels-long t.words h.way)

  -- it is split
  pub child-split : (open_splits more : List OpenSplit) (below : List (List ℕ)) (top : List ℕ) (count : ℕ)
      (state : OpenSplit) → IsAtChild t o open_splits below top count → state.next ≡ 0 → IsUndecided top →
      count < t.budget → IsRuledSplit t.algebra t.class top state.edge state.parts.items →
      more ≡ open_splits ++ state ∷ [] → IsBetween t o more below top (count + 1)
  child-split open_splits more below top count state h first u left ruled pushed = record {
    way = record { state = state; words = top } ∷ h.way;
    frames = (record { network = h.network; undecided = u; ruled = ruled; next = omega (arith, first) }, h.frames);
    splits_are = pushed ∙ ap (λ xs. xs ++ state ∷ []) h.splits_are;
    levels_are = ap (λ xs. xs ++ top ∷ []) h.levels_are;
    leads = split-leads t.algebra t.nodes t.class t.budget o h.way count top h.tree state first u left ruled h.leads;
  }

  -- ---- between two children

  -- the last split of the way
  record IsLast (open_splits : List OpenSplit) (split : OpenSplit) (below : List (List ℕ)) (top : List ℕ) (count : ℕ)
      : Type 0 where
    pub last : Frame
    pub way : List Frame
    pub is_frame : IsFrame t.algebra t.nodes t.class last
    pub frames : AreFrames t.algebra t.nodes t.class way
    pub splits_are : open_splits ≡ splits_of way
    pub state_is : split ≡ last.state
    pub levels_are : below ≡ levels_of t.words way
    pub top_is : top ≡ last.words
    pub leads : LeadsTo t.algebra t.nodes t.class t.budget o (last ∷ way) count

  last-of : (way : List Frame) (open_splits : List OpenSplit) (split : OpenSplit) (below : List (List ℕ)) (top : List ℕ)
      (count : ℕ) → AreFrames t.algebra t.nodes t.class way → open_splits ++ split ∷ [] ≡ splits_of way →
      below ++ top ∷ [] ≡ levels_of t.words way → LeadsTo t.algebra t.nodes t.class t.budget o way count →
      IsLast open_splits split below top count
  last-of [] open_splits split below top count frames splits levels leads =
      absurd (omega (arith, ap length splits, length-append open_splits (split ∷ [])))
  last-of (f ∷ way) open_splits split below top count frames splits levels leads =
      let own = snoc-same open_splits (splits_of way) split f.state splits in
      let there = snoc-same below (levels_of t.words way) top f.words levels in
      record {
        last = f;
        way = way;
        is_frame = frames.0;
        frames = frames.1;
        splits_are = own.0;
        state_is = own.1;
        levels_are = there.0;
        top_is = there.1;
        leads = leads;
      }

  between-last : (open_splits : List OpenSplit) (split : OpenSplit) (below : List (List ℕ)) (top : List ℕ) (count : ℕ) →
      IsBetween t o (open_splits ++ split ∷ []) below top count → IsLast open_splits split below top count
  between-last open_splits split below top count h =
      last-of h.way open_splits split below top count h.frames h.splits_are h.levels_are h.leads

  -- each child was looked at, and the network of the split is left
  pub between-left : (open_splits : List OpenSplit) (split : OpenSplit) (old below : List (List ℕ)) (last top : List ℕ)
      (count : ℕ) → IsBetween t o (open_splits ++ split ∷ []) old last count →
      length split.parts.items ≤ split.next → IsLeft old below top → IsBetween t o open_splits below top count
  between-left open_splits split old below last top count h whole left =
      let l = between-last open_splits split old last count h in
      let none : drop l.last.state.next l.last.state.parts.items ≡ [] =
      subst (λ (s : OpenSplit). drop s.next s.parts.items ≡ []) l.state_is
      (drop_of_length-le split.parts.items whole) in
      record {
        way = l.way;
        frames = l.frames;
        splits_are = l.splits_are;
        levels_are = left-levels t.words l.way old below top l.levels_are left;
        leads = close-leads t.algebra t.nodes t.class t.budget o l.last l.way count none l.leads;
      }

  -- the network of the split isn't the first level
  pub between-above : (open_splits : List OpenSplit) (split : OpenSplit) (below : List (List ℕ)) (top : List ℕ) (count : ℕ) →
      IsBetween t o (open_splits ++ split ∷ []) below top count → 0 < length below
  between-above open_splits split below top count h =
      let l = between-last open_splits split below top count h in
      subst (λ b. 0 < length b) (sym l.levels_are) (levels-long t.words l.way)

  -- what narrowing to the next part rests on
  pub record CanNarrow (split : OpenSplit) (top : List ℕ) (part : ℕ) : Type 0 where
    pub full : ¬ Contains top 0
    pub below : split.edge < edge_count t.nodes
    pub within : IsWithin part (slice_index top split.edge)

  frame-narrows : (f : Frame) → IsFrame t.algebra t.nodes t.class f → (split next : OpenSplit) (top : List ℕ) (part : ℕ) →
      split ≡ f.state → top ≡ f.words → IsNextPart split next part → CanNarrow split top part
  frame-narrows f frame split next top part state_is top_is p =
      let e = f.state.edge in
      let ps = f.state.parts.items in
      let below : e < length f.words = split-below t.algebra t.class f.words e ps frame.ruled in
      let made : MakeUp (slice_index f.words e) ps =
      ruled-make_up t.algebra t.nodes t.class is.bases f.words e ps frame.network frame.undecided frame.ruled in
      let left : f.state.next < length ps =
      subst (λ (s : OpenSplit). s.next < length s.parts.items) state_is p.left in
      let part_is : part ≡ slice_index ps f.state.next =
      p.part_is ∙ ap (λ (s : OpenSplit). slice_index s.parts.items s.next) state_is in
      let within : IsWithin part (slice_index f.words e) =
      subst (λ x. IsWithin x (slice_index f.words e)) (sym part_is)
      (at-index (λ x. IsWithin x (slice_index f.words e)) ps f.state.next made.within left) in
      record {
        full = subst (λ xs. ¬ Contains xs 0) (sym top_is) frame.undecided.no_empty;
        below = subst (λ (s : OpenSplit). s.edge < edge_count t.nodes) (sym state_is)
            (omega (arith, below, frame.network.length_is));
        within = subst (λ (s : OpenSplit). IsWithin part (slice_index top s.edge)) (sym state_is)
            (subst (λ xs. IsWithin part (slice_index xs e)) (sym top_is) within);
      }

  pub between-narrows : (open_splits : List OpenSplit) (split next : OpenSplit) (below : List (List ℕ)) (top : List ℕ)
      (count part : ℕ) → IsBetween t o (open_splits ++ split ∷ []) below top count → IsNextPart split next part →
      CanNarrow split top part
  between-narrows open_splits split next below top count part h p =
      let l = between-last open_splits split below top count h in
      frame-narrows l.last l.is_frame split next top part l.state_is l.top_is p

  -- the network of the next child is the top
  pub between-child : (open_splits more : List OpenSplit) (split next : OpenSplit) (old below : List (List ℕ))
      (last top : List ℕ) (count part : ℕ) → IsBetween t o (open_splits ++ split ∷ []) old last count →
      IsNextPart split next part → more ≡ open_splits ++ next ∷ [] → below ≡ old ++ last ∷ [] →
      IsClosure t.algebra t.nodes (slice_set last split.edge part) top → IsAtChild t o more below top count
  between-child open_splits more split next old below last top count part h p pushed levels closure =
      let l = between-last open_splits split old last count h in
      let f = l.last in
      let can = between-narrows open_splits split next old last count part h p in
      let net : IsNetwork t.algebra t.nodes last =
      subst (IsNetwork t.algebra t.nodes) (sym l.top_is) l.is_frame.network in
      let made : IsNetwork t.algebra t.nodes (slice_set last split.edge part) =
      set-network t.algebra t.nodes last split.edge part net (omega (arith, can.below, net.length_is)) can.within in
      let there : IsClosure t.algebra t.nodes
      (slice_set f.words f.state.edge (slice_index f.state.parts.items f.state.next)) top =
      subst (λ (s : OpenSplit). IsClosure t.algebra t.nodes
      (slice_set f.words s.edge (slice_index s.parts.items s.next)) top) l.state_is
      (subst (λ x. IsClosure t.algebra t.nodes (slice_set f.words split.edge x) top) p.part_is
      (subst (λ xs. IsClosure t.algebra t.nodes (slice_set xs split.edge part) top) l.top_is closure)) in
      let left : f.state.next < length f.state.parts.items =
      subst (λ (s : OpenSplit). s.next < length s.parts.items) l.state_is p.left in
      let child = next-leads t.algebra t.nodes t.class t.budget o f l.way count top left l.leads there in
      let moved : next ≡ record f.state { next = f.state.next + 1 } =
      p.split_is ∙ ap (λ (s : OpenSplit). record s { next = s.next + 1 }) l.state_is in
      record {
        way = record f { state = record f.state { next = f.state.next + 1 } } ∷ l.way;
        frames = (
          record {
            network = l.is_frame.network;
            undecided = l.is_frame.undecided;
            ruled = l.is_frame.ruled;
            next = omega (arith, left);
          },
          l.frames,
        );
        splits_are = pushed ∙ ap (λ xs. xs ++ next ∷ []) l.splits_are
            ∙ ap (λ s. splits_of l.way ++ s ∷ []) moved;
        levels_are = levels ∙ ap (λ xs. xs ++ last ∷ []) l.levels_are
            ∙ ap (λ xs. levels_of t.words l.way ++ xs ∷ []) l.top_is;
        network = closure-network t.algebra t.nodes (slice_set last split.edge part) top made closure;
        closed = closure.closed;
        tree = child.tree;
        leads = child.leads;
      }

  -- no split is open
  none-left : (way : List Frame) (count : ℕ) → splits_of way ≡ [] →
      LeadsTo t.algebra t.nodes t.class t.budget o way count → o ≡ Refuted
  none-left [] count e leads = leads.0
  none-left (f ∷ way) count e leads = absurd (omega (arith, ap length e, length-append (splits_of way) (f.state ∷ [])))

  pub between-end : (below : List (List ℕ)) (top : List ℕ) (count : ℕ) → IsBetween t o [] below top count → o ≡ Refuted
  between-end below top count h = none-left h.way count (sym h.splits_are) h.leads

-- ---- the first child

pub child-first : (t : Task) → IsTask t → (e base : ℕ) (below : List (List ℕ)) (top : List ℕ) (v : Verdict) →
    IsNetwork t.algebra t.nodes (set_to t.words e base) → below ≡ t.words ∷ [] →
    IsClosure t.algebra t.nodes (set_to t.words e base) top →
    IsVerdict t.algebra t.nodes t.class t.budget (set_to t.words e base) v →
    IsAtChild t (outcome_of (label_of v)) [] below top 0
child-first t is e base below top v net levels closure ruled =
    let set = set_to t.words e base in
    let first = first-leads t.algebra t.nodes t.class t.budget set top v closure ruled in
    record {
      way = [];
      frames = tt;
      splits_are = refl;
      levels_are = levels;
      network = closure-network t.algebra t.nodes set top net closure;
      closed = closure.closed;
      tree = first.tree;
      leads = first.leads;
    }

-- ---- why a search ends

pub left-last : (open_splits : List OpenSplit) (s : OpenSplit) →
    children_left (open_splits ++ s ∷ []) ≡ children_left open_splits + (length s.parts.items - s.next + 1)
left-last [] s = omega arith
left-last (r ∷ open_splits) s = omega (arith, left-last open_splits s)

pub on-less : {A E : Type 0} (r : Result A E) (a b k : ℕ) → OnOk r (a ≤ b) → b < k → OnOk r (a < k)
on-less (Ok x) a b k less below = omega (arith, less, below)
on-less (Err e) a b k less below = tt

-- what holds where nothing was found
pub none-found : (found : Option Outcome) (P : Type 0) (Q : Outcome → Type 0) (none : Bool) → is_some found ≡ not none →
    none ≡ true → MatchOption found P Q → P
none-found None P Q none e is h = h
none-found (Some x) P Q none e is h = (let f = e ∙ ap not is in absurd (cc))

pub some-found : (found : Option Outcome) (P P' : Type 0) (Q : Outcome → Type 0) (none : Bool) → is_some found ≡ not none →
    none ≡ false → MatchOption found P Q → MatchOption found P' Q
some-found None P P' Q none e is h = (let f = e ∙ ap not is in absurd (cc))
some-found (Some x) P P' Q none e is h = h
