-- Over a straight class that is closed, the ruled tree of a closed network goes down by the least base relation of the
-- first edge that has several, each time to a network with the same least base relations, and ends at these.
use Rattle.std.proofs.Common.{◌≡◌, ℕ, zero, suc, ◌+◌, ◌^◌, ◌<◌, ◌≤◌, List, [], ◌∷◌, length, refl, sym, ap, ◌∙◌, subst}
use Rattle.std.proofs.Common.{arith, inl, inr}
use Rattle.std.specs.Prelude.{All, Contains, count_ones, slice_index, slice_set}
use Rattle.std.proofs.lemmas.Bool.{cases_eq}
use Rattle.std.proofs.lemmas.Nat.{and_comm}
use Rattle.std.proofs.lemmas.List.{length-map, length-set, get_or-map}
use Rattle.std.proofs.lemmas.List.Elements.{All-from_get_or}
use Rattle.std.proofs.lemmas.Grind.{same_number_lists}
use Rattle.calculus_table.specs.Rel.{Has, IsWithin}
use Rattle.calculus_table.specs.Algebra.{Algebra}
use Rattle.calculus_table.specs.Calculus.{IsCalculus}
use Rattle.calculus_table.proofs.Sets.{not_Has-empty, meet-within}
use Rattle.calculus_table.proofs.Singles.{single-within}
use Rattle.network_words.specs.Edge.{edge_count, edge_at, EdgeOf}
use Rattle.network_words.specs.Network.{IsNetwork, Refines}
use Rattle.network_words.specs.Closure.{IsClosure}
use Rattle.network_words.specs.Scenario.{IsScenario, as_network}
use Rattle.network_words.proofs.Edges.{edge_of}
use Rattle.network_words.proofs.Networks.{Refines-trans}
use Rattle.network_words.proofs.Existence.{closure_of}
use Rattle.network_words.proofs.Scenarios.{IsScenario-closure}
use Rattle.tract_classes.specs.Class.{IsClosedClass}
use Rattle.split_trees.specs.declared.tree.Kind.TheVariants.{Found, Later}
use Rattle.split_trees.specs.Tree.{sweep, NestedTree, leaf, split, Branches, no_branches, branch, parts_of, preorder}
use Rattle.split_search.specs.Ruled.{IsSeveral, IsFirstEdge, IsUndecided, singles_in, IsRuledSplit, IsRuledAt, splits}
use Rattle.split_search.specs.Ruled.{at_scenario, AreLater, Ends}
use Rattle.split_search.specs.declared.verdict.Verdict.TheVariants.{Yes}
use Rattle.split_search.proofs.Networks.{closure-network, not-empty}
use Rattle.split_search.proofs.Products.{count-le, count-some}
use Rattle.split_search.proofs.Splits.{count_single}
use Rattle.split_search.proofs.SomeVerdict.{single_is, any-at}
use Rattle.split_search.proofs.OneVerdict.{verdict_one, later-splits}
use Rattle.tract_classes.specs.Straight.{IsStraight}
use Rattle.split_search.specs.Straight.{AreLeast, IsClosedOver, several_count}
use Rattle.split_search.specs.Laws.{StraightTreeEnds, StraightIsYes}
use Rattle.split_search.proofs.SetEdges.{set_to, meet_at, set_to-here, set_to-other, set_to-refines, set_to-network}
use Rattle.split_search.proofs.SetEdges.{network-edge, scenario-set_to}
use Rattle.split_search.proofs.Straight.{least_scenario}
use Rattle.split_search.proofs.ClassClosures.{closure-over}
use Rattle.split_search.proofs.Severals.{several_count-less, first_several}
use Rattle.split_search.proofs.FirstSingles.{first_single}

-- the children that aren't looked at
later_of : List ℕ → Branches
later_of [] = no_branches
later_of (p ∷ parts) = branch p (leaf Later sweep) (later_of parts)

later_of-parts : (parts : List ℕ) → parts_of (later_of parts) ≡ parts
unfolding later_of
later_of-parts [] = refl
later_of-parts (p ∷ parts) = ap (λ xs. p ∷ xs) (later_of-parts parts)

later_of-later : (parts : List ℕ) → AreLater (later_of parts)
unfolding later_of
later_of-later [] = tt
later_of-later (p ∷ parts) = (refl, later_of-later parts)

-- an edge set to a base relation that its set has
meet_at-single : (words : List ℕ) (e r : ℕ) → Has (slice_index words e) r → meet_at words e r ≡ 2 ^ r
meet_at-single words e r has =
    let a = slice_index words e in
    and_comm a (2 ^ r) ∙ meet-within (2 ^ r) a (single-within r a has)

set_to-part : (words : List ℕ) (e r : ℕ) → Has (slice_index words e) r → set_to words e r ≡ slice_set words e (2 ^ r)
set_to-part words e r has = ap (slice_set words e) (meet_at-single words e r has)

module _ (m : Algebra) (n : ℕ) (class : List ℕ) (calculus : IsCalculus m) (own : IsClosedClass m class)
    (straight : IsStraight m class) (relations : List ℕ) where
  -- a closed network over the class with these least base relations
  record IsFit (words : List ℕ) : Type 0 where
    over : IsClosedOver m n class words
    least : AreLeast n words relations

  edge-below : (words : List ℕ) (e : ℕ) → IsFit words → e < length words → e < edge_count n
  edge-below words e f below = omega (arith, below, f.over.is_network.length_is)

  fit-some : (words : List ℕ) → IsFit words → ¬ Contains words 0
  fit-some words f (e, below, empty) =
      let r = slice_index relations e in
      not_Has-empty r (subst (λ a. Has a r) empty (f.least.each e (edge-below words e f below)).here)

  fit-scenario : (words : List ℕ) → IsFit words → IsScenario m n words relations
  fit-scenario words f = least_scenario m n class words relations straight f.over f.least

  -- ---- the network of the first child

  record IsChild (words : List ℕ) (e : ℕ) (closure : List ℕ) : Type 0 where
    is_closure : IsClosure m n (slice_set words e (2 ^ slice_index relations e)) closure
    fit : IsFit closure
    less : several_count closure < several_count words

  child-members : (words : List ℕ) (e : ℕ) → IsFit words → e < edge_count n →
      All (Contains class) (set_to words e (slice_index relations e))
  child-members words e f below =
      let r = slice_index relations e in
      let set = set_to words e r in
      let at : e < length words = network-edge m n words e f.over.is_network below in
      let same : length set ≡ length words = length-set words e (meet_at words e r) in
      let here : slice_index set e ≡ 2 ^ r =
      set_to-here words e r at ∙ meet_at-single words e r (f.least.each e below).here in
      let base : Contains class (2 ^ r) = own.bases r ((fit-scenario words f).below e below) in
      All-from_get_or (Contains class) set 0 (λ d l. elim (cases_eq d e) [
        | inl there ↦
            subst (λ k. Contains class (slice_index set k)) (sym there) (subst (Contains class) (sym here) base)
        | inr other ↦ subst (Contains class) (sym (set_to-other words e r d other))
            (f.over.members d 0 (omega (arith, l, same)))
      ])

  child-least : (words closure : List ℕ) → IsFit words → Refines closure words → IsScenario m n closure relations →
      AreLeast n closure relations
  child-least words closure f within kept = record {
    length_is = f.least.length_is;
    each = λ e below. record {
      here = kept.member e below;
      least = λ t has. (f.least.each e below).least t ((within.each e).each t has);
    };
  }

  child-single : (words closure : List ℕ) (e : ℕ) → IsFit words → e < edge_count n →
      Refines closure (set_to words e (slice_index relations e)) → count_ones (slice_index closure e) ≤ 1
  child-single words closure e f below within =
      let r = slice_index relations e in
      let at : e < length words = network-edge m n words e f.over.is_network below in
      let here = set_to-here words e r at ∙ meet_at-single words e r (f.least.each e below).here in
      omega (
        arith,
        count-le (slice_index closure e) (2 ^ r) (subst (IsWithin (slice_index closure e)) here (within.each e)),
        count_single r,
      )

  child : (words : List ℕ) (e : ℕ) → IsFit words → e < edge_count n → IsSeveral (slice_index words e) →
      (closure : List ℕ) × IsChild words e closure
  child words e f below many =
      let r = slice_index relations e in
      let set = set_to words e r in
      let at : e < length words = network-edge m n words e f.over.is_network below in
      let net : IsNetwork m n set = set_to-network m n words e r f.over.is_network below in
      let found = closure_of m n set calculus net in
      let closure = found.0 in
      let same : length closure ≡ length words = found.1.length_is ∙ length-set words e (meet_at words e r) in
      let within : Refines closure words =
      Refines-trans closure set words found.1.within (set_to-refines words e r at) in
      let scenario : IsScenario m n set relations =
      scenario-set_to m n words e r relations f.over.is_network below (fit-scenario words f) refl in
      let kept : IsScenario m n closure relations =
      (IsScenario-closure m n set closure relations calculus net found.1).0 scenario in (
        closure,
        record {
          is_closure = subst (λ xs. IsClosure m n xs closure)
              (set_to-part words e r (f.least.each e below).here) found.1;
          fit = record {
            over = closure-over m n class set closure calculus own net (child-members words e f below) found.1;
            least = child-least words closure f within kept;
          };
          less = several_count-less closure words e same within at
              (child-single words closure e f below found.1.within) many;
        },
      )

  -- ---- the tree

  record EndsEarly (words : List ℕ) : Type 0 where
    tree : NestedTree
    ends : Ends m n class (at_scenario relations) words tree
    few : splits tree ≤ several_count words

  early-leaf : (words : List ℕ) → IsFit words → ((d : ℕ) → d < length words → count_ones (slice_index words d) ≤ 1) →
      EndsEarly words
  early-leaf words f one =
      let long : length (as_network relations) ≡ length words =
      length-map relations (λ r. 2 ^ r) ∙ f.least.length_is ∙ sym f.over.is_network.length_is in
      let same : as_network relations ≡ words = same_number_lists (as_network relations) words long (λ k l.
      let below : k < length words = omega (arith, l, long) in
      let short : k < length relations = omega (arith, l, length-map relations (λ r. 2 ^ r)) in
      let some = count-some (slice_index words k) (not-empty words k below (fit-some words f)) in
      get_or-map (λ r. 2 ^ r) relations k 0 0 short
      ∙ single_is (slice_index words k) (slice_index relations k) (f.least.each k (edge-below words k f below)).here
      (omega (arith, some, one k below))) in
      record { tree = leaf Found sweep; ends = (refl, (refl, same)); few = omega arith }

  early-split : (words closure : List ℕ) (e : ℕ) → IsFit words → IsFirstEdge words IsSeveral e →
      IsChild words e closure → EndsEarly closure → EndsEarly words
  early-split words closure e f first c down =
      let r = slice_index relations e in
      let below : e < edge_count n = edge-below words e f first.below in
      let small : r < m.size = (fit-scenario words f).below e below in
      let singles = first_single m.size (slice_index words e) r small (f.least.each e below) in
      let bs : Branches = branch (2 ^ r) down.tree (later_of singles.0) in
      let edge : EdgeOf n e = edge_of n e below in
      let parts : parts_of bs ≡ singles_in m.size (slice_index words e) =
      ap (λ xs. 2 ^ r ∷ xs) (later_of-parts singles.0) ∙ sym singles.1 in
      let ruled : IsRuledSplit m class words (edge_at n edge.first edge.second) (parts_of bs) =
      subst (λ d. IsRuledSplit m class words d (parts_of bs)) (sym edge.number)
      (inr (record { members = f.over.members; first = first; are_singles = parts })) in
      let undecided : IsUndecided words =
      record { no_empty = fit-some words f; several = any-at words IsSeveral e first.below first.here } in
      let at : IsRuledAt m n class words edge.first edge.second sweep bs =
      record { no_steps = refl; order = edge.order; below = edge.below; undecided = undecided; ruled = ruled } in
      let number : IsClosure m n (slice_set words (edge_at n edge.first edge.second) (2 ^ r)) closure =
      subst (λ d. IsClosure m n (slice_set words d (2 ^ r)) closure) (sym edge.number) c.is_closure in
      record {
        tree = split edge.first edge.second sweep bs;
        ends = (at, (closure, number, inl (down.ends, later_of-later singles.0)));
        few = omega (arith, down.few, c.less, later-splits m n class (later_of singles.0) (later_of-later singles.0));
      }

  early : (fuel : ℕ) (words : List ℕ) → several_count words < fuel → IsFit words → EndsEarly words
  early zero words less f = absurd (omega arith)
  early (suc fuel) words less f = elim (first_several words (length words) (omega arith)) [
    | inl one ↦ early-leaf words f one
    | inr (e, first) ↦ (let c = child words e f (edge-below words e f first.below) first.here in
        early-split words c.0 e f first c.1 (early fuel c.0 (omega (arith, less, c.1.less)) c.1.fit))
  ]

pub straight_ends : StraightTreeEnds
straight_ends m n class words relations calculus own straight over least =
    let found = early m n class calculus own straight relations (several_count words + 1) words (omega arith)
    (record { over = over; least = least }) in
    (found.tree, found.ends, found.few)

pub straight_yes : StraightIsYes
straight_yes m n class budget words closure relations v calculus own straight net is members least few ruled =
    let over : IsClosedOver m n class closure = record {
      is_network = closure-network m n words closure net is;
      closed = is.closed;
      members = members;
    } in
    let found = straight_ends m n class closure relations calculus own straight over least in
    let nodes = preorder 0 found.0 in (
      nodes,
      verdict_one m n class budget words v (Yes relations nodes) ruled (record {
        closure = closure;
        is_closure = is;
        tree = found.0;
        nodes_are = refl;
        has = (found.1, omega (arith, found.2, few));
      }),
    )
