-- The search of a label begins at the closure with the edge's set narrowed to the base relation.
use Rattle.std.proofs.Common.{◌≡◌, ℕ, ◌^◌, ◌<◌, List, [], ◌∷◌, ◌++◌, Option, Some, None, sym, ap, ◌∙◌, subst, arith}
use Rattle.std.specs.Prelude.{Contains, slice_index, slice_set, MatchOption, unwrap_or}
use Rattle.std.proofs.lemmas.Nat.{and_comm}
use Rattle.calculus_table.specs.Rel.{Has}
use Rattle.calculus_table.proofs.Members.{full-member}
use Rattle.calculus_table.proofs.Sets.{not_Has-empty, meet-within}
use Rattle.calculus_table.proofs.Singles.{single-within}
use Rattle.network_words.specs.Edge.{edge_count}
use Rattle.network_words.specs.Closure.{IsClosure}
use Rattle.closure_seq.proofs.Counted.{none-of_contains}
use Rattle.split_search.specs.Candidates.{GuidedLevels}
use Rattle.split_search.proofs.SetEdges.{meet_at, set_to-network}
use Rattle.minimal_net.specs.declared.labeller.Labeller.{Labeller}
use Rattle.minimal_net.specs.declared.outcome.Outcome.{Outcome}
use Rattle.minimal_net.specs.declared.outcome.Outcome.TheVariants.{Refuted}
use Rattle.minimal_net.specs.Labels.{set_to, label_of}
use Rattle.minimal_net.specs.NetworkLabels.{outcome_of}
use Rattle.minimal_net.specs.Searching.{first_level, Task, task_of, task_on, IsTask, IsIdle, IsOutcomeAt, IsAtChild}
use Rattle.minimal_net.proofs.Labels.{label_exists}
use Rattle.minimal_net.proofs.Steps.{child-first, pushed-task}

-- while no search is under way, the top is the network
pub idle-top : (s : Labeller) → IsIdle s → first_level s.path.below s.path.top ≡ s.path.top
idle-top s idle = ap (λ b. first_level b s.path.top) idle.first

-- ---- a base relation of an edge's set

module _ (t : Task) (is : IsTask t) (e base : ℕ) (has : Has (slice_index t.words e) base) where
  pub base-below : base < t.algebra.size
  base-below = full-member t.algebra base ((is.network.within e).each base has)

  pub base-small : base < 64
  base-small = omega (arith, base-below, is.calculus.table.bounded)

  pub base-full : ¬ Contains t.words 0
  base-full empty =
      let none = none-of_contains t.algebra t.nodes t.words is.calculus (record { network = is.network; closed = is.closed })
      empty e in
      not_Has-empty base (subst (λ a. Has a base) none has)

  base-part : set_to t.words e base ≡ slice_set t.words e (2 ^ base)
  base-part =
      let a = slice_index t.words e in
      let single : meet_at t.words e base ≡ 2 ^ base =
      and_comm a (2 ^ base) ∙ meet-within (2 ^ base) a (single-within base a has) in
      ap (slice_set t.words e) single

  record FirstChild (below : List (List ℕ)) (top : List ℕ) : Type 0 where
    outcome : Outcome
    is_outcome : IsOutcomeAt t e base outcome
    at : IsAtChild t outcome [] below top 0

  first_child : (below : List (List ℕ)) (top : List ℕ) → e < edge_count t.nodes → below ≡ t.words ∷ [] →
      IsClosure t.algebra t.nodes (slice_set t.words e (2 ^ base)) top → FirstChild below top
  first_child below top there levels closure =
      let l = label_exists t.algebra t.nodes t.class t.budget t.words e base is.calculus is.network is.is_class is.bases there in
      let v = l.1.verdict in
      let own = subst (λ ws. IsClosure t.algebra t.nodes ws top) (sym base-part) closure in
      record {
        outcome = outcome_of (label_of v);
        is_outcome = record { label = l.0; is_label = l.1; is = ap outcome_of (sym l.1.is) };
        at = child-first t is e base below top v (set_to-network t.algebra t.nodes t.words e base is.network there) levels own
            l.1.is_verdict;
      }

-- ---- the first child of a label's search

pub record LabelChild (s : Labeller) (e base : ℕ) (p : GuidedLevels) : Type 0 where
  pub outcome : Outcome
  pub is_outcome : IsOutcomeAt (task_of s) e base outcome
  pub at : IsAtChild (task_on p s.budget s.is_straight) outcome s.open_splits.items p.below p.top s.count

-- the base relation is one of the network's set
pub idle-has : (s : Labeller) → IsIdle s → (e base : ℕ) → Has (slice_index s.path.top e) base →
    Has (slice_index (first_level s.path.below s.path.top) e) base
idle-has s idle e base has = subst (λ ws. Has (slice_index ws e) base) (sym (idle-top s idle)) has

pub label_child : (s : Labeller) → IsTask (task_of s) → IsIdle s → (e base single : ℕ) (p : GuidedLevels) →
    e < edge_count s.path.nodes → Has (slice_index s.path.top e) base → single ≡ 2 ^ base →
    p ≡ record s.path { top = p.top; below = s.path.below ++ s.path.top ∷ [] } →
    IsClosure s.path.algebra s.path.nodes (slice_set s.path.top e single) p.top → LabelChild s e base p
label_child s is idle e base single p there has single_is level closure =
    let t = task_of s in
    let top : t.words ≡ s.path.top = idle-top s idle in
    let levels : p.below ≡ t.words ∷ [] =
    ap (λ (g : GuidedLevels). g.below) level ∙ ap (λ b. b ++ s.path.top ∷ []) idle.first ∙ ap (λ ws. ws ∷ []) (sym top) in
    let own : IsClosure t.algebra t.nodes (slice_set t.words e (2 ^ base)) p.top =
    subst (λ a. IsClosure t.algebra t.nodes (slice_set t.words e a) p.top) single_is
    (subst (λ ws. IsClosure t.algebra t.nodes (slice_set ws e single) p.top) (sym top) closure) in
    let first = first_child t is e base (idle-has s idle e base has) p.below p.top there levels own in
    record {
      outcome = first.outcome;
      is_outcome = first.is_outcome;
      at = subst (λ (u : Task). IsAtChild u first.outcome s.open_splits.items p.below p.top s.count)
          (sym (pushed-task s.path p s.budget s.is_straight level))
          (subst (λ xs. IsAtChild t first.outcome xs p.below p.top s.count) (sym idle.none)
          (subst (IsAtChild t first.outcome [] p.below p.top) (sym idle.count) first.at));
    }

-- what was found is the outcome
pub found-outcome : (o : Outcome) (found : Option Outcome) (r : Outcome) → r ≡ unwrap_or found Refuted →
    MatchOption found (o ≡ Refuted) (λ x. o ≡ x) → r ≡ o
found-outcome o (Some x) r e h = e ∙ sym h
found-outcome o None r e h = e ∙ sym h
