-- Searches by a class, and verdicts for them.
use Rattle.std.proofs.Common.{◌≡◌, ℕ, List, sym, ap, ◌∙◌, subst}
use Rattle.calculus_table.specs.Algebra.{Algebra}
use Rattle.calculus_table.specs.Calculus.{EachBase}
use Rattle.network_words.specs.Network.{Network, IsNetwork}
use Rattle.tract_classes.specs.Class.{HasBase}
use Rattle.split_search.specs.declared.walking.Walk.{Walk}
use Rattle.split_search.specs.declared.answered.Answered.{Answered}
use Rattle.split_search.specs.Ruled.{IsVerdict}
use Rattle.split_search.specs.Searches.{Task, task_of}
use Rattle.split_search.specs.Grafts.{IsAnswered}
use Rattle.split_search.specs.Walks.{task_for, IsWalk}
use Rattle.parallel_search.specs.Jobs.{IsChildNet, IsAnsweredBy, IsWalkBy}

-- a verdict on a network of the nodes of a search, by its class
pub answered-for : (m : Algebra) (n : ℕ) (class : List ℕ) (w : Walk) (a : Answered) → IsWalkBy m n class w →
    IsAnsweredBy m n class a → IsAnswered (task_of w.search) a
answered-for m n class w a by h =
    let t = task_of w.search in
    record {
      nodes_are = h.nodes_are ∙ sym by.nodes_are;
      budget = h.budget;
      ruled = subst (λ k. IsVerdict t.algebra t.nodes k h.budget a.net.words a.verdict) (sym by.class_is)
          (subst (λ k. IsVerdict t.algebra k class h.budget a.net.words a.verdict) (sym by.nodes_are)
          (subst (λ (k : Algebra). IsVerdict k n class h.budget a.net.words a.verdict) (sym by.algebra_is) h.ruled));
    }

-- the search goes on
pub walk-kept : (m : Algebra) (n : ℕ) (class : List ℕ) (old new : Walk) → IsWalkBy m n class old → IsWalk new →
    task_of new.search ≡ task_of old.search → IsWalkBy m n class new
walk-kept m n class old new by is same = record {
  walk = is;
  algebra_is = ap (λ (t : Task). t.algebra) same ∙ by.algebra_is;
  nodes_are = ap (λ (t : Task). t.nodes) same ∙ by.nodes_are;
  class_is = ap (λ (t : Task). t.class) same ∙ by.class_is;
}

-- a search that began with the network of a child
pub walk-begun : (m : Algebra) (n : ℕ) (net : Network) (by class : List ℕ) (budget : ℕ) (w : Walk) → net.nodes ≡ n →
    by ≡ class →
    IsWalk w → task_of w.search ≡ task_for m net by budget → IsWalkBy m n class w
walk-begun m n net by class budget w nodes same is task = record {
  walk = is;
  algebra_is = ap (λ (t : Task). t.algebra) task;
  nodes_are = ap (λ (t : Task). t.nodes) task ∙ nodes;
  class_is = ap (λ (t : Task). t.class) task ∙ same;
}

-- the class of a search has each base relation
pub walk-bases : (m : Algebra) (n : ℕ) (class : List ℕ) (w : Walk) → IsWalkBy m n class w → EachBase m (HasBase class)
walk-bases m n class w by =
    subst (λ k. EachBase m (HasBase k)) by.class_is
    (subst (λ (k : Algebra). EachBase k (HasBase (task_of w.search).class)) by.algebra_is by.walk.task.bases)

-- the verdict on the network of a search
pub answered-by : (m : Algebra) (n : ℕ) (class : List ℕ) (w : Walk) (a : Answered) → IsWalkBy m n class w →
    IsAnswered (task_of w.search) a → IsAnsweredBy m n class a
answered-by m n class w a by h =
    let t = task_of w.search in
    record {
      nodes_are = h.nodes_are ∙ by.nodes_are;
      budget = h.budget;
      ruled = subst (λ k. IsVerdict m n k h.budget a.net.words a.verdict) by.class_is
          (subst (λ k. IsVerdict m k t.class h.budget a.net.words a.verdict) by.nodes_are
          (subst (λ (k : Algebra). IsVerdict k t.nodes t.class h.budget a.net.words a.verdict) by.algebra_is h.ruled));
    }

-- the search with another budget
pub walk-within : (m : Algebra) (n : ℕ) (class : List ℕ) (old new : Walk) (budget : ℕ) → IsWalkBy m n class old →
    IsWalk new →
    task_of new.search ≡ record (task_of old.search) { budget = budget } → IsWalkBy m n class new
walk-within m n class old new budget by is same = record {
  walk = is;
  algebra_is = ap (λ (t : Task). t.algebra) same ∙ by.algebra_is;
  nodes_are = ap (λ (t : Task). t.nodes) same ∙ by.nodes_are;
  class_is = ap (λ (t : Task). t.class) same ∙ by.class_is;
}

-- the network of a child, by the class of the search that comes to it later
pub child-stage : (m : Algebra) (n : ℕ) (class : List ℕ) (w : Walk) (net : Network) (by : List ℕ) →
    IsWalkBy m n class w →
    IsNetwork m net.nodes net.words → net.nodes ≡ n → by ≡ w.search.path.class →
    IsChildNet m n net × (by ≡ class) × EachBase m (HasBase by)
child-stage m n class w net by h network nodes same = (
  record { network = network; nodes_are = nodes },
  same ∙ h.class_is,
  subst (λ k. EachBase m (HasBase k)) (sym (same ∙ h.class_is)) (walk-bases m n class w h),
)
