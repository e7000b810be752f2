-- The ruled steps of a network: the steps of narrowing that make a set less, one after another in a stated order, until none does.
use Rattle.std.specs.Prelude.{◌≡◌, ◌⊎◌, ℕ, zero, suc, ◌==◌, ◌||◌, not, nat_lt, Bool, if◌then◌else◌, List, [], ◌∷◌, ◌++◌, slice_index, Contains}
use Rattle.calculus_table.specs.Algebra.{Algebra}
use Rattle.network_words.specs.Edge.{edge_between}
use Rattle.split_trees.specs.declared.tree.Step.{Step}
use Rattle.split_trees.specs.Refutes.{after_step, after_steps}

-- ---- the steps that are looked at

-- the steps of each number below n, one after another
abbrev pub steps_below : (ℕ → List Step) → ℕ → List Step
steps_below f zero = []
steps_below f (suc n) = steps_below f n ++ f n

-- the step for the set of (i, k) along j, where j is a third node
abbrev pub steps_along : ℕ → ℕ → ℕ → List Step
steps_along i k j = if j == i || j == k then [] else record { i = i; j = j; k = k } ∷ []

-- those of an edge from i to k, by j
abbrev pub steps_of_edge : ℕ → ℕ → ℕ → List Step
steps_of_edge n i k = if nat_lt i k then steps_below (steps_along i k) n else []

-- those of the edges from i, by k
abbrev pub steps_from : ℕ → ℕ → List Step
steps_from n i = steps_below (steps_of_edge n i) n

-- those of all edges of n nodes, in edge order
unfoldable pub all_steps : ℕ → List Step
all_steps n = steps_below (steps_from n) n

-- ---- the steps that are made

-- the step makes the set of (i, k) less
abbrev pub narrows : Algebra → ℕ → List ℕ → Step → Bool
narrows m n words step =
    not (slice_index (after_step m n words step) (edge_between n step.i step.k) == slice_index words (edge_between n step.i step.k))

-- the steps among these that make a set less, each of which is made before the next is looked at
abbrev pub made_among : Algebra → ℕ → List ℕ → List Step → List Step
made_among m n words [] = []
made_among m n words (step ∷ steps) =
    if narrows m n words step then step ∷ made_among m n (after_step m n words step) steps else made_among m n words steps

-- all steps, so many times
abbrev pub passes_of : ℕ → ℕ → List Step
passes_of n count = steps_below (λ _. all_steps n) count

-- all steps are gone through again and again, until one whole pass makes none
pub record AreRuledSteps (m : Algebra) (n : ℕ) (words : List ℕ) (steps : List Step) : Type 0 where
  pub passes : ℕ
  pub steps_are : steps ≡ made_among m n words (passes_of n passes)
  pub ended : made_among m n (after_steps m n words steps) (all_steps n) ≡ []

-- ---- up to the first empty set

-- no set is empty before one of the steps is made
abbrev pub NoneEmptyBefore : Algebra → ℕ → List ℕ → List Step → Type 0
NoneEmptyBefore m n words [] = Unit {0}
NoneEmptyBefore m n words (step ∷ steps) = (¬ Contains words 0) × NoneEmptyBefore m n (after_step m n words step) steps

-- the ruled steps up to the first that leaves an empty set: none where there is one before
pub record AreCutSteps (m : Algebra) (n : ℕ) (words : List ℕ) (steps : List Step) : Type 0 where
  pub whole : List Step
  pub rest : List Step
  pub ruled : AreRuledSteps m n words whole
  pub whole_is : whole ≡ steps ++ rest
  pub before : NoneEmptyBefore m n words steps
  pub ended : Contains (after_steps m n words steps) 0 ⊎ (rest ≡ [])
