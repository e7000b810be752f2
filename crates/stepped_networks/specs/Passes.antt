-- Ruled steps while they are made: what was gone through so far.
use Rattle.std.specs.Prelude.{◌≡◌, ℕ, Bool, true, false, List, ◌++◌, Contains}
use Rattle.calculus_table.specs.Algebra.{Algebra}
use Rattle.split_trees.specs.declared.tree.Step.{Step}
use Rattle.split_trees.specs.Refutes.{after_steps}
use Rattle.stepped_networks.specs.RuledSteps.{made_among, AreRuledSteps, NoneEmptyBefore, AreCutSteps}

-- these steps were made of those that were gone through, and led to these sets
pub record AreMade (m : Algebra) (n : ℕ) (start : List ℕ) (gone made : List Step) (words : List ℕ) : Type 0 where
  pub made_are : made ≡ made_among m n start gone
  pub words_are : words ≡ after_steps m n start made

-- so they were, and where they are to end at an empty set there is none
pub record AreGoing (m : Algebra) (n : ℕ) (cut : Bool) (start : List ℕ) (gone made : List Step) (words : List ℕ) : Type 0 where
  pub are_made : AreMade m n start gone made words
  pub before : cut ≡ true → NoneEmptyBefore m n start made
  pub none : cut ≡ true → ¬ Contains words 0

-- so they were, and the last one left an empty set
pub record AreEnded (m : Algebra) (n : ℕ) (start : List ℕ) (gone made : List Step) (words : List ℕ) : Type 0 where
  pub are_made : AreMade m n start gone made words
  pub before : NoneEmptyBefore m n start made
  pub empty : Contains words 0

-- whatever was gone through, these were too
abbrev pub GoesThrough : Algebra → ℕ → Bool → List Step → List Step → List ℕ → List Step → List ℕ → Type 0
GoesThrough m n cut steps made words made' words' =
    (start : List ℕ) (gone : List Step) → AreGoing m n cut start gone made words → AreGoing m n cut start (gone ++ steps) made' words'

-- a part of them was, to the first empty set
pub record EndedAmong (m : Algebra) (n : ℕ) (steps : List Step) (start : List ℕ) (gone made : List Step) (words : List ℕ) : Type 0 where
  pub first : List Step
  pub left : List Step
  pub steps_are : steps ≡ first ++ left
  pub ended : AreEnded m n start (gone ++ first) made words

abbrev pub EndsAmong : Algebra → ℕ → Bool → List Step → List Step → List ℕ → List Step → List ℕ → Type 0
EndsAmong m n cut steps made words made' words' =
    (start : List ℕ) (gone : List Step) → AreGoing m n cut start gone made words → EndedAmong m n steps start gone made' words'

-- the ruled steps, or those up to the first empty set
abbrev pub AreStepsOf : Bool → Algebra → ℕ → List ℕ → List Step → Type 0
AreStepsOf true m n words steps = AreCutSteps m n words steps
AreStepsOf false m n words steps = AreRuledSteps m n words steps
