-- A list of base relations is a scenario, or it has one fault, and never both.
use Rattle.std.specs.Prelude.{◌≡◌, ℕ, ◌⊎◌, List}
use Rattle.calculus_table.specs.Algebra.{Algebra}
use Rattle.network_words.specs.Scenario.{IsScenario}
use Rattle.scenario.specs.ScenarioFault.{IsFaultOf}
use Rattle.scenario.specs.declared.checking.At.{At}

-- a list has one fault at most
abbrev pub ScenarioFaultIsOne : Type 0
ScenarioFaultIsOne =
    (m : Algebra) (n : ℕ) (words relations : List ℕ) (f g : At) → IsFaultOf m n words relations f →
    IsFaultOf m n words relations g → f ≡ g

-- a scenario has none
abbrev pub ScenarioHasNoFault : Type 0
ScenarioHasNoFault =
    (m : Algebra) (n : ℕ) (words relations : List ℕ) (f : At) → IsScenario m n words relations → ¬ IsFaultOf m n words relations f

-- a fault of a list
pub record Fault (m : Algebra) (n : ℕ) (words relations : List ℕ) : Type 0 where
  pub fault : At
  pub is_fault : IsFaultOf m n words relations fault

-- and each list that is no scenario has one
abbrev pub ScenarioOrFault : Type 0
ScenarioOrFault = (m : Algebra) (n : ℕ) (words relations : List ℕ) →
    IsScenario m n words relations ⊎ Fault m n words relations
