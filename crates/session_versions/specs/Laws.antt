-- What holds of the closures of versions, in every calculus.
use Rattle.std.specs.Prelude.{◌≡◌, ℕ, List, ◌++◌, All}
use Rattle.calculus_table.specs.Algebra.{Algebra}
use Rattle.network_words.specs.declared.fact.Fact.{Fact}
use Rattle.network_words.specs.Edge.{IsProperPair}
use Rattle.network_words.specs.Facts.{narrowed_by}
use Rattle.network_words.specs.Closure.{IsClosure}
use Rattle.session_versions.specs.Versions.{IsClosureOfFacts}

-- a version may start from the words of the one before where nothing was withdrawn: their closure with the new facts is the
-- closure of all facts
abbrev pub ClosureGoesOn : Type 0
ClosureGoesOn =
    (m : Algebra) (n : ℕ) (facts more : List Fact) (words closure : List ℕ) → All (λ fact. IsProperPair n fact.i fact.j) more →
    IsClosureOfFacts m n facts words → IsClosure m n (narrowed_by m n words more) closure →
    IsClosureOfFacts m n (facts ++ more) closure

-- facts have one closure at most
abbrev pub FactsHaveOneClosure : Type 0
FactsHaveOneClosure =
    (m : Algebra) (n : ℕ) (facts : List Fact) (c d : List ℕ) → IsClosureOfFacts m n facts c → IsClosureOfFacts m n facts d → c ≡ d
