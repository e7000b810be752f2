-- Scenarios of Allen's algebra and their intervals: what holds of every one.
use Rattle.std.specs.Prelude.{◌≡◌, ℕ, ◌<◌, true, List, length}
use Rattle.calculus_builtin.specs.Allen.{allen_algebra}
use Rattle.network_words.specs.Edge.{edge_count}
use Rattle.network_words.specs.Scenario.{IsScenario}
use Rattle.allen_real.specs.declared.intervals.Interval.{Interval}
use Rattle.allen_real.specs.Realisation.{IsAllenScenario, Realise, RealiseByRanks, AreRanks, is_end_point}

-- a scenario of any network is one of the network that leaves all open
abbrev pub ScenarioIsOfOpen : Type 0
ScenarioIsOfOpen =
    (n : ℕ) (words relations : List ℕ) → IsScenario allen_algebra n words relations → IsAllenScenario n relations

-- each scenario has intervals that realise it, by ranks
abbrev pub ScenarioIsRealised : Type 0
ScenarioIsRealised =
    (n : ℕ) (relations : List ℕ) → IsAllenScenario n relations → (xs : List Interval) × RealiseByRanks n relations xs

-- and one list of them at most
abbrev pub RanksAreOne : Type 0
RanksAreOne =
    (n : ℕ) (relations : List ℕ) (xs ys : List Interval) → RealiseByRanks n relations xs →
    RealiseByRanks n relations ys → xs ≡ ys

-- what intervals realise is a scenario
abbrev pub RealisedIsScenario : Type 0
RealisedIsScenario =
    (n : ℕ) (relations : List ℕ) (xs : List Interval) → length relations ≡ edge_count n → Realise n relations xs →
    IsAllenScenario n relations

-- each number below a rank is a rank
abbrev pub RanksLeaveNoGap : Type 0
RanksLeaveNoGap =
    (xs : List Interval) (p q : ℕ) → AreRanks xs → is_end_point xs p ≡ true → q < p → is_end_point xs q ≡ true
