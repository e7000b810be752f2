-- Classes of equal end points, each by one of its members.
use Rattle.std.specs.Prelude.{ℕ, ◌<◌, ◌≤◌, true, false, List, length, All}
use Rattle.std.specs.List.{Any, AllPairs, count_by}
use Rattle.allen_real.specs.declared.intervals.Interval.{Interval}
use Rattle.allen_real.specs.declared.end_points.EndPoint.{EndPoint}
use Rattle.allen_real.specs.EndPoints.{end_point, is_below, Differ, AreEqual, number_of}

-- some member is equal to q
abbrev pub HasClass : ℕ → List ℕ → List EndPoint → EndPoint → Type 0
HasClass n relations members q = Any (λ p. AreEqual n relations p q) members

-- none is
abbrev pub IsNew : ℕ → List ℕ → List EndPoint → EndPoint → Type 0
IsNew n relations members q = All (λ p. Differ n relations p q) members

-- one member of each class of the end points that are numbered below `count`
pub record AreMembers (n : ℕ) (relations : List ℕ) (count : ℕ) (members : List EndPoint) : Type 0 where
  pub of_nodes : All (λ p. p.node < n) members
  pub differ : AllPairs (Differ n relations) members
  pub each : (q : EndPoint) → number_of q < count → HasClass n relations members q
  pub few : length members ≤ count

-- how many classes lie below q
abbrev pub classes_below : ℕ → List ℕ → List EndPoint → EndPoint → ℕ
classes_below n relations members q = count_by (λ p. is_below n relations p q) members

-- the interval of node i, by the ranks of its end points
abbrev pub ranked : ℕ → List ℕ → List EndPoint → ℕ → Interval
ranked n relations members i = record {
  lo = classes_below n relations members (end_point i false);
  hi = classes_below n relations members (end_point i true);
}
