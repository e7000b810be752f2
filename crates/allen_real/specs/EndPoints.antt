-- End points of the intervals of nodes, and how the base relation of two nodes orders them (Allen 1983).
use Rattle.std.specs.Prelude.{◌≡◌, ℕ, ◌+◌, ◌*◌, ◌⊎◌, Bool, true, false, List, nat_lt, if◌then◌else◌}
use Rattle.std.specs.Prelude.{slice_index, slice_index_or}
use Rattle.calculus_table.specs.Algebra.{converse_at}
use Rattle.calculus_builtin.specs.Allen
use Rattle.network_words.specs.Edge.{edge_at}
use Rattle.allen_real.specs.declared.intervals.Interval.{Interval}
use Rattle.allen_real.specs.declared.end_points.EndPoint.{EndPoint}
use Rattle.allen_real.specs.declared.end_points.TheConstants.{EXAMPLES}

abbrev pub no_interval : Interval
no_interval = record { lo = 0; hi = 0 }

-- an interval as Allen's relations see it
abbrev pub extent : Interval → Allen.Interval
extent x = Allen.interval x.lo x.hi

-- where it begins, or where it ends
abbrev pub end_of : Allen.Interval → Bool → ℕ
end_of x is_end = if is_end then x.high else x.low

-- two intervals of which the first has the base relation r to the second
abbrev pub example : ℕ → Interval × Interval
example r = slice_index_or EXAMPLES r (no_interval, no_interval)

-- whether this end point of the first lies below that of the second
abbrev pub below_in_example : ℕ → Bool → Bool → Bool
below_in_example r p q = nat_lt (end_of (extent (example r).0) p) (end_of (extent (example r).1) q)

-- the base relation of node i to node j
abbrev pub base_between : ℕ → List ℕ → ℕ → ℕ → ℕ
base_between n relations i j =
    if nat_lt i j
    then slice_index relations (edge_at n i j)
    else if nat_lt j i
    then converse_at Allen.allen_algebra (slice_index relations (edge_at n j i))
    else Allen.allen_algebra.identity

-- where the interval of node i begins, or ends
abbrev pub end_point : ℕ → Bool → EndPoint
end_point i is_end = record { node = i; is_end = is_end }

-- whether p lies below q
abbrev pub is_below : ℕ → List ℕ → EndPoint → EndPoint → Bool
is_below n relations p q = below_in_example (base_between n relations p.node q.node) p.is_end q.is_end

-- one of two end points lies below the other
abbrev pub Differ : ℕ → List ℕ → EndPoint → EndPoint → Type 0
Differ n relations p q = (is_below n relations p q ≡ true) ⊎ (is_below n relations q p ≡ true)

-- neither does
pub record AreEqual (n : ℕ) (relations : List ℕ) (p q : EndPoint) : Type 0 where
  pub not_below : is_below n relations p q ≡ false
  pub not_above : is_below n relations q p ≡ false

-- end points are numbered node by node, where an interval begins before where it ends
abbrev pub number_of : EndPoint → ℕ
number_of p = if p.is_end then 2 * p.node + 1 else 2 * p.node
