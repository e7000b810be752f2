-- Allen's algebra: thirteen relations of intervals, and their compositions by the end point rule (Allen 1983).
use Rattle.std.specs.Prelude.{◌≡◌, ℕ, ◌^◌, ◌<◌, ◌≤◌, Bool, false, ◌&&◌, ◌==◌, nat_lt, List, [], ◌∷◌, map, slice_index_or, IsTrue, bit_or, ◌↔◌, codes}
use Rattle.std.specs.List.{filter, flat_map, range_with_len}
use Rattle.calculus_table.specs.Rel.{Has}
use Rattle.calculus_table.specs.Algebra.{Algebra, converse_at, entry_at}
use Rattle.calculus_table.specs.Calculus.{NamedAlgebra}

-- an interval by its end points
pub record Interval : Type 0 where
  pub low : ℕ
  pub high : ℕ

-- a rule says of two intervals whether a base relation holds
abbrev pub Rule : Type 0
Rule = Interval → Interval → Bool

-- b: x lies before y
abbrev pub before : Rule
before x y = nat_lt x.high y.low

-- m: x meets y
abbrev pub meets : Rule
meets x y = x.high == y.low

-- o: x overlaps y
abbrev pub overlaps : Rule
overlaps x y = nat_lt x.low y.low && nat_lt y.low x.high && nat_lt x.high y.high

-- s: x starts y
abbrev pub starts : Rule
starts x y = (x.low == y.low) && nat_lt x.high y.high

-- d: x lies during y
abbrev pub during : Rule
during x y = nat_lt y.low x.low && nat_lt x.high y.high

-- f: x finishes y
abbrev pub finishes : Rule
finishes x y = nat_lt y.low x.low && (x.high == y.high)

-- eq: x is y
abbrev pub equals : Rule
equals x y = (x.low == y.low) && (x.high == y.high)

-- the rule of the converse
abbrev pub converse_of : Rule → Rule
converse_of rule x y = rule y x

abbrev pub never : Rule
never x y = false

-- the thirteen base relations in order, and their rules
abbrev pub allen_names : List (List ℕ)
allen_names =
    codes "b" ∷ codes "m" ∷ codes "o" ∷ codes "fi" ∷ codes "di" ∷ codes "s" ∷ codes "eq" ∷ codes "si" ∷ codes "d" ∷ codes "f" ∷ codes "oi" ∷ codes "mi" ∷ codes "bi" ∷ []

abbrev pub allen_rules : List Rule
allen_rules =
    before ∷ meets ∷ overlaps ∷ converse_of finishes ∷ converse_of during ∷ starts ∷ equals ∷ converse_of starts ∷ during ∷ finishes ∷ converse_of overlaps ∷ converse_of meets ∷ converse_of before ∷ []

-- x r y
abbrev pub holds : ℕ → Rule
holds r = slice_index_or allen_rules r never

-- an interval begins before it ends
abbrev pub IsInterval : Interval → Type 0
IsInterval x = x.low < x.high

-- x, y and z are intervals with x r y, y s z and x t z
pub record LieBy (r s t : ℕ) (x y z : Interval) : Type 0 where
  pub x_proper : IsInterval x
  pub y_proper : IsInterval y
  pub z_proper : IsInterval z
  pub first : IsTrue (holds r x y)
  pub second : IsTrue (holds s y z)
  pub third : IsTrue (holds t x z)

-- there are intervals with end points among 0 to 5 that lie so
pub record ComposesByRule (r s t : ℕ) : Type 0 where
  pub x : Interval
  pub y : Interval
  pub z : Interval
  pub x_within : x.high ≤ 5
  pub y_within : y.high ≤ 5
  pub z_within : z.high ≤ 5
  pub lie : LieBy r s t x y z

-- the compositions are those of the end point rule; intervals on whatever end points lie in no way that they leave out;
-- and the rule of a converse is the rule with its intervals swapped
pub record FollowsRule (m : Algebra) : Type 0 where
  pub composes : (r s t : ℕ) → r < 13 → s < 13 → t < 13 → Has (entry_at m r s) t ↔ ComposesByRule r s t
  pub sound : (r s t : ℕ) (x y z : Interval) → r < 13 → s < 13 → t < 13 → LieBy r s t x y z → Has (entry_at m r s) t
  pub turns : (r : ℕ) (x y : Interval) → r < 13 → holds (converse_at m r) x y ≡ holds r y x

-- the union of the sets of the elements
abbrev pub union_of : {X : Type 0} → (X → ℕ) → List X → ℕ
union_of f [] = 0
union_of f (x ∷ xs) = bit_or (f x) (union_of f xs)

abbrev pub single : ℕ → ℕ
single r = 2 ^ r

abbrev pub bases : List ℕ
bases = range_with_len 0 13

abbrev pub interval : ℕ → ℕ → Interval
interval low high = record { low = low; high = high }

-- the fifteen intervals among six end points
abbrev pub intervals : List Interval
intervals =
    interval 0 1 ∷ interval 0 2 ∷ interval 0 3 ∷ interval 0 4 ∷ interval 0 5 ∷ interval 1 2 ∷ interval 1 3 ∷ interval 1 4 ∷ interval 1 5 ∷ interval 2 3 ∷ interval 2 4 ∷ interval 2 5 ∷ interval 3 4 ∷ interval 3 5 ∷ interval 4 5 ∷ []

abbrev pub holds_at : Interval → Interval → ℕ → Bool
holds_at x z t = holds t x z

-- the base relations t with x t z
abbrev pub relations : Interval → Interval → ℕ
relations x z = union_of single (filter (holds_at x z) bases)

-- those with x t z for some z with y s z
abbrev pub relations_past : ℕ → Interval → Interval → ℕ
relations_past s x y = union_of (relations x) (filter (holds s y) intervals)

-- those with x t z for some y and z with x r y and y s z
abbrev pub relations_from : ℕ → ℕ → Interval → ℕ
relations_from r s x = union_of (relations_past s x) (filter (holds r x) intervals)

-- r;s: those with x t z for some x, y and z with x r y and y s z
abbrev pub allen_entry : ℕ → ℕ → ℕ
allen_entry r s = union_of (relations_from r s) intervals

abbrev pub allen_row : ℕ → List ℕ
allen_row r = map (allen_entry r) bases

-- the compositions by the end point rule
unfoldable pub allen_table : List ℕ
allen_table = flat_map allen_row bases

-- the identity is eq, and the order is that of the converses, reversed
abbrev pub allen_algebra : Algebra
allen_algebra = record {
  size = 13;
  identity = 6;
  converses = 12 ∷ 11 ∷ 10 ∷ 9 ∷ 8 ∷ 7 ∷ 6 ∷ 5 ∷ 4 ∷ 3 ∷ 2 ∷ 1 ∷ 0 ∷ [];
  table = allen_table;
}

-- Allen's algebra with its names
abbrev pub allen_calculus : NamedAlgebra
allen_calculus = record { names = allen_names; algebra = allen_algebra }
