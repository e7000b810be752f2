-- The point calculus: a point lies before, at or after another (Vilain and Kautz 1986).
use Rattle.std.specs.Prelude.{ℕ, ◌^◌, List, [], ◌∷◌, ◌++◌, codes}
use Rattle.calculus_table.specs.Algebra.{Algebra}
use Rattle.calculus_table.specs.Calculus.{NamedAlgebra}
use Rattle.calculus_builtin.specs.Sets.{◌∪◌}

-- the base relations in order
abbrev pub point_names : List (List ℕ)
point_names = codes "<" ∷ codes "=" ∷ codes ">" ∷ []

-- the sets of one base relation, and that of all three
abbrev pub less : ℕ
less = 2 ^ 0

abbrev pub same : ℕ
same = 2 ^ 1

abbrev pub greater : ℕ
greater = 2 ^ 2

abbrev pub any : ℕ
any = less ∪ same ∪ greater

-- the compositions of each base relation with <, = and >
abbrev pub less_row : List ℕ
less_row = less ∷ less ∷ any ∷ []

abbrev pub same_row : List ℕ
same_row = less ∷ same ∷ greater ∷ []

abbrev pub greater_row : List ℕ
greater_row = any ∷ greater ∷ greater ∷ []

unfoldable pub point_table : List ℕ
point_table = less_row ++ same_row ++ greater_row

-- the identity is =, and < and > are each other's converses
abbrev pub point_algebra : Algebra
point_algebra = record { size = 3; identity = 1; converses = 2 ∷ 1 ∷ 0 ∷ []; table = point_table }

-- the point calculus with its names
abbrev pub point_calculus : NamedAlgebra
point_calculus = record { names = point_names; algebra = point_algebra }
