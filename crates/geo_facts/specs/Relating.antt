-- The RCC-8 relation of two areas by their matrix (Randell, Cui and Cohn 1992; Egenhofer and Franzosa 1991): which
-- intersections of interiors, boundaries and exteriors are empty says which base relation holds.
use Rattle.std.specs.Prelude.{◌≡◌, ℕ, ◌^◌, ◌<◌, ◌↔◌, Bool, true, false, List, [], ◌∷◌, slice_index_or, codes, if◌then◌else◌}
use Rattle.calculus_builtin.specs.Rcc8.{dc, ec, po, tpp, ntpp, tppi, ntppi, eq}
use Rattle.de9im.specs.declared.matrices.Dim.{Dim}
use Rattle.de9im.specs.declared.matrices.Dim.TheVariants.{F, D0, D1, D2}
use Rattle.de9im.specs.declared.matrices.Matrix.{Matrix}
use Rattle.de9im.specs.Patterns.{MatchesText}

-- the intersection is empty
abbrev pub is_empty : Dim → Bool
is_empty F = true
is_empty D0 = false
is_empty D1 = false
is_empty D2 = false

-- the set of the one base relation of two areas with this matrix: the first of these that applies
abbrev pub rcc8_of : Matrix → ℕ
rcc8_of m =
    if is_empty m.ii then (if is_empty m.bb then dc else ec)
    else (if is_empty m.ie then (if is_empty m.ei then eq else (if is_empty m.bb then ntpp else tpp))
    else (if is_empty m.ei then (if is_empty m.bb then ntppi else tppi) else po))

-- the pattern of each base relation, in the order of their numbers
abbrev pub pattern_of : ℕ → List ℕ
pattern_of r = slice_index_or
    (codes "F***F****" ∷ codes "F***T****" ∷ codes "T*T***T**" ∷ codes "T*F*T*T**" ∷ codes "T*F*F*T**" ∷ codes "T*T*T*F**"
    ∷ codes "T*T*F*F**" ∷ codes "T*F***F**" ∷ []) r []

-- each matrix meets the pattern of just one base relation, and that is its relation
abbrev pub OnePatternFits : Type 0
OnePatternFits = (m : Matrix) (r : ℕ) → r < 8 → MatchesText (pattern_of r) m ↔ (rcc8_of m ≡ 2 ^ r)
