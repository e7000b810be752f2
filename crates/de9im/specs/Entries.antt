-- The nine entries of a matrix, and its text.
use Rattle.std.specs.Prelude.{ℕ, List, [], ◌∷◌, map}
use Rattle.de9im.specs.declared.matrices.Dim.{Dim}
use Rattle.de9im.specs.declared.matrices.Dim.TheVariants as dim
use Rattle.de9im.specs.declared.matrices.Matrix.{Matrix}

-- row by row
abbrev pub entries : Matrix → List Dim
entries m = m.ii ∷ m.ib ∷ m.ie ∷ m.bi ∷ m.bb ∷ m.be ∷ m.ei ∷ m.eb ∷ m.ee ∷ []

-- the bytes of F, 0, 1 and 2
abbrev pub dim_byte : Dim → ℕ
dim_byte dim.F = 70
dim_byte dim.D0 = 48
dim_byte dim.D1 = 49
dim_byte dim.D2 = 50

abbrev pub matrix_text : Matrix → List ℕ
matrix_text m = map dim_byte (entries m)
