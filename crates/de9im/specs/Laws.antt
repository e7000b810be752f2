-- Laws of matrices, and of the texts of patterns.
use Rattle.std.specs.Prelude.{◌≡◌, ◌↔◌, ℕ, List}
use Rattle.poly_exact.specs.declared.points.Point.{Point}
use Rattle.de9im.specs.declared.matrices.Matrix.{Matrix}
use Rattle.de9im.specs.declared.patterns.Want.{Want}
use Rattle.de9im.specs.Entries.{entries}
use Rattle.de9im.specs.Matrices.{IsMatrix}
use Rattle.de9im.specs.Patterns.{IsPattern, IsWrongAt, Matches, MatchesText}

-- two rings have one matrix at most
abbrev pub MatrixIsOne : Type 0
MatrixIsOne = (vs ws : List Point) (m k : Matrix) → IsMatrix m vs ws → IsMatrix k vs ws → m ≡ k

-- a pattern asks of a matrix what its text asks
abbrev pub PatternAsksAsText : Type 0
PatternAsksAsText =
    (text : List ℕ) (ws : List Want) (m : Matrix) → IsPattern text ws → Matches ws (entries m) ↔ MatchesText text m

-- a text is wrong at one place at most
abbrev pub WrongPlaceIsOne : Type 0
WrongPlaceIsOne = (text : List ℕ) (place other : ℕ) → IsWrongAt text place → IsWrongAt text other → place ≡ other

-- the text of a pattern is wrong nowhere
abbrev pub PatternIsNotWrong : Type 0
PatternIsNotWrong = (text : List ℕ) (ws : List Want) (place : ℕ) → IsPattern text ws → IsWrongAt text place → ⊥
