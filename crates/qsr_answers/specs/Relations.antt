-- What `relate` writes of polygons: a line for each pair of them whose matrix meets the pattern that is asked for.
use Rattle.std.specs.Prelude.{◌≡◌, ◌⊎◌, ◌^◌, ℕ, ⊤, List, [], ◌∷◌, ◌++◌, codes, slice_get, Option, None, Some}
use Rattle.calculus_builtin.specs.Rcc8.{rcc8_names}
use Rattle.de9im.specs.declared.matrices.Matrix.{Matrix}
use Rattle.de9im.specs.Matrices.{IsMatrix}
use Rattle.de9im.specs.Entries.{entries, matrix_text}
use Rattle.de9im.specs.Patterns.{Matches}
use Rattle.de9im.specs.declared.patterns.Want.{Want}
use Rattle.geo_facts.specs.Facts.{RingPair, ring_pairs}
use Rattle.geo_facts.specs.Relating.{rcc8_of}
use Rattle.qsr_inputs.specs.Inputs.{Related}

-- the matrix meets the pattern, where one is asked for
abbrev pub IsAskedFor : Option (List Want) → Matrix → Type 0
IsAskedFor None m = ⊤
IsAskedFor (Some wants) m = Matches wants (entries m)

-- the name of the base relation of RCC-8 that a matrix says
pub record IsRelationName (m : Matrix) (name : List ℕ) : Type 0 where
  pub base : ℕ
  pub is_base : rcc8_of m ≡ 2 ^ base
  pub named : slice_get rcc8_names base ≡ Some name

-- the line of a pair: the two names, the matrix and the relation
pub record IsLineOf (pair : RingPair) (m : Matrix) (line : List ℕ) : Type 0 where
  pub relation : List ℕ
  pub is_relation : IsRelationName m relation
  pub line_is : line ≡ pair.first.name ++ codes " " ++ pair.second.name ++ codes " " ++ matrix_text m ++ codes " " ++ relation ++ codes "\n"

-- the line of a pair where its matrix is asked for, and else nothing
abbrev pub IsPartOf : Option (List Want) → RingPair → Matrix → List ℕ → Type 0
IsPartOf pattern pair m text = (IsAskedFor pattern m × IsLineOf pair m text) ⊎ ((¬ IsAskedFor pattern m) × (text ≡ []))

-- the part of the first pair, and the text of the others
pub record FirstPart (pattern : Option (List Want)) (pair : RingPair) (Rest : List ℕ → Type 0) (text : List ℕ) : Type 0 where
  pub matrix : Matrix
  pub is_matrix : IsMatrix matrix pair.first.vertices pair.second.vertices
  pub part : List ℕ
  pub is_part : IsPartOf pattern pair matrix part
  pub rest : List ℕ
  pub is_rest : Rest rest
  pub text_is : text ≡ part ++ rest

-- the text of the pairs, one after another
abbrev pub IsTextOfPairs : Option (List Want) → List RingPair → List ℕ → Type 0
IsTextOfPairs pattern [] text = text ≡ []
IsTextOfPairs pattern (pair ∷ pairs) text = FirstPart pattern pair (IsTextOfPairs pattern pairs) text

-- the text of polygons
abbrev pub IsTextOfPolygons : Related → List ℕ → Type 0
IsTextOfPolygons related text = IsTextOfPairs related.pattern (ring_pairs related.polygons) text

-- a text grew by a part of which the fact holds
pub record IsGrownBy (old new : List ℕ) (P : List ℕ → Type 0) : Type 0 where
  pub part : List ℕ
  pub is : P part
  pub grown : new ≡ old ++ part
