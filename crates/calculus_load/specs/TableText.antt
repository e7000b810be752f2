-- The canonical text of a table.
use Rattle.std.specs.Prelude.{ℕ, List, ◌++◌, codes}
use Rattle.calculus_table.specs.Algebra.{converse_at, entry_at}
use Rattle.calculus_table.specs.Calculus.{NamedAlgebra}
use Rattle.named_sets.specs.Named.{name_of}
use Rattle.qsr_lex.specs.Printed.{text_below, word_text}
use Rattle.named_sets.specs.Written.{set_line}

-- the name of the base relation r
abbrev pub base_name : NamedAlgebra → ℕ → List ℕ
base_name c r = name_of c.names r

-- the names of all base relations
abbrev pub names_text : NamedAlgebra → List ℕ
names_text c = codes "names ( " ++ text_below c.algebra.size (word_text c.names) ++ codes ")\n"

-- the identity
abbrev pub identity_text : NamedAlgebra → List ℕ
identity_text c = codes "identity " ++ base_name c c.algebra.identity ++ codes "\n"

-- the converse of r
abbrev pub converse_text : NamedAlgebra → ℕ → List ℕ
converse_text c r = base_name c r ++ codes " :: " ++ base_name c (converse_at c.algebra r) ++ codes "\n"

-- the pair of r and s
abbrev pub pair_text : NamedAlgebra → ℕ → ℕ → List ℕ
pair_text c r s = base_name c r ++ codes " : " ++ base_name c s ++ codes " :: "

-- the composition r;s
abbrev pub entry_text : NamedAlgebra → ℕ → ℕ → List ℕ
entry_text c r s = pair_text c r s ++ set_line c (entry_at c.algebra r s)

-- the compositions of r with each base relation
abbrev pub row_text : NamedAlgebra → ℕ → List ℕ
row_text c r = text_below c.algebra.size (entry_text c r)

-- the names, the identity, the converses, the pairs in lexicographic order, and the end line
abbrev pub table_text : NamedAlgebra → List ℕ
table_text c =
    names_text c ++ identity_text c ++ text_below c.algebra.size (converse_text c) ++ text_below c.algebra.size (row_text c) ++ codes ".\n"
