-- The canonical text of a network.
use Rattle.std.specs.Prelude.{ℕ, List, [], ◌++◌, length, nat_lt, ◌==◌, if◌then◌else◌, slice_index, codes}
use Rattle.std.specs.Fmt.{decimal}
use Rattle.calculus_table.specs.Calculus.{NamedAlgebra}
use Rattle.network_words.specs.Edge.{edge_at}
use Rattle.network_words.specs.Network.{Network}
use Rattle.qsr_lex.specs.Printed.{text_below, word_text}
use Rattle.named_sets.specs.Written.{set_line}

-- the line of an edge: its nodes and its set
abbrev pub edge_line : NamedAlgebra → Network → ℕ → ℕ → List ℕ
edge_line c net i j =
    decimal i ++ codes " " ++ decimal j ++ codes " " ++ set_line c (slice_index net.words (edge_at net.nodes i j))

-- the line of the pair (i, j) where it is an edge
abbrev pub later_line : NamedAlgebra → Network → ℕ → ℕ → List ℕ
later_line c net i j = if nat_lt i j then edge_line c net i j else []

-- the lines of the edges from i, in edge order
abbrev pub row_text : NamedAlgebra → Network → ℕ → List ℕ
row_text c net i = text_below net.nodes (later_line c net i)

-- the line of the nodes' names, where they have names
abbrev pub names_text : Network → List ℕ
names_text net =
    if length net.names == 0 then [] else codes "names ( " ++ text_below net.nodes (word_text net.names) ++ codes ")\n"

-- the header, the names, a line for each edge, and the end line
abbrev pub network_text : NamedAlgebra → Network → List ℕ
network_text c net =
    codes "nodes " ++ decimal net.nodes ++ codes "\n" ++ names_text net ++ text_below net.nodes (row_text c net) ++ codes ".\n"
