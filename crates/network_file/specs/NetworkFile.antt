-- Network files: what each says, and the one fault with which any other text is refused. The lines are read in order, and the
-- first faulty one decides; of a line the form is tested first.
use Rattle.std.specs.Prelude.{◌≡◌, ℕ, List, [], ◌∷◌, ◌++◌, Bool, true, false, ◌||◌, ◌==◌, nat_lt, Option, Some, None, is_some, Result, Ok, Err, codes, if◌then◌else◌}
use Rattle.std.specs.Option.{ok_or}
use Rattle.calculus_table.specs.Names.{place_of}
use Rattle.calculus_table.specs.Calculus.{NamedAlgebra}
use Rattle.calculus_table.specs.Composition.{full_of}
use Rattle.network_words.specs.Edge.{IsProperPair}
use Rattle.network_words.specs.Network.{Network, narrowed_at}
use Rattle.network_words.specs.Facts.{IsNetworkOfFacts}
use Rattle.network_words.specs.declared.TheConstants.{MAX_NODES}
use Rattle.network_words.specs.declared.fact.Fact.{Fact}
use Rattle.qsr_lex.specs.Lexemes.{Lexeme}
use Rattle.qsr_lex.specs.TokenLines.{TokenLine}
use Rattle.qsr_lex.specs.LineTokens.{is_end_line}
use Rattle.line_files.specs.FileText.{FileText, file_text, line_of, extra_line}
use Rattle.line_files.specs.Steps.{◌>>=◌, FailsExcept}
use Rattle.line_files.specs.declared.lines.TextEnd.{TextEnd}
use Rattle.line_files.specs.declared.lines.TextEnd.TheVariants.{Whole, BadLine}
use Rattle.network_file.specs.LineForms.{NodeToken, Number, Name, nodes_form, names_form, FactTokens, fact_form, is_named}
use Rattle.network_file.specs.declared.fault.FileFault.{FileFault}
use Rattle.network_file.specs.declared.fault.FileFault.TheVariants.{Nodes, NoNode, SelfEdge, NameTwice, Syntax, Unknown, NoEnd, Memory}

-- what a network file says: the number of nodes, their names, none or one for each, and the facts in the order of their lines
pub record Contents : Type 0 where
  pub nodes : ℕ
  pub names : List (List ℕ)
  pub facts : List Fact

-- a fault other than out of memory is this step's
abbrev pub FailsWith : {A : Type 0} → Result A FileFault → FileFault → Type 0
FailsWith step fault = FailsExcept Memory step fault

-- the fault where the lines that can be read end before the end line
abbrev pub end_fault : TextEnd → FileFault
end_fault (BadLine line) = Syntax line
end_fault (Whole lines) = NoEnd lines

-- ---- the first line

-- from 1 to MAX_NODES nodes
abbrev pub nodes_within : ℕ → ℕ → Result ℕ FileFault
nodes_within line n = if n == 0 || nat_lt MAX_NODES n then Err (Nodes line) else Ok n

-- the number of nodes, and the lines after
abbrev pub nodes_line : TextEnd → List TokenLine → Result (ℕ × List TokenLine) FileFault
nodes_line end [] = Err (end_fault end)
nodes_line end (l ∷ ls) = do
  said ← ok_or (nodes_form l.tokens) (Syntax l.number)
  nodes ← nodes_within l.number said
  Ok (nodes, ls)

-- ---- the line of names

-- a name stands twice
abbrev pub has_twice : List (List ℕ) → Bool
has_twice [] = false
has_twice (x ∷ xs) = is_some (place_of x xs) || has_twice xs

-- names that differ
abbrev pub names_once : ℕ → List (List ℕ) → Result (List (List ℕ)) FileFault
names_once line names = if has_twice names then Err (NameTwice line) else Ok names

-- the names of a line of names, of which there must be n, and the lines after; where there is no such line all are left
abbrev pub names_here : ℕ → List TokenLine → Option (TokenLine × List TokenLine) → Result (List (List ℕ) × List TokenLine) FileFault
names_here n lines None = Ok ([], lines)
names_here n lines (Some found) = do
  said ← ok_or (names_form n found.0.tokens) (Syntax found.0.number)
  names ← names_once found.0.number said
  Ok (names, found.1)

-- the names of the nodes, where the next line has names, and the lines after
abbrev pub names_line : ℕ → List TokenLine → Result (List (List ℕ) × List TokenLine) FileFault
names_line n lines = names_here n lines (line_of (codes "names") lines)

-- ---- the lines of facts

-- the node that a token stands for: a number below n, or the name of a node
abbrev pub node_of : ℕ → List (List ℕ) → ℕ → NodeToken → Result ℕ FileFault
node_of n names line (Number k) = if nat_lt k n then Ok k else Err (NoNode line)
node_of n names line (Name name) = ok_or (place_of name names) (Unknown line)

-- two nodes that differ
abbrev pub if_distinct : ℕ → ℕ → ℕ → Result ℕ FileFault
if_distinct line i j = if i == j then Err (SelfEdge line) else Ok j

-- the fact of two nodes and a set
abbrev pub fact_from : ℕ → ℕ → ℕ → Fact
fact_from i j rel = record { i = i; j = j; rel = rel }

-- the fact of a line: the form, the nodes from left to right, that they differ, and the base relations
abbrev pub fact_of_set : ℕ → ℕ → Option ℕ → ℕ → Result Fact FileFault
fact_of_set line i set j = do
  rel ← ok_or set (Unknown line)
  Ok (fact_from i j rel)

abbrev pub fact_of_second : ℕ → ℕ → Option ℕ → ℕ → Result Fact FileFault
fact_of_second line i set second = do
  j ← if_distinct line i second
  fact_of_set line i set j

abbrev pub fact_of_first : ℕ → List (List ℕ) → ℕ → FactTokens → ℕ → Result Fact FileFault
fact_of_first n names line form i = do
  second ← node_of n names line form.second
  fact_of_second line i form.set second

abbrev pub fact_of_form : ℕ → List (List ℕ) → ℕ → FactTokens → Result Fact FileFault
fact_of_form n names line form = do
  i ← node_of n names line form.first
  fact_of_first n names line form i

abbrev pub fact_line : List (List ℕ) → ℕ → List (List ℕ) → ℕ → List Lexeme → Result Fact FileFault
fact_line bases n names line tokens = do
  form ← ok_or (fact_form bases (is_named names) tokens) (Syntax line)
  fact_of_form n names line form

-- the facts, if no line stands after the end line
abbrev pub facts_before : List Fact → Option ℕ → Result (List Fact) FileFault
facts_before facts None = Ok facts
facts_before facts (Some line) = Err (Syntax line)

abbrev pub facts_at_end : List Fact → TextEnd → List TokenLine → Result (List Fact) FileFault
facts_at_end facts end lines = facts_before facts (extra_line lines end)

-- the facts of the lines up to the end line, after facts of earlier lines
abbrev pub fact_lines : List (List ℕ) → TextEnd → ℕ → List (List ℕ) → List Fact → List TokenLine → Result (List Fact) FileFault
fact_lines bases end n names facts [] = Err (end_fault end)
fact_lines bases end n names facts (l ∷ ls) =
    if is_end_line l.tokens then facts_at_end facts end ls
    else (fact_line bases n names l.number l.tokens >>= λ fact. fact_lines bases end n names (facts ++ fact ∷ []) ls)

-- ---- the whole text

abbrev pub contents_from : ℕ → List (List ℕ) → List Fact → Contents
contents_from n names facts = record { nodes = n; names = names; facts = facts }

-- what the lines say after those of the nodes and their names
abbrev pub after_names : List (List ℕ) → TextEnd → ℕ → List (List ℕ) × List TokenLine → Result Contents FileFault
after_names bases end n named = do
  facts ← fact_lines bases end n named.0 [] named.1
  Ok (contents_from n named.0 facts)

abbrev pub after_nodes : List (List ℕ) → TextEnd → ℕ × List TokenLine → Result Contents FileFault
after_nodes bases end first = do
  named ← names_line first.0 first.1
  after_names bases end first.0 named

-- what the lines say
abbrev pub read_lines : List (List ℕ) → FileText → Result Contents FileFault
read_lines bases text = do
  first ← nodes_line text.end text.lines
  after_nodes bases text.end first

-- what a text says over a calculus
abbrev pub read_network : NamedAlgebra → List ℕ → Result Contents FileFault
read_network c bytes = read_lines c.names (file_text bytes)

-- the network of what was said
pub record IsNetworkOfContents (c : NamedAlgebra) (said : Contents) (net : Network) : Type 0 where
  pub nodes : net.nodes ≡ said.nodes
  pub full : net.full ≡ full_of c.algebra
  pub names : net.names ≡ said.names
  pub words : IsNetworkOfFacts c.algebra said.nodes said.facts net.words

-- a network file, and its network
pub record IsFileOf (c : NamedAlgebra) (bytes : List ℕ) (net : Network) : Type 0 where
  pub said : Contents
  pub reads : read_network c bytes ≡ Ok said
  pub network : IsNetworkOfContents c said net

-- ---- after a part of the lines

-- after the lines of facts: the facts are read, and the new sets are the network of them
pub record ReadsFacts (c : NamedAlgebra) (old new : Network) (text : FileText) : Type 0 where
  pub facts : List Fact
  pub reads : fact_lines c.names text.end old.nodes old.names [] text.lines ≡ Ok facts
  pub words : IsNetworkOfFacts c.algebra old.nodes facts new.words
  pub kept : new ≡ record old { words = new.words }

-- after the line of a fact: the fact is read, and narrows the network
pub record ReadsLine (c : NamedAlgebra) (old new : Network) (line : ℕ) (tokens : List Lexeme) : Type 0 where
  pub fact : Fact
  pub no_end : is_end_line tokens ≡ false
  pub reads : fact_line c.names old.nodes old.names line tokens ≡ Ok fact
  pub proper : IsProperPair old.nodes fact.i fact.j
  pub narrowed : new ≡ record old { words = narrowed_at c.algebra old.nodes old.words fact.i fact.j fact.rel }

-- after the end line: nothing has changed
pub record MeetsEnd (old new : Network) (tokens : List Lexeme) : Type 0 where
  pub is_end : is_end_line tokens ≡ true
  pub kept : new ≡ old
