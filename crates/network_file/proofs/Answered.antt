-- Each text is the file of a network, or it has a fault.
use Rattle.std.proofs.Common.{◌≡◌, ◌≢◌, ℕ, ◌<◌, ◌≤◌, ◌⊎◌, inl, inr, Bool, true, false, ◌==◌, nat_lt, List, [], ◌∷◌, ◌++◌, length, Option, Some, None, Result, Ok, Err, refl, arith}
use Rattle.std.specs.Prelude.{IfSome, MatchResult, codes, if◌then◌else◌}
use Rattle.std.specs.Option.{ok_or}
use Rattle.std.proofs.lemmas.Option.{IfSome_then}
use Rattle.std.proofs.lemmas.Bool.{ltb-true, eqb-true, eqb-false}
use Rattle.calculus_table.specs.Algebra.{Algebra}
use Rattle.calculus_table.specs.Composition.{full_of}
use Rattle.calculus_table.specs.Calculus.{NamedAlgebra}
use Rattle.calculus_table.specs.Names.{place_of}
use Rattle.calculus_table.proofs.PlacesOfNames.{place_of-below}
use Rattle.qsr_lex.specs.Lexemes.{Lexeme}
use Rattle.qsr_lex.specs.TokenLines.{TokenLine}
use Rattle.qsr_lex.specs.LineTokens.{names_at, at_end, is_end_line}
use Rattle.qsr_lex.proofs.Found.{Any, IfSome-any, IfSome-and_then, IfSome-at_end}
use Rattle.line_files.specs.FileText.{FileText, file_text, line_of, extra_line}
use Rattle.line_files.specs.Steps.{◌>>=◌}
use Rattle.line_files.specs.declared.lines.TextEnd.{TextEnd}
use Rattle.line_files.specs.declared.lines.TextEnd.TheVariants.{Whole, BadLine}
use Rattle.line_files.proofs.Steps.{MatchResult-then, MatchResult-ok_or, MatchResult-cond}
use Rattle.network_words.specs.Edge.{IsProperPair}
use Rattle.network_words.specs.Network.{narrowed_at}
use Rattle.network_words.specs.Facts.{IsNetworkOfFacts}
use Rattle.network_words.specs.declared.fact.Fact.{Fact}
use Rattle.network_words.proofs.NetsOfFacts.{IsNetworkOfFacts-none, IsNetworkOfFacts-push}
use Rattle.network_file.specs.LineForms.{NodeToken, Number, Name, nodes_form, if_count, names_form, FactTokens, fact_form, is_named}
use Rattle.network_file.specs.NetworkFile.{Contents, contents_from, end_fault, nodes_within, nodes_line, has_twice, names_once, names_here, names_line, node_of, if_distinct, fact_from, fact_of_set, fact_of_second, fact_of_first, fact_of_form, fact_line, facts_before, facts_at_end, fact_lines, after_names, after_nodes, read_network}
use Rattle.network_file.specs.Laws.{IsOfText, IsTextOfNetwork, TextHasFault, FileHasAnswer}
use Rattle.network_file.specs.declared.fault.FileFault.{FileFault}
use Rattle.network_file.specs.declared.fault.FileFault.TheVariants.{Nodes, NoNode, SelfEdge, NameTwice, Syntax, Unknown}

end-of_text : (end : TextEnd) → IsOfText (end_fault end)
end-of_text (BadLine line) = tt
end-of_text (Whole lines) = tt

-- ---- the nodes and their names

nodes_within-any : (line n : ℕ) → MatchResult (nodes_within line n) Any IsOfText
nodes_within-any line n = MatchResult-cond IsOfText Any _ (Err (Nodes line)) (Ok n) (λ _. tt) (λ _. tt)

nodes_line-any : (end : TextEnd) (lines : List TokenLine) → MatchResult (nodes_line end lines) Any IsOfText
nodes_line-any end [] = end-of_text end
nodes_line-any end (l ∷ ls) =
    MatchResult-then IsOfText Any Any (ok_or (nodes_form l.tokens) (Syntax l.number)) (λ said. nodes_within l.number said >>= λ nodes. Ok (nodes, ls))
    (MatchResult-ok_or IsOfText Any (nodes_form l.tokens) (Syntax l.number) (IfSome-any (nodes_form l.tokens)) tt)
    (λ said _. MatchResult-then IsOfText Any Any (nodes_within l.number said) (λ nodes. Ok (nodes, ls)) (nodes_within-any l.number said) (λ nodes _. tt))

-- no more names than nodes
module _ (n : ℕ) where
  if_count-few : (names : List (List ℕ)) → IfSome (if_count n names) (λ ns. length ns ≤ n)
  if_count-few names = few (length names == n) (eqb-true (length names) n)
    where
      few : (b : Bool) → (b ≡ true → length names ≡ n) → IfSome (if b then Some names else None) (λ ns. length ns ≤ n)
      few true h = omega (arith, h refl)
      few false h = tt

  names_form-few : (after : List Lexeme) → IfSome (names_form n after) (λ ns. length ns ≤ n)
  names_form-few after =
      IfSome-and_then Any (λ ns. length ns ≤ n) (λ found. _) (names_at after) (IfSome-any (names_at after)) (λ found _.
      IfSome-and_then (λ ns. length ns ≤ n) (λ ns. length ns ≤ n) (λ names. at_end names found.1) (if_count n found.0) (if_count-few found.0) (λ names few.
      IfSome-at_end (λ ns. length ns ≤ n) names found.1 few))

  names_once-few : (line : ℕ) (names : List (List ℕ)) → length names ≤ n → MatchResult (names_once line names) (λ ns. length ns ≤ n) IsOfText
  names_once-few line names few = MatchResult-cond IsOfText (λ ns. length ns ≤ n) (has_twice names) (Err (NameTwice line)) (Ok names) (λ _. tt) (λ _. few)

  names_here-few : (lines : List TokenLine) (found : Option (TokenLine × List TokenLine)) → MatchResult (names_here n lines found) (λ named. length named.0 ≤ n) IsOfText
  names_here-few lines None = omega arith
  names_here-few lines (Some found) =
      MatchResult-then IsOfText (λ ns. length ns ≤ n) (λ named. length named.0 ≤ n) (ok_or (names_form n found.0.tokens) (Syntax found.0.number)) (λ said. names_once found.0.number said >>= λ names. Ok (names, found.1))
      (MatchResult-ok_or IsOfText (λ ns. length ns ≤ n) (names_form n found.0.tokens) (Syntax found.0.number) (names_form-few found.0.tokens) tt)
      (λ said few. MatchResult-then IsOfText (λ ns. length ns ≤ n) (λ named. length named.0 ≤ n) (names_once found.0.number said) (λ names. Ok (names, found.1)) (names_once-few found.0.number said few) (λ names kept. kept))

-- ---- the lines of facts

module _ (n : ℕ) (names : List (List ℕ)) (few : length names ≤ n) where
  -- a node, and a fact of two nodes that differ
  abbrev Below : ℕ → Type 0
  Below k = k < n

  abbrev Proper : Fact → Type 0
  Proper fact = IsProperPair n fact.i fact.j

  node_of-below : (line : ℕ) (token : NodeToken) → MatchResult (node_of n names line token) (λ k. k < n) IsOfText
  node_of-below line (Number k) = MatchResult-cond IsOfText (λ k. k < n) (nat_lt k n) (Ok k) (Err (NoNode line)) (ltb-true k n) (λ _. tt)
  node_of-below line (Name name) =
      MatchResult-ok_or IsOfText (λ k. k < n) (place_of name names) (Unknown line) (IfSome_then (place_of name names) (place_of-below names name) (λ r below. omega (arith, below, few))) tt

  fact_of_set-proper : (line i j : ℕ) (rel : Option ℕ) → IsProperPair n i j → MatchResult (fact_of_set line i rel j) Proper IsOfText
  fact_of_set-proper line i j rel proper =
      MatchResult-then IsOfText Any Proper (ok_or rel (Unknown line)) (λ rel. Ok (fact_from i j rel)) (MatchResult-ok_or IsOfText Any rel (Unknown line) (IfSome-any rel) tt) (λ rel _. proper)

  if_distinct-differ : (line i j : ℕ) → MatchResult (if_distinct line i j) (λ k. (k ≡ j) × (i ≢ j)) IsOfText
  if_distinct-differ line i j = MatchResult-cond IsOfText (λ k. (k ≡ j) × (i ≢ j)) (i == j) (Err (SelfEdge line)) (Ok j) (λ _. tt) (λ e. (refl, eqb-false i j e))

  fact_of_second-proper : (line i j : ℕ) (rel : Option ℕ) → i < n → j < n → MatchResult (fact_of_second line i rel j) Proper IsOfText
  fact_of_second-proper line i j rel first second =
      MatchResult-then IsOfText (λ k. (k ≡ j) × (i ≢ j)) Proper (if_distinct line i j) (fact_of_set line i rel) (if_distinct-differ line i j)
      (λ k h. rw h.0 (fact_of_set-proper line i j rel (record { first_below = first; second_below = second; differ = h.1 })))

  fact_of_form-proper : (line : ℕ) (form : FactTokens) → MatchResult (fact_of_form n names line form) Proper IsOfText
  fact_of_form-proper line form =
      MatchResult-then IsOfText Below Proper (node_of n names line form.first) (fact_of_first n names line form) (node_of-below line form.first) (λ i first.
      MatchResult-then IsOfText Below Proper (node_of n names line form.second) (λ second. fact_of_second line i form.set second) (node_of-below line form.second) (λ j second.
      fact_of_second-proper line i j form.set first second))

  fact_line-proper : (bases : List (List ℕ)) (line : ℕ) (tokens : List Lexeme) → MatchResult (fact_line bases n names line tokens) (λ fact. IsProperPair n fact.i fact.j) IsOfText
  fact_line-proper bases line tokens =
      let form = fact_form bases (is_named names) tokens in
      MatchResult-then IsOfText Any Proper (ok_or form (Syntax line)) (fact_of_form n names line) (MatchResult-ok_or IsOfText Any form (Syntax line) (IfSome-any form) tt)
      (λ form _. fact_of_form-proper line form)

-- the facts have a network
record HaveNetwork (m : Algebra) (n : ℕ) (facts : List Fact) : Type 0 where
  words : List ℕ
  network : IsNetworkOfFacts m n facts words

none-network : (m : Algebra) (n : ℕ) → HaveNetwork m n []
none-network m n = record { words = _; network = IsNetworkOfFacts-none m n }

module _ (m : Algebra) (bases : List (List ℕ)) (end : TextEnd) (n : ℕ) (names : List (List ℕ)) (few : length names ≤ n) where
  facts_before-network : (facts : List Fact) (o : Option ℕ) → HaveNetwork m n facts → MatchResult (facts_before facts o) (HaveNetwork m n) IsOfText
  facts_before-network facts None h = h
  facts_before-network facts (Some line) h = tt

  more-network : (facts : List Fact) (fact : Fact) → HaveNetwork m n facts → IsProperPair n fact.i fact.j → HaveNetwork m n (facts ++ fact ∷ [])
  more-network facts fact h proper =
      record { words = narrowed_at m n h.words fact.i fact.j fact.rel; network = IsNetworkOfFacts-push m n h.words facts fact proper h.network }

  fact_lines-network : (facts : List Fact) (lines : List TokenLine) → HaveNetwork m n facts → MatchResult (fact_lines bases end n names facts lines) (HaveNetwork m n) IsOfText
  fact_lines-network facts [] h = end-of_text end
  fact_lines-network facts (l ∷ ls) h =
      MatchResult-cond IsOfText (HaveNetwork m n) (is_end_line l.tokens) (facts_at_end facts end ls) (fact_line bases n names l.number l.tokens >>= λ fact. fact_lines bases end n names (facts ++ fact ∷ []) ls)
      (λ _. facts_before-network facts (extra_line ls end) h)
      (λ _. MatchResult-then IsOfText (λ fact. IsProperPair n fact.i fact.j) (HaveNetwork m n) (fact_line bases n names l.number l.tokens) (λ fact. fact_lines bases end n names (facts ++ fact ∷ []) ls)
      (fact_line-proper n names few bases l.number l.tokens)
      (λ fact proper. fact_lines-network (facts ++ fact ∷ []) ls (more-network facts fact h proper)))

-- ---- the whole text

record IsWhole (m : Algebra) (said : Contents) : Type 0 where
  network : HaveNetwork m said.nodes said.facts

after_nodes-whole : (m : Algebra) (bases : List (List ℕ)) (end : TextEnd) (first : ℕ × List TokenLine) → MatchResult (after_nodes bases end first) (IsWhole m) IsOfText
after_nodes-whole m bases end first =
    MatchResult-then IsOfText (λ named. length named.0 ≤ first.0) (IsWhole m) (names_line first.0 first.1) (after_names bases end first.0) (names_here-few first.0 first.1 (line_of (codes "names") first.1)) (λ named few.
    MatchResult-then IsOfText (HaveNetwork m first.0) (IsWhole m) (fact_lines bases end first.0 named.0 [] named.1) (λ facts. Ok (contents_from first.0 named.0 facts))
    (fact_lines-network m bases end first.0 named.0 few [] named.1 (none-network m first.0)) (λ facts h. record { network = h }))

read_network-whole : (c : NamedAlgebra) (bytes : List ℕ) → MatchResult (read_network c bytes) (IsWhole c.algebra) IsOfText
read_network-whole c bytes =
    let text : FileText = file_text bytes in
    MatchResult-then IsOfText Any (IsWhole c.algebra) (nodes_line text.end text.lines) (after_nodes c.names text.end) (nodes_line-any text.end text.lines)
    (λ first _. after_nodes-whole c.algebra c.names text.end first)

answered : (c : NamedAlgebra) (bytes : List ℕ) (r : Result Contents FileFault) → read_network c bytes ≡ r → MatchResult r (IsWhole c.algebra) IsOfText →
    IsTextOfNetwork c bytes ⊎ TextHasFault c bytes
answered c bytes (Err f) e of_text = inr (record { fault = f; of_text = of_text; is = e })
answered c bytes (Ok said) e whole = inl (record {
  network = record { nodes = said.nodes; full = full_of c.algebra; words = whole.network.words; names = said.names };
  file = record {
    said = said;
    reads = e;
    network = record { nodes = refl; full = refl; names = refl; words = whole.network.network };
  };
})

pub file-answered : FileHasAnswer
file-answered c bytes = answered c bytes (read_network c bytes) refl (read_network-whole c bytes)
