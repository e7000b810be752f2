-- The canonical text of a network is read as that network, and a text has one answer.
use Rattle.std.proofs.Common.{◌≡◌, ℕ, ◌+◌, ◌<◌, ◌≤◌, ◌==◌, ◌&&◌, ◌||◌, Bool, true, false, cond, nat_lt, List, [], ◌∷◌, ◌++◌, length, map, refl, sym, ◌∙◌, ap, subst, arith, append_assoc, append-nil, slice_index, Option, Some, None, Result, Ok, Err, option_map, option_and_then, codes, decimal, bytes_eq, inl, inr}
use Rattle.std.specs.Option.{ok_or}
use Rattle.std.specs.List.{list_all, AllByRecursion}
use Rattle.std.proofs.lemmas.Bool.{lt-ltb, eq-eqb, false_from_ne_true}
use Rattle.std.proofs.lemmas.Bool.Decides.{nat_tests}
use Rattle.std.proofs.lemmas.Slice.Eq.{bytes_eq-Decides}
use Rattle.std.proofs.lemmas.List.Elements.{All-from_recursion, recursion_from_All}
use Rattle.calculus_table.specs.Rel.{Has}
use Rattle.calculus_table.specs.Calculus.{NamedAlgebra, AreDistinct}
use Rattle.calculus_table.proofs.Compositions.{full-member}
use Rattle.network_words.specs.Edge.{edge_at}
use Rattle.network_words.specs.Network.{Network}
use Rattle.network_words.specs.Facts.{Allows, IsNetworkOfFacts}
use Rattle.network_words.specs.declared.TheConstants.{MAX_NODES}
use Rattle.network_words.specs.declared.fact.Fact.{Fact}
use Rattle.network_words.proofs.NetsOfFacts.{IsNetworkOfFacts-unique}
use Rattle.qsr_lex.specs.Lexemes.{Lexeme}
use Rattle.qsr_lex.specs.Names.{is_name}
use Rattle.qsr_lex.specs.Numbers.{number_of}
use Rattle.qsr_lex.specs.TokenLines.{TokenLine, token_line}
use Rattle.qsr_lex.specs.LineTokens.{is_same_kind, at_end, ends_there, is_end_line}
use Rattle.qsr_lex.specs.Printed.{lexeme_from, printed_token_lines}
use Rattle.qsr_lex.specs.declared.tokens.TokenKind.TheVariants.{Word, Stop}
use Rattle.qsr_lex.proofs.PrintedNames.{IsPrintedSet-from_tests}
use Rattle.qsr_lex.proofs.PrintedNumbers.{IsPrintedNumber-below}
use Rattle.line_files.specs.FileText.{line_of}
use Rattle.line_files.specs.Steps.{◌>>=◌}
use Rattle.line_files.specs.declared.lines.TextEnd.{TextEnd}
use Rattle.line_files.specs.declared.lines.TextEnd.TheVariants.{Whole}
use Rattle.line_files.proofs.FileTexts.{file_text-printed}
use Rattle.named_sets.specs.Named.{set_of, set_at}
use Rattle.named_sets.specs.Written.{members, set_tokens}
use Rattle.named_sets.proofs.ReadSets.{set_of-members}
use Rattle.named_sets.proofs.WrittenSets.{members-names}
use Rattle.network_file.specs.LineForms.{nodes_form, names_form, if_count, is_named, NodeToken, Number, node_from, node_at, FactTokens, fact_form}
use Rattle.network_file.specs.NetworkText.{network_text}
use Rattle.network_file.specs.NetworkFile.{Contents, contents_from, nodes_within, nodes_line, names_here, names_line, node_of, fact_from, fact_of_set, fact_of_second, fact_of_first, fact_of_form, fact_line, facts_at_end, fact_lines, after_names, after_nodes, read_lines, read_network, IsNetworkOfContents, IsFileOf}
use Rattle.network_file.specs.Laws.{IsPrintable, FileHasOneFault, FileHasNoFault}
use Rattle.network_file.specs.declared.fault.FileFault.{FileFault}
use Rattle.network_file.specs.declared.fault.FileFault.TheVariants.{Nodes, Syntax, NoNode, SelfEdge, Unknown}
use Rattle.network_file.proofs.NamesLine.{has_twice-distinct, names_line-read}
use Rattle.network_file.proofs.PrintedLines.{small, pairs_below, edge_tokens_of, names_lines, file_lines, network_text-printed, IsPair, file_tokens, pairs_below-pairs, Among, pairs_below-has}

-- ---- one network at most

abbrev network_from : ℕ → ℕ → List ℕ → List (List ℕ) → Network
network_from n f w m = record { nodes = n; full = f; words = w; names = m }

pub file_is_of_one : (c : NamedAlgebra) (bytes : List ℕ) (net other : Network) → IsFileOf c bytes net → IsFileOf c bytes other → net ≡ other
file_is_of_one c bytes net other p q =
    let said : p.said ≡ q.said = same_ok p.said q.said (sym p.reads ∙ q.reads) in
    let of : IsNetworkOfContents c q.said net = subst (λ s. IsNetworkOfContents c s net) said p.network in
    let words : net.words ≡ other.words = IsNetworkOfFacts-unique c.algebra q.said.nodes q.said.facts net.words other.words of.words q.network.words in
    same_network net other (of.nodes ∙ sym q.network.nodes) (of.full ∙ sym q.network.full) words (of.names ∙ sym q.network.names)
  where
    same_ok : (a b : Contents) → (let r : Result Contents FileFault = Ok a in r) ≡ Ok b → a ≡ b
    same_ok a b h = cc

    same_network : (a b : Network) → a.nodes ≡ b.nodes → a.full ≡ b.full → a.words ≡ b.words → a.names ≡ b.names → a ≡ b
    same_network a b n f w m =
        ap (λ x. network_from x a.full a.words a.names) n ∙ ap (λ x. network_from b.nodes x a.words a.names) f
        ∙ ap (λ x. network_from b.nodes b.full x a.names) w ∙ ap (λ x. network_from b.nodes b.full b.words x) m

-- ---- the first line

nodes_test : (n : ℕ) → 0 < n → n ≤ MAX_NODES → (n == 0 || nat_lt MAX_NODES n) ≡ false
nodes_test n some few = grind (arith, nat_tests)

nodes_line-printed : (end : TextEnd) (line n : ℕ) (rest : List TokenLine) → 0 < n → n ≤ MAX_NODES → nodes_line end (token_line line (map lexeme_from (codes "nodes" ∷ decimal n ∷ [])) ∷ rest) ≡ Ok (n, rest)
nodes_line-printed end line n rest some few =
    let num = IsPrintedNumber-below n (small n (omega arith)) in
    let form : nodes_form (map lexeme_from (codes "nodes" ∷ decimal n ∷ [])) ≡ Some n =
    ap (λ k. option_and_then (λ (found : List ℕ × List Lexeme). option_and_then (λ nodes. at_end nodes found.1) (number_of found.0)) (cond (is_same_kind k Word) (Some (decimal n, [])) None)) num.word
    ∙ ap (λ o. option_and_then (λ nodes. at_end nodes []) o) num.number in
    ap (λ o. ok_or o (Syntax line) >>= λ said. nodes_within line said >>= λ nodes. Ok (nodes, rest)) form
    ∙ ap (λ b. cond b (Err (Nodes line)) (Ok n) >>= λ nodes. Ok (nodes, rest)) (nodes_test n some few)

-- ---- the line of names

named_form : (n : ℕ) (names : List (List ℕ)) → list_all is_name names ≡ true → length names ≡ n → names_form n (map lexeme_from ((40 ∷ []) ∷ (names ++ (41 ∷ []) ∷ []))) ≡ Some names
named_form n names all l =
    ap (λ o. option_and_then (λ (found : List (List ℕ) × List Lexeme). option_and_then (λ ns. at_end ns found.1) (if_count n found.0)) o) (IsPrintedSet-from_tests names [] all).read
    ∙ ap (λ b. option_and_then (λ ns. at_end ns []) (cond b (Some names) None)) (eq-eqb (length names) n l)

none_some : (i : ℕ) → (let o : Option ℕ = None in o) ≡ Some i → ⊥
none_some i h = cc

no_names_word : (line i : ℕ) (rest : List Lexeme) (ls : List TokenLine) → i < MAX_NODES → line_of (codes "names") (token_line line (lexeme_from (decimal i) ∷ rest) ∷ ls) ≡ None
no_names_word line i rest ls few =
    let num = IsPrintedNumber-below i (small i (omega arith)) in
    let other : bytes_eq (decimal i) (codes "names") ≡ false =
    false_from_ne_true (bytes_eq (decimal i) (codes "names")) (λ t. none_some i (sym (ap number_of ((bytes_eq-Decides (decimal i) (codes "names")).0 t)) ∙ num.number)) in
    let found = λ (o : Option (List Lexeme)). option_map {U = TokenLine × List TokenLine} (λ after. (token_line line after, ls)) o in
    ap (λ k. found (cond (is_same_kind k Word && bytes_eq (decimal i) (codes "names")) (Some rest) None)) num.word ∙ ap (λ b. found (cond b (Some rest) None)) other

abbrev end_line : List (List (List ℕ))
end_line = ((46 ∷ []) ∷ []) ∷ []

abbrev line_after : List (List ℕ) → ℕ
line_after [] = 2
line_after (x ∷ xs) = 3

names_line-printed : (c : NamedAlgebra) (net : Network) (ps : List (ℕ × ℕ)) (names : List (List ℕ)) → net.nodes ≤ MAX_NODES → AllByRecursion (IsPair net.nodes) ps → list_all is_name names ≡ true → AreDistinct names →
    (0 < length names → length names ≡ net.nodes) →
    names_line net.nodes (printed_token_lines 2 (names_lines names ++ (map (edge_tokens_of c net) ps ++ end_line))) ≡ Ok (names, printed_token_lines (line_after names) (map (edge_tokens_of c net) ps ++ end_line))
names_line-printed c net [] [] few pairs all d l = refl
names_line-printed c net (p ∷ ps) [] few pairs all d l =
    let first : p.0 < MAX_NODES = omega (arith, pairs.0.order, pairs.0.below) in
    let lines = printed_token_lines 2 (map (edge_tokens_of c net) (p ∷ ps) ++ end_line) in
    let rest = map lexeme_from (decimal p.1 ∷ set_tokens c (slice_index net.words (edge_at net.nodes p.0 p.1))) in
    ap (names_here net.nodes lines) (no_names_word 2 p.0 rest (printed_token_lines 3 (map (edge_tokens_of c net) ps ++ end_line)) first)
names_line-printed c net ps (x ∷ xs) few pairs all d l =
    names_line-read net.nodes 2 (printed_token_lines 2 (names_lines (x ∷ xs) ++ (map (edge_tokens_of c net) ps ++ end_line))) (printed_token_lines 3 (map (edge_tokens_of c net) ps ++ end_line))
    (map lexeme_from ((40 ∷ []) ∷ ((x ∷ xs) ++ (41 ∷ []) ∷ []))) (x ∷ xs) refl (named_form net.nodes (x ∷ xs) all (l (omega arith))) (has_twice-distinct (x ∷ xs) d)

-- ---- the line of a fact

abbrev tokens_of : ℕ → ℕ → Option ℕ → FactTokens
tokens_of i j set = record { first = Number i; second = Number j; set = set }

abbrev fact_at : Network → ℕ × ℕ → Fact
fact_at net p = fact_from p.0 p.1 (slice_index net.words (edge_at net.nodes p.0 p.1))

node_at-printed : (named : Bool) (i : ℕ) (rest : List Lexeme) → i < MAX_NODES → node_at named (lexeme_from (decimal i) ∷ rest) ≡ Some (Number i, rest)
node_at-printed named i rest few =
    let num = IsPrintedNumber-below i (small i (omega arith)) in
    let found = λ (o : Option (List ℕ × List Lexeme)). option_and_then {U = NodeToken × List Lexeme} (λ (f : List ℕ × List Lexeme). option_and_then {U = NodeToken × List Lexeme} (λ (token : NodeToken). Some (token, f.1)) (node_from named f.0 (number_of f.0))) o in
    ap (λ k. found (cond (is_same_kind k Word) (Some (decimal i, rest)) None)) num.word
    ∙ ap (λ o. option_and_then {U = NodeToken × List Lexeme} (λ (token : NodeToken). Some (token, rest)) (node_from named (decimal i) o)) num.number

fact_form-printed : (bases : List (List ℕ)) (named : Bool) (i j : ℕ) (ms : List (List ℕ)) → i < MAX_NODES → j < MAX_NODES → list_all is_name ms ≡ true →
    fact_form bases named (map lexeme_from (decimal i ∷ decimal j ∷ (40 ∷ []) ∷ (ms ++ (41 ∷ []) ∷ []))) ≡ Some (tokens_of i j (set_of bases ms))
fact_form-printed bases named i j ms few more all =
    let after = map lexeme_from ((40 ∷ []) ∷ (ms ++ (41 ∷ []) ∷ [])) in
    ap (λ o. option_and_then (λ (first : NodeToken × List Lexeme). option_and_then (λ (second : NodeToken × List Lexeme). option_and_then (λ (set : Option ℕ × List Lexeme). at_end (record { first = first.0; second = second.0; set = set.0 }) set.1) (set_at bases second.1)) (node_at named first.1)) o)
    (node_at-printed named i (lexeme_from (decimal j) ∷ after) few)
    ∙ ap (λ o. option_and_then (λ (second : NodeToken × List Lexeme). option_and_then (λ (set : Option ℕ × List Lexeme). at_end (record { first = Number i; second = second.0; set = set.0 }) set.1) (set_at bases second.1)) o) (node_at-printed named j after more)
    ∙ ap (λ o. option_and_then (λ (set : Option ℕ × List Lexeme). at_end (tokens_of i j set.0) set.1) (option_map {U = Option ℕ × List Lexeme} (λ (found : List (List ℕ) × List Lexeme). (set_of bases found.0, found.1)) o)) (IsPrintedSet-from_tests ms [] all).read

node_of-printed : (n line i : ℕ) (names : List (List ℕ)) → i < n → node_of n names line (Number i) ≡ Ok i
node_of-printed n line i names below = ap (λ b. cond b (Ok i) (Err (NoNode line))) (lt-ltb i n below)

other_test : (i j : ℕ) → i < j → (i == j) ≡ false
other_test i j h = grind (arith, nat_tests)

fact_line-printed : (c : NamedAlgebra) (net : Network) (line : ℕ) (p : ℕ × ℕ) → IsPrintable c net → IsPair net.nodes p → fact_line c.names net.nodes net.names line (map lexeme_from (edge_tokens_of c net p)) ≡ Ok (fact_at net p)
fact_line-printed c net line p h pair =
    let a = slice_index net.words (edge_at net.nodes p.0 p.1) in
    let ms = members c a in
    let set = set_of c.names ms in
    let below : p.0 < net.nodes = omega (arith, pair.order, pair.below) in
    let few : p.0 < MAX_NODES = omega (arith, h.shape.bounded, below) in
    let more : p.1 < MAX_NODES = omega (arith, h.shape.bounded, pair.below) in
    let one_each : length c.names ≡ c.algebra.size = h.calculus.one_each in
    let names = members-names c.names a c.algebra.size h.bases (omega (arith, one_each)) in
    ap (λ o. ok_or o (Syntax line) >>= fact_of_form net.nodes net.names line) (fact_form-printed c.names (is_named net.names) p.0 p.1 ms few more names)
    ∙ ap (λ s. s >>= fact_of_first net.nodes net.names line (tokens_of p.0 p.1 set)) (node_of-printed net.nodes line p.0 net.names below)
    ∙ ap (λ s. s >>= fact_of_second line p.0 set) (node_of-printed net.nodes line p.1 net.names pair.below)
    ∙ ap (λ b. cond b (Err (SelfEdge line)) (Ok p.1) >>= fact_of_set line p.0 set) (other_test p.0 p.1 pair.order)
    ∙ ap (λ o. ok_or o (Unknown line) >>= λ rel. Ok (fact_from p.0 p.1 rel)) (set_of-members c.names c.algebra a h.calculus.distinct one_each (h.words.within (edge_at net.nodes p.0 p.1)))

-- ---- the lines of facts

fact_no_end : (c : NamedAlgebra) (net : Network) (p : ℕ × ℕ) → p.0 < MAX_NODES → is_end_line (map lexeme_from (edge_tokens_of c net p)) ≡ false
fact_no_end c net p few =
    let rest = map lexeme_from (decimal p.1 ∷ set_tokens c (slice_index net.words (edge_at net.nodes p.0 p.1))) in
    ap (λ k. ends_there (cond (is_same_kind k Stop) (Some rest) None)) (IsPrintedNumber-below p.0 (small p.0 (omega arith))).word

fact_lines-printed : (c : NamedAlgebra) (net : Network) (k line : ℕ) (ps : List (ℕ × ℕ)) (facts : List Fact) → IsPrintable c net → AllByRecursion (IsPair net.nodes) ps →
    fact_lines c.names (Whole k) net.nodes net.names facts (printed_token_lines line (map (edge_tokens_of c net) ps ++ end_line)) ≡ Ok (facts ++ map (fact_at net) ps)
fact_lines-printed c net k line [] facts h pairs = ap Ok (sym (append-nil facts))
fact_lines-printed c net k line (p ∷ ps) facts h pairs =
    let few : p.0 < MAX_NODES = omega (arith, h.shape.bounded, pairs.0.order, pairs.0.below) in
    let after = printed_token_lines (line + 1) (map (edge_tokens_of c net) ps ++ end_line) in
    let tokens = map lexeme_from (edge_tokens_of c net p) in
    ap (λ b. cond b (facts_at_end facts (Whole k) after) (fact_line c.names net.nodes net.names line tokens >>= λ fact. fact_lines c.names (Whole k) net.nodes net.names (facts ++ fact ∷ []) after)) (fact_no_end c net p few)
    ∙ ap (λ s. s >>= λ fact. fact_lines c.names (Whole k) net.nodes net.names (facts ++ fact ∷ []) after) (fact_line-printed c net line p h pairs.0)
    ∙ fact_lines-printed c net k (line + 1) ps (facts ++ fact_at net p ∷ []) h pairs.1
    ∙ ap Ok (append_assoc facts (fact_at net p ∷ []) (map (fact_at net) ps))

-- ---- the net of the facts

all_allow : (c : NamedAlgebra) (net : Network) (i j t : ℕ) (ps : List (ℕ × ℕ)) → i < j → Has (slice_index net.words (edge_at net.nodes i j)) t → AllByRecursion (IsPair net.nodes) ps →
    AllByRecursion (Allows c.algebra i j t) (map (fact_at net) ps)
all_allow c net i j t [] o h pairs = tt
all_allow c net i j t (p ∷ ps) o h pairs = (
  record {
    forward = λ x y. subst (λ q. Has (slice_index net.words (edge_at net.nodes p.0 q)) t) (sym y) (subst (λ q. Has (slice_index net.words (edge_at net.nodes q j)) t) (sym x) h);
    backward = λ x y. absurd (omega (arith, pairs.0.order));
  },
  all_allow c net i j t ps o h pairs.1,
)

allowed_at : (c : NamedAlgebra) (net : Network) (i j t : ℕ) (ps : List (ℕ × ℕ)) → Among i j ps → AllByRecursion (Allows c.algebra i j t) (map (fact_at net) ps) → Has (slice_index net.words (edge_at net.nodes i j)) t
allowed_at c net i j t [] m h = absurd m
allowed_at c net i j t (p ∷ ps) m h = elim m [
  | inl here ↦ subst (λ q. Has (slice_index net.words (edge_at net.nodes i q)) t) here.1 (subst (λ q. Has (slice_index net.words (edge_at net.nodes q p.1)) t) here.0 (h.0.forward here.0 here.1))
  | inr later ↦ allowed_at c net i j t ps later h.1
]

net_of_edges : (c : NamedAlgebra) (net : Network) → IsPrintable c net → IsNetworkOfFacts c.algebra net.nodes (map (fact_at net) (pairs_below net.nodes net.nodes)) net.words
net_of_edges c net h =
    let n = net.nodes in
    let ps = pairs_below n n in
    record {
      length_is = h.words.length_is;
      members = λ i j t o b. (
        λ x. (full-member c.algebra t ((h.words.within (edge_at n i j)).each t x), All-from_recursion (Allows c.algebra i j t) (map (fact_at net) ps) (all_allow c net i j t ps o x (pairs_below-pairs n n))),
        λ x. allowed_at c net i j t ps (pairs_below-has n i j n (omega arith) o b) (recursion_from_All (Allows c.algebra i j t) (map (fact_at net) ps) x.1),
      );
    }

-- ---- the whole text

pub printed_is_read : (c : NamedAlgebra) (net : Network) → IsPrintable c net → IsFileOf c (network_text c net) net
printed_is_read c net h =
    let n = net.nodes in
    let few : n ≤ MAX_NODES = h.shape.bounded in
    let some : 0 < n = h.shape.some in
    let ps = pairs_below n n in
    let pairs = pairs_below-pairs n n in
    let edges = map (edge_tokens_of c net) ps ++ end_line in
    let lines = file_lines c net ps in
    let tokens = file_tokens c net ps few h.calculus.one_each h.bases h.names pairs in
    let end : TextEnd = Whole (length lines) in
    record {
      said = contents_from n net.names (map (fact_at net) ps);
      reads =
          ap (read_network c) (network_text-printed c net h.shape.named)
          ∙ ap (read_lines c.names) (file_text-printed lines tokens)
          ∙ ap (λ s. s >>= after_nodes c.names end) (nodes_line-printed end 1 n (printed_token_lines 2 (names_lines net.names ++ edges)) some few)
          ∙ ap (λ s. s >>= after_names c.names end n) (names_line-printed c net ps net.names few pairs h.names h.shape.distinct h.shape.named)
          ∙ ap (λ s. s >>= λ fs. Ok (contents_from n net.names fs)) (fact_lines-printed c net (length lines) (line_after net.names) ps [] h pairs);
      network = record { nodes = refl; full = h.full; names = refl; words = net_of_edges c net h };
    }

-- ---- one answer

pub file_has_one_fault : FileHasOneFault
file_has_one_fault c bytes fault other h k p q = same (sym (p h) ∙ q k)
  where
    same : (let r : Result Contents FileFault = Err fault in r) ≡ Err other → fault ≡ other
    same e = cc

pub file_has_no_fault : FileHasNoFault
file_has_no_fault c bytes net fault file p h = other file.said (sym file.reads ∙ p h)
  where
    other : (said : Contents) → (let r : Result Contents FileFault = Ok said in r) ≡ Err fault → ⊥
    other said e = cc
