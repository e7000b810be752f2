-- Facts of polygons alone never conflict: with polygons, a search over a network that states nothing never answers no.
use Rattle.std.proofs.Common.{◌≡◌, ◌≢◌, ℕ, suc, ◌<◌, ◌≤◌, Bool, true, false, ◌==◌, List, [], ◌∷◌, ◌++◌, length, map}
use Rattle.std.proofs.Common.{replicate, slice_get, Option, Some, None, Result, Ok, Err, refl, sym, ap, subst, ◌∙◌}
use Rattle.std.proofs.Common.{arith}
use Rattle.std.specs.Prelude.{⊤, IfSome, MatchResult, codes, if◌then◌else◌}
use Rattle.std.specs.List.{All, AllZip, AllByRecursion}
use Rattle.std.specs.Option.{ok_or}
use Rattle.std.proofs.lemmas.Bool.{eqb-true}
use Rattle.std.proofs.lemmas.List.Elements.{All-nil, All-cons, All-head, All-tail, All-push, All-append, All-map}
use Rattle.std.proofs.lemmas.Option.{same_Some, slice_get_within}
use Rattle.qsr_lex.specs.Lexemes.{Lexeme}
use Rattle.qsr_lex.specs.LineTokens.{names_at, at_end}
use Rattle.qsr_lex.specs.TokenLines.{TokenLine}
use Rattle.qsr_lex.proofs.Found.{Any, IfSome-any, IfSome-and_then, IfSome-at_end}
use Rattle.line_files.specs.FileText.{FileText, file_text, line_of}
use Rattle.line_files.specs.Steps.{◌>>=◌}
use Rattle.line_files.specs.declared.lines.TextEnd.{TextEnd}
use Rattle.line_files.proofs.Steps.{MatchResult-then, MatchResult-ok_or, MatchResult-cond}
use Rattle.calculus_table.specs.Calculus.{NamedAlgebra, AreDistinct}
use Rattle.calculus_table.specs.Composition.{full_of}
use Rattle.calculus_builtin.specs.Rcc8.{rcc8_algebra, rcc8_calculus}
use Rattle.network_words.specs.Edge.{edge_count}
use Rattle.network_words.specs.Network.{Network}
use Rattle.network_words.specs.Facts.{IsNetworkOfFacts, narrowed_by}
use Rattle.network_words.specs.Scenario.{IsScenario}
use Rattle.network_words.specs.declared.fact.Fact.{Fact}
use Rattle.network_words.proofs.NetsOfFacts.{IsProperFact, IsNetworkOfFacts-narrowed_by}
use Rattle.network_file.specs.LineForms.{if_count, names_form}
use Rattle.network_file.specs.NetworkFile.{IsFileOf, Contents, contents_from, nodes_line, has_twice, names_once}
use Rattle.network_file.specs.NetworkFile.{names_here, names_line, fact_lines, after_names, after_nodes, read_lines}
use Rattle.network_file.specs.declared.fault.FileFault.{FileFault}
use Rattle.network_file.specs.declared.fault.FileFault.TheVariants.{Syntax, NameTwice}
use Rattle.geo_facts.specs.PolygonFile as polygon_files
use Rattle.geo_facts.specs.PolygonFile.{NamedRing, names_of, IsLineOf, HavePolygons}
use Rattle.geo_facts.specs.Facts.{RingPair, ring_pair, ring_pairs, IsFactOf}
use Rattle.geo_facts.proofs.ReadLines.{distinct-line}
use Rattle.geo_sound.specs.Bases.{IsRegion}
use Rattle.geo_sound.proofs.PlacedFacts.{facts-can_hold}
use Rattle.split_search.specs.declared.verdict.Verdict.{Verdict}
use Rattle.split_search.specs.declared.verdict.Verdict.TheVariants as verdict
use Rattle.qsr_words.specs.Asked.{SolveAsked}
use Rattle.qsr_inputs.specs.Inputs.{IsPlaced}
use Rattle.qsr_inputs.specs.declared.statuses.Status.{Status}
use Rattle.qsr_inputs.specs.declared.statuses.Status.TheVariants.{No}
use Rattle.qsr_answers.specs.Verdicts.{verdict_status, RulesOut}
use Rattle.qsr_answers.specs.Commands.{SolvesNetwork}

-- ---- the polygons of a file

-- the names differ, and the rings are simple
pub record AreNamedRegions (polygons : List NamedRing) : Type 0 where
  pub distinct : AreDistinct (names_of polygons)
  pub regions : All (λ p. IsRegion p.vertices) polygons

pub none-regions : AreNamedRegions []
none-regions = record {
  distinct = λ j k less below. absurd (omega (arith, below));
  regions = All-nil (λ p. IsRegion p.vertices);
}

line-region : (before : List NamedRing) (line : ℕ) (tokens : List Lexeme) (p : NamedRing) →
    IsLineOf before line tokens p → IsRegion p.vertices
line-region before line tokens p is =
    let few = is.accepted.few in
    subst IsRegion (sym is.vertices) (record { simple = is.accepted.simple; some = omega (arith, few) })

line-regions : (before : List NamedRing) (line : ℕ) (tokens : List Lexeme) (p : NamedRing) → AreNamedRegions before →
    IsLineOf before line tokens p → AreNamedRegions (before ++ p ∷ [])
line-regions before line tokens p h is = record {
  distinct = distinct-line before line tokens p h.distinct is;
  regions = All-push (λ q. IsRegion q.vertices) before p h.regions (line-region before line tokens p is);
}

lines-regions : (end : TextEnd) (ls : List TokenLine) (polygons before : List NamedRing) → AreNamedRegions before →
    HavePolygons end ls polygons before → AreNamedRegions polygons
lines-regions end [] polygons before h have = subst AreNamedRegions (sym have.1) h
lines-regions end (l ∷ ls) polygons before h have =
    lines-regions end ls polygons (before ++ have.polygon ∷ [])
    (line-regions before l.number l.tokens have.polygon h have.is_line) have.rest

pub file-regions : (bytes : List ℕ) (polygons : List NamedRing) → polygon_files.IsFileOf bytes polygons →
    AreNamedRegions polygons
file-regions bytes polygons file =
    let text : FileText = file_text bytes in lines-regions text.end text.lines polygons [] none-regions file

-- ---- the names of a network file: no more than nodes

-- what holds of the value, where there is one
abbrev Gives : {A : Type 0} → Result A FileFault → (A → Type 0) → Type 0
Gives r P = MatchResult r P (λ _. ⊤)

any : {A : Type 0} (r : Result A FileFault) → Gives r (λ _. ⊤)
any (Ok a) = tt
any (Err e) = tt

after : {A B : Type 0} (P : A → Type 0) (R : B → Type 0) (r : Result A FileFault) (f : A → Result B FileFault) →
    Gives r P → ((a : A) → P a → Gives (f a) R) → Gives (r >>= f) R
after P R r f = MatchResult-then (λ _. ⊤) P R r f

module _ (n : ℕ) where
  abbrev AreFew : List (List ℕ) → Type 0
  AreFew names = length names ≤ n

  counted-few : (names : List (List ℕ)) (b : Bool) → (b ≡ true → length names ≡ n) →
      IfSome (if b then Some names else None) AreFew
  counted-few names true h = omega (arith, h refl)
  counted-few names false h = tt

  form-few : (tokens : List Lexeme) → IfSome (names_form n tokens) AreFew
  form-few tokens =
      IfSome-and_then Any AreFew (λ found. _) (names_at tokens) (IfSome-any (names_at tokens)) (λ found _.
      IfSome-and_then AreFew AreFew (λ names. at_end names found.1) (if_count n found.0)
      (counted-few found.0 (length found.0 == n) (eqb-true (length found.0) n)) (λ names few.
      IfSome-at_end AreFew names found.1 few))

  once-few : (line : ℕ) (names : List (List ℕ)) → AreFew names → Gives (names_once line names) AreFew
  once-few line names few =
      MatchResult-cond (λ _. ⊤) AreFew (has_twice names) (Err (NameTwice line)) (Ok names) (λ _. tt) (λ _. few)

  names-few : (lines : List TokenLine) (found : Option (TokenLine × List TokenLine)) →
      Gives (names_here n lines found) (λ named. AreFew named.0)
  names-few lines None = omega arith
  names-few lines (Some found) =
      after AreFew (λ named. AreFew named.0) (ok_or (names_form n found.0.tokens) (Syntax found.0.number))
      (λ said. names_once found.0.number said >>= λ names. Ok (names, found.1))
      (MatchResult-ok_or (λ _. ⊤) AreFew (names_form n found.0.tokens) (Syntax found.0.number)
      (form-few found.0.tokens) tt) (λ said few.
      after AreFew (λ named. AreFew named.0) (names_once found.0.number said) (λ names. Ok (names, found.1))
      (once-few found.0.number said few) (λ names kept. kept))

abbrev HaveFewNames : Contents → Type 0
HaveFewNames said = length said.names ≤ said.nodes

lines-few : (bases : List (List ℕ)) (text : FileText) → Gives (read_lines bases text) HaveFewNames
lines-few bases text =
    after (λ _. ⊤) HaveFewNames (nodes_line text.end text.lines) (after_nodes bases text.end)
    (any (nodes_line text.end text.lines)) (λ first _.
    after (λ named. AreFew first.0 named.0) HaveFewNames (names_line first.0 first.1)
    (after_names bases text.end first.0) (names-few first.0 first.1 (line_of (codes "names") first.1)) (λ named few.
    after (λ _. ⊤) HaveFewNames (fact_lines bases text.end first.0 named.0 [] named.1)
    (λ facts. Ok (contents_from first.0 named.0 facts)) (any (fact_lines bases text.end first.0 named.0 [] named.1))
    (λ facts _. few)))

pub file-few_names : (c : NamedAlgebra) (bytes : List ℕ) (net : Network) → IsFileOf c bytes net →
    length net.names ≤ net.nodes
file-few_names c bytes net file =
    let said : length file.said.names ≤ file.said.nodes =
    subst (λ r. Gives r HaveFewNames) file.reads (lines-few c.names (file_text bytes)) in
    let names : length net.names ≡ length file.said.names = ap length file.network.names in
    let nodes = file.network.nodes in
    omega (arith, said, names, nodes)

-- ---- each fact of polygons is of two different nodes

abbrev Differ : RingPair → Type 0
Differ pair = pair.first.name ≢ pair.second.name

others-differ : (p : NamedRing) (ps : List NamedRing) →
    ((k : ℕ) → k < length (names_of ps) → Some p.name ≢ slice_get (names_of ps) k) → All (λ q. p.name ≢ q.name) ps
others-differ p [] h = All-nil (λ q. p.name ≢ q.name)
others-differ p (q ∷ qs) h = All-cons (λ r. p.name ≢ r.name) q qs (λ e. h 0 (omega arith) (ap Some e))
    (others-differ p qs (λ k less. h (suc k) (omega arith)))

pairs-differ : (ps : List NamedRing) → AreDistinct (names_of ps) → All Differ (ring_pairs ps)
pairs-differ [] d = All-nil Differ
pairs-differ (p ∷ ps) d = All-append Differ (map (ring_pair p) ps) (ring_pairs ps)
    (All-map Differ (ring_pair p) ps (others-differ p ps (λ k less. d 0 (suc k) (omega arith) (omega arith))))
    (pairs-differ ps (λ j k less below. d (suc j) (suc k) (omega arith) (omega arith)))

module _ (n : ℕ) (names : List (List ℕ)) (few : length names ≤ n) where
  fact-proper : (pair : RingPair) (fact : Fact) → Differ pair → IsFactOf names pair fact → IsProperFact n fact
  fact-proper pair fact differ h =
      let first = slice_get_within names fact.i pair.first.name h.first in
      let second = slice_get_within names fact.j pair.second.name h.second in
      record {
        pair = record {
          first_below = omega (arith, first, few);
          second_below = omega (arith, second, few);
          differ = λ e. differ (same_Some pair.first.name pair.second.name
              (sym h.first ∙ ap (slice_get names) e ∙ h.second));
        };
      }

  facts-proper : (pairs : List RingPair) (facts : List Fact) → All Differ pairs → AllZip (IsFactOf names) pairs facts →
      AllByRecursion (IsProperFact n) facts
  facts-proper [] [] d h = tt
  facts-proper [] (f ∷ fs) d h = absurd h
  facts-proper (r ∷ rs) [] d h = absurd h
  facts-proper (r ∷ rs) (f ∷ fs) d h =
      (fact-proper r f (All-head Differ r rs d) h.0, facts-proper rs fs (All-tail Differ r rs d) h.1)

-- ---- the network of the facts alone can hold

placed-can_hold : (polygons : List NamedRing) (net placed : Network) → AreNamedRegions polygons →
    length net.names ≤ net.nodes → net.words ≡ replicate (edge_count net.nodes) (full_of rcc8_algebra) →
    IsPlaced rcc8_calculus polygons net placed →
    ((relations : List ℕ) → ¬ IsScenario rcc8_algebra placed.nodes placed.words relations) → ⊥
placed-can_hold polygons net placed are few full is none =
    let nodes : placed.nodes ≡ net.nodes = ap (λ (w : Network). w.nodes) is.narrowed in
    let words : placed.words ≡ narrowed_by rcc8_algebra net.nodes net.words is.facts =
    ap (λ (w : Network). w.words) is.narrowed in
    let stated : placed.words ≡ narrowed_by rcc8_algebra net.nodes
    (replicate (edge_count net.nodes) (full_of rcc8_algebra)) is.facts =
    words ∙ ap (λ ws. narrowed_by rcc8_algebra net.nodes ws is.facts) full in
    let proper = facts-proper net.nodes net.names few (ring_pairs polygons) is.facts
    (pairs-differ polygons are.distinct) is.are_facts in
    facts-can_hold polygons net.names net.nodes is.facts placed.words are.distinct are.regions is.are_facts
    (subst (IsNetworkOfFacts rcc8_algebra net.nodes is.facts) (sym stated)
    (IsNetworkOfFacts-narrowed_by rcc8_algebra net.nodes is.facts proper))
    (λ relations h. none relations (subst (λ n. IsScenario rcc8_algebra n placed.words relations) (sym nodes) h))

-- ---- so that no search answers no

rules_out-not_no : (net : Network) (v : Verdict) →
    (((relations : List ℕ) → ¬ IsScenario rcc8_algebra net.nodes net.words relations) → ⊥) →
    RulesOut rcc8_calculus net v → verdict_status v ≢ No
rules_out-not_no net (verdict.Yes relations nodes) there h e = cc
rules_out-not_no net (verdict.Budget nodes) there h e = cc
rules_out-not_no net (verdict.No nodes) there h e = there h

-- the network `net` of a file states nothing, and `placed` is that network with the polygons
pub solves-not_no : (asked : SolveAsked) (class bytes text : List ℕ) (polygons : List NamedRing)
    (net placed : Network) (status : Status) → AreNamedRegions polygons → IsFileOf rcc8_calculus bytes net →
    net.words ≡ replicate (edge_count net.nodes) (full_of rcc8_algebra) → IsPlaced rcc8_calculus polygons net placed →
    SolvesNetwork asked rcc8_calculus class placed text status → status ≢ No
solves-not_no asked class bytes text polygons net placed status are file full is h e =
    rules_out-not_no placed h.verdict
    (placed-can_hold polygons net placed are (file-few_names rcc8_calculus bytes net file) full is)
    h.on_network.rules_out (sym h.status_is ∙ e)
