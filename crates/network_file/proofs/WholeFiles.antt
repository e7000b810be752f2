-- A network file from its parts, and its network.
use Rattle.std.proofs.Common.{◌≡◌, ℕ, List, [], Ok, sym, ◌∙◌, ap, subst}
use Rattle.calculus_table.specs.Calculus.{NamedAlgebra}
use Rattle.network_words.specs.Network.{Network, IsNetwork}
use Rattle.network_words.specs.Facts.{IsNetworkOfFacts}
use Rattle.network_words.proofs.NetsOfFacts.{IsNetwork-from_facts}
use Rattle.line_files.specs.FileText.{FileText, file_text}
use Rattle.line_files.specs.Steps.{◌>>=◌}
use Rattle.network_file.specs.NetworkFile.{contents_from, nodes_line, names_line, fact_lines, after_names, after_nodes, read_lines, IsNetworkOfContents, IsFileOf, ReadsFacts}

pub file-read : (c : NamedAlgebra) (bytes : List ℕ) (net named new : Network) (text after rest : FileText) → text ≡ file_text bytes
    → nodes_line text.end text.lines ≡ Ok (net.nodes, after.lines) → after.end ≡ text.end → IsNetworkOfContents c (contents_from net.nodes [] []) net
    → names_line net.nodes after.lines ≡ Ok (named.names, rest.lines) → rest.end ≡ after.end → named ≡ record net { names = named.names }
    → ReadsFacts c named new rest → IsFileOf c bytes new
file-read c bytes net named new text after rest is first first_end fresh second second_end kept r =
    let n = net.nodes in
    let nodes : named.nodes ≡ n = ap (λ (w : Network). w.nodes) kept in
    let facts : fact_lines c.names text.end n named.names [] rest.lines ≡ Ok r.facts =
    sym (ap (λ e. fact_lines c.names e named.nodes named.names [] rest.lines) (second_end ∙ first_end) ∙ ap (λ k. fact_lines c.names text.end k named.names [] rest.lines) nodes) ∙ r.reads in
    record {
      said = contents_from n named.names r.facts;
      reads =
          ap (read_lines c.names) (sym is)
          ∙ ap (λ s. s >>= after_nodes c.names text.end) first
          ∙ ap (λ s. s >>= after_names c.names text.end n) second
          ∙ ap (λ s. s >>= λ fs. Ok (contents_from n named.names fs)) facts;
      network = record {
        nodes = ap (λ (w : Network). w.nodes) r.kept ∙ nodes;
        full = ap (λ (w : Network). w.full) r.kept ∙ ap (λ (w : Network). w.full) kept ∙ fresh.full;
        names = ap (λ (w : Network). w.names) r.kept;
        words = subst (λ k. IsNetworkOfFacts c.algebra k r.facts new.words) nodes r.words;
      };
    }

-- its sets are sets of base relations
pub IsNetwork-from_file : (c : NamedAlgebra) (bytes : List ℕ) (net : Network) → IsFileOf c bytes net → IsNetwork c.algebra net.nodes net.words
IsNetwork-from_file c bytes net file =
    subst (λ n. IsNetwork c.algebra n net.words) (sym file.network.nodes) (IsNetwork-from_facts c.algebra file.said.nodes file.said.facts net.words file.network.words)
