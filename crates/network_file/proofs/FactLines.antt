-- The lines of facts, one after another.
use Rattle.std.proofs.Common.{◌≡◌, ℕ, Bool, true, false, cond, List, [], ◌∷◌, ◌++◌, sym, ◌∙◌, ap, subst, Ok, MatchBool}
use Rattle.calculus_table.specs.Calculus.{NamedAlgebra}
use Rattle.network_words.specs.Edge.{IsProperPair}
use Rattle.network_words.specs.Network.{Network, narrowed_at}
use Rattle.network_words.specs.Facts.{IsNetworkOfFacts}
use Rattle.network_words.specs.declared.fact.Fact.{Fact}
use Rattle.network_words.proofs.NetsOfFacts.{IsNetworkOfFacts-push}
use Rattle.qsr_lex.specs.Lexemes.{Lexeme}
use Rattle.qsr_lex.specs.TokenLines.{token_line}
use Rattle.line_files.specs.FileText.{FileText}
use Rattle.line_files.specs.Steps.{◌>>=◌}
use Rattle.network_file.specs.NetworkFile.{fact_line, fact_lines, facts_at_end, ReadsLine}

pub at_false : (b : Bool) (P Q : Type 0) → b ≡ false → MatchBool b P Q → Q
at_false true P Q e h = cc
at_false false P Q e h = h

-- the facts so far, what is left to read, and the network
pub record FactsSoFar (c : NamedAlgebra) (first net : Network) (facts : List Fact) (all text : FileText) : Type 0 where
  pub end : text.end ≡ all.end
  pub told : fact_lines c.names all.end first.nodes first.names facts text.lines ≡ fact_lines c.names all.end first.nodes first.names [] all.lines
  pub words : IsNetworkOfFacts c.algebra first.nodes facts net.words
  pub kept : net ≡ record first { words = net.words }

-- a line more
pub facts-more : (c : NamedAlgebra) (first net new : Network) (facts : List Fact) (all text after : FileText) (line : ℕ) (tokens : List Lexeme) →
    FactsSoFar c first net facts all text → text.lines ≡ token_line line tokens ∷ after.lines → after.end ≡ text.end → (r : ReadsLine c net new line tokens) → FactsSoFar c first new (facts ++ r.fact ∷ []) all after
facts-more c first net new facts all text after line tokens s e t r =
    let nodes : net.nodes ≡ first.nodes = ap (λ (w : Network). w.nodes) s.kept in
    let names : net.names ≡ first.names = ap (λ (w : Network). w.names) s.kept in
    let reads : fact_line c.names first.nodes first.names line tokens ≡ Ok r.fact = sym (ap (λ k. fact_line c.names k net.names line tokens) nodes ∙ ap (λ ns. fact_line c.names first.nodes ns line tokens) names) ∙ r.reads in
    let narrowed : new ≡ record first { words = narrowed_at c.algebra first.nodes net.words r.fact.i r.fact.j r.fact.rel } =
    r.narrowed ∙ ap (λ (w : Network). record w { words = narrowed_at c.algebra w.nodes net.words r.fact.i r.fact.j r.fact.rel }) s.kept in
    let words : new.words ≡ narrowed_at c.algebra first.nodes net.words r.fact.i r.fact.j r.fact.rel = ap (λ (w : Network). w.words) narrowed in
    let pushed = IsNetworkOfFacts-push c.algebra first.nodes net.words facts r.fact (subst (λ k. IsProperPair k r.fact.i r.fact.j) nodes r.proper) s.words in
    record {
      end = t ∙ s.end;
      told = sym (ap (λ b. cond b (facts_at_end facts all.end after.lines) (fact_line c.names first.nodes first.names line tokens >>= λ fact. fact_lines c.names all.end first.nodes first.names (facts ++ fact ∷ []) after.lines)) r.no_end
          ∙ ap (λ step. step >>= λ fact. fact_lines c.names all.end first.nodes first.names (facts ++ fact ∷ []) after.lines) reads)
          ∙ ap (fact_lines c.names all.end first.nodes first.names facts) (sym e)
          ∙ s.told;
      words = subst (IsNetworkOfFacts c.algebra first.nodes (facts ++ r.fact ∷ [])) (sym words) pushed;
      kept = narrowed ∙ ap (λ ws. record first { words = ws }) (sym words);
    }
