-- The names of the nodes of a network file differ.
use Rattle.std.proofs.Common.{◌≡◌, ℕ, false, List, [], Option, Some, None, Result, Ok, Err, sym, subst, ◌∙◌, arith}
use Rattle.std.specs.Prelude.{⊤, codes, MatchResult}
use Rattle.std.specs.Option.{ok_or}
use Rattle.std.proofs.lemmas.Bool.{false≢true}
use Rattle.calculus_table.specs.Calculus.{NamedAlgebra, AreDistinct}
use Rattle.network_words.specs.Network.{Network}
use Rattle.qsr_lex.specs.TokenLines.{TokenLine}
use Rattle.line_files.specs.FileText.{FileText, file_text, line_of}
use Rattle.line_files.specs.Steps.{◌>>=◌}
use Rattle.line_files.proofs.Steps.{MatchResult-then, MatchResult-cond}
use Rattle.network_file.specs.LineForms.{names_form}
use Rattle.network_file.specs.NetworkFile.{Contents, contents_from, nodes_line, has_twice, names_once, names_here, names_line, fact_lines, after_names, after_nodes, read_lines, IsFileOf}
use Rattle.network_file.specs.declared.fault.FileFault.{FileFault}
use Rattle.network_file.specs.declared.fault.FileFault.TheVariants.{Syntax, NameTwice}
use Rattle.network_file.proofs.NamesLine.{twice-at}

-- what holds of the value, where there is one
abbrev Gives : {A : Type 0} → Result A FileFault → (A → Type 0) → Type 0
Gives r P = MatchResult r P (λ _. ⊤)

any : {A : Type 0} (r : Result A FileFault) → Gives r (λ _. ⊤)
any (Ok a) = tt
any (Err e) = tt

after : {A B : Type 0} (P : A → Type 0) (R : B → Type 0) (r : Result A FileFault) (f : A → Result B FileFault) → Gives r P → ((a : A) → P a → Gives (f a) R) → Gives (r >>= f) R
after P R r f = MatchResult-then (λ _. ⊤) P R r f

always : {A B : Type 0} (R : B → Type 0) (r : Result A FileFault) (f : A → Result B FileFault) → ((a : A) → Gives (f a) R) → Gives (r >>= f) R
always R r f h = after (λ _. ⊤) R r f (any r) (λ a _. h a)

not_twice-distinct : (names : List (List ℕ)) → has_twice names ≡ false → AreDistinct names
not_twice-distinct names once j k order below same = false≢true (sym once ∙ twice-at names j k order below same)

none-distinct : AreDistinct []
none-distinct j k order below same = omega (arith, below)

names_once-distinct : (line : ℕ) (names : List (List ℕ)) → Gives (names_once line names) AreDistinct
names_once-distinct line names = MatchResult-cond (λ _. ⊤) AreDistinct (has_twice names) (Err (NameTwice line)) (Ok names) (λ _. tt) (not_twice-distinct names)

names_here-distinct : (n : ℕ) (lines : List TokenLine) (found : Option (TokenLine × List TokenLine)) → Gives (names_here n lines found) (λ named. AreDistinct named.0)
names_here-distinct n lines None = none-distinct
names_here-distinct n lines (Some found) =
    always (λ named. AreDistinct named.0) (ok_or (names_form n found.0.tokens) (Syntax found.0.number)) (λ said. names_once found.0.number said >>= λ names. Ok (names, found.1)) (λ said.
    after AreDistinct (λ named. AreDistinct named.0) (names_once found.0.number said) (λ names. Ok (names, found.1)) (names_once-distinct found.0.number said) (λ names distinct. distinct))

abbrev AreNamed : Contents → Type 0
AreNamed said = AreDistinct said.names

names_of_lines : (bases : List (List ℕ)) (text : FileText) → Gives (read_lines bases text) AreNamed
names_of_lines bases text =
    always AreNamed (nodes_line text.end text.lines) (after_nodes bases text.end) (λ first.
    after (λ named. AreDistinct named.0) AreNamed (names_line first.0 first.1) (after_names bases text.end first.0) (names_here-distinct first.0 first.1 (line_of (codes "names") first.1)) (λ named distinct.
    always AreNamed (fact_lines bases text.end first.0 named.0 [] named.1) (λ facts. Ok (contents_from first.0 named.0 facts)) (λ facts. distinct)))

pub file-names_distinct : (c : NamedAlgebra) (bytes : List ℕ) (net : Network) → IsFileOf c bytes net → AreDistinct net.names
file-names_distinct c bytes net file =
    subst AreDistinct (sym file.network.names) (subst (λ r. Gives r AreNamed) file.reads (names_of_lines c.names (file_text bytes)))
