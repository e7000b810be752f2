-- The line of names.
use Rattle.std.proofs.Common.{◌≡◌, ℕ, zero, suc, ◌<◌, Bool, true, false, cond, ◌||◌, List, [], ◌∷◌, length, refl, sym, ◌∙◌, ap, subst, arith, slice_get, Option, Some, None, Ok, Err, option_map, is_some, bytes_eq, codes}
use Rattle.std.specs.Option.{ok_or}
use Rattle.std.proofs.lemmas.Option.{same_Some, slice_get_within}
use Rattle.std.proofs.lemmas.Slice.Eq.{bytes_eq-Decides}
use Rattle.calculus_table.specs.Calculus.{AreDistinct, IsFirstRepeat, NamedAlgebra}
use Rattle.calculus_table.specs.Composition.{full_of}
use Rattle.network_words.specs.Edge.{edge_count}
use Rattle.network_words.specs.Network.{Network}
use Rattle.network_words.proofs.NetsOfFacts.{IsNetworkOfFacts-none}
use Rattle.std.specs.Prelude.{replicate}
use Rattle.qsr_lex.specs.Lexemes.{Lexeme}
use Rattle.qsr_lex.specs.TokenLines.{TokenLine, token_line}
use Rattle.line_files.specs.FileText.{line_of}
use Rattle.line_files.specs.Steps.{◌>>=◌}
use Rattle.network_file.specs.LineForms.{names_form}
use Rattle.calculus_table.specs.Names.{place_of}
use Rattle.network_file.specs.NetworkFile.{has_twice, names_once, names_here, names_line, IsNetworkOfContents}
use Rattle.network_file.specs.declared.fault.FileFault.TheVariants.{Syntax, NameTwice}
use Rattle.calculus_table.proofs.PlacesOfNames.{place_of-none}

-- ---- names that differ, and names of which one stands twice

no_earlier : (a b : Bool) → a ≡ false → b ≡ false → a || b ≡ false
no_earlier a b p q = rw (p, q) refl

pub has_twice-distinct : (names : List (List ℕ)) → AreDistinct names → has_twice names ≡ false
has_twice-distinct [] d = refl
has_twice-distinct (x ∷ xs) d =
    let none : place_of x xs ≡ None = place_of-none xs x (λ r h. d 0 (suc r) (omega arith) (let b = slice_get_within xs r x h in omega arith) (sym h)) in
    no_earlier (is_some (place_of x xs)) (has_twice xs) (ap is_some none)
    (has_twice-distinct xs (λ j k o b. d (suc j) (suc k) (omega arith) (omega arith)))

some-place : (b : Bool) (o : Option ℕ) → is_some o ≡ true → is_some (cond b (Some 0) (option_map suc o)) ≡ true
some-place true o h = refl
some-place false (Some k) h = refl
some-place false None h = cc

pub place_of-some : (names : List (List ℕ)) (name : List ℕ) (r : ℕ) → slice_get names r ≡ Some name → is_some (place_of name names) ≡ true
place_of-some [] name r h = cc
place_of-some (x ∷ xs) name zero h =
    let same : x ≡ name = same_Some x name h in
    let e : bytes_eq x name ≡ true = (bytes_eq-Decides x name).1 same in
    rw e refl
place_of-some (x ∷ xs) name (suc r) h = some-place (bytes_eq x name) (place_of name xs) (place_of-some xs name r h)

or_l : (a b : Bool) → a ≡ true → a || b ≡ true
or_l a b p = rw p refl

or_r : (a b : Bool) → b ≡ true → a || b ≡ true
or_r true b p = refl
or_r false b p = p

pub twice-at : (names : List (List ℕ)) (j k : ℕ) → j < k → k < length names → slice_get names j ≡ slice_get names k → has_twice names ≡ true
twice-at [] j k o b h = absurd (omega arith)
twice-at (x ∷ xs) j zero o b h = absurd (omega arith)
twice-at (x ∷ xs) zero (suc k) o b h = or_l (is_some (place_of x xs)) (has_twice xs) (place_of-some xs x k (sym h))
twice-at (x ∷ xs) (suc j) (suc k) o b h = or_r (is_some (place_of x xs)) (has_twice xs) (twice-at xs j k (omega arith) (omega arith) h)

pub has_twice-repeat : (names : List (List ℕ)) (k : ℕ) → IsFirstRepeat names k → has_twice names ≡ true
has_twice-repeat names k f = twice-at names f.here.earlier k f.here.is_earlier f.here.below f.here.same

-- ---- the line

pub names_line-read : (n line : ℕ) (lines after : List TokenLine) (rest : List Lexeme) (names : List (List ℕ)) → line_of (codes "names") lines ≡ Some (token_line line rest, after) →
    names_form n rest ≡ Some names → has_twice names ≡ false → names_line n lines ≡ Ok (names, after)
names_line-read n line lines after rest names e f h =
    ap (names_here n lines) e
    ∙ ap (λ o. ok_or o (Syntax line) >>= λ said. names_once line said >>= λ ns. Ok (ns, after)) f
    ∙ ap (λ t. cond t (Err (NameTwice line)) (Ok names) >>= λ ns. Ok (ns, after)) h

pub names_line-twice : (n line : ℕ) (lines after : List TokenLine) (rest : List Lexeme) (names : List (List ℕ)) → line_of (codes "names") lines ≡ Some (token_line line rest, after) →
    names_form n rest ≡ Some names → has_twice names ≡ true → names_line n lines ≡ Err (NameTwice line)
names_line-twice n line lines after rest names e f h =
    ap (names_here n lines) e
    ∙ ap (λ o. ok_or o (Syntax line) >>= λ said. names_once line said >>= λ ns. Ok (ns, after)) f
    ∙ ap (λ t. cond t (Err (NameTwice line)) (Ok names) >>= λ ns. Ok (ns, after)) h

-- ---- a network without names and facts

pub fresh_network : (c : NamedAlgebra) (n : ℕ) (net : Network) → net ≡ record { nodes = n; full = full_of c.algebra; words = replicate (edge_count n) (full_of c.algebra); names = [] } →
    IsNetworkOfContents c (record { nodes = net.nodes; names = []; facts = [] }) net
fresh_network c n net e =
    let made : Network = record { nodes = n; full = full_of c.algebra; words = replicate (edge_count n) (full_of c.algebra); names = [] } in
    let P : Network → Type 0 = λ w. IsNetworkOfContents c (record { nodes = w.nodes; names = []; facts = [] }) w in
    subst P (sym e) (record { nodes = refl; full = refl; names = refl; words = IsNetworkOfFacts-none c.algebra n })
