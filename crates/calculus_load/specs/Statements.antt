-- The forms of the lines of a table file.
use Rattle.std.specs.Prelude.{◌≡◌, ℕ, ◌-◌, ◌^◌, ◌<◌, length, List, [], ◌∷◌, Option, Some, None, IfSome, codes}
use Rattle.qsr_lex.specs.Lexemes.{Lexeme}
use Rattle.qsr_lex.specs.LineTokens.{name_at, names_at, after_kind, after_word, ◌>>=◌, at_end}
use Rattle.qsr_lex.specs.declared.tokens.TokenKind.TheVariants.{Colon, Colons}
use Rattle.calculus_table.specs.Rel.{IsWithin}
use Rattle.calculus_table.specs.Names.{place_of}
use Rattle.calculus_table.specs.declared.TheConstants.{MAX_BASES}
use Rattle.named_sets.specs.Named.{set_at}
use Rattle.calculus_load.specs.declared.statement.Statement.{Statement}
use Rattle.calculus_load.specs.declared.statement.Statement.TheVariants.{Converse, Entry}

-- these names, where there is one
abbrev pub some_names : List (List ℕ) → Option (List (List ℕ))
some_names [] = None
some_names (name ∷ names) = Some (name ∷ names)

-- `names ( N1 N2 .. Nn )`
abbrev pub names_line : List Lexeme → Option (List (List ℕ))
names_line tokens = after_word (codes "names") tokens >>= λ rest. names_at rest >>= λ found. at_end found.0 found.1 >>= some_names

-- these are more names than a calculus may have base relations
pub record AreTooMany (found : Option (List (List ℕ))) : Type 0 where
  pub names : List (List ℕ)
  pub found_is : found ≡ Some names
  pub more : MAX_BASES < length names

-- `identity N`
abbrev pub identity_line : List Lexeme → Option (List ℕ)
identity_line tokens = after_word (codes "identity") tokens >>= λ rest. name_at rest >>= λ found. at_end found.0 found.1

-- `A :: B`: the converse of A is B
abbrev pub after_colons : List (List ℕ) → Option ℕ → List Lexeme → Option Statement
after_colons names first tokens = name_at tokens >>= λ second. at_end (Converse first (place_of second.0 names)) second.1

abbrev pub converse_line : List (List ℕ) → List Lexeme → Option Statement
converse_line names tokens = name_at tokens >>= λ first. after_kind Colons first.1 >>= after_colons names (place_of first.0 names)

-- `A : B :: ( C D .. )`: the composition of A and B is the set of C, D, ..
abbrev pub after_colon : List (List ℕ) → Option ℕ → List Lexeme → Option Statement
after_colon names first tokens =
    name_at tokens >>= λ second. after_kind Colons second.1 >>= λ rest. set_at names rest >>= λ found.
    at_end (Entry first (place_of second.0 names) found.0) found.1

abbrev pub entry_line : List (List ℕ) → List Lexeme → Option Statement
entry_line names tokens = name_at tokens >>= λ first. after_kind Colon first.1 >>= after_colon names (place_of first.0 names)

-- either of the two
abbrev pub or_else : {A : Type 0} → Option A → Option A → Option A
or_else (Some a) other = Some a
or_else None other = other

abbrev pub statement_line : List (List ℕ) → List Lexeme → Option Statement
statement_line names tokens = or_else (converse_line names tokens) (entry_line names tokens)

-- the numbers of the statement are below n, and so are the members of its set
abbrev pub IsBoundedBy : ℕ → Statement → Type 0
IsBoundedBy n (Converse a b) = IfSome a (λ a. a < n) × IfSome b (λ b. b < n)
IsBoundedBy n (Entry a b set) = IfSome a (λ a. a < n) × IfSome b (λ b. b < n) × IfSome set (λ set. IsWithin set (2 ^ n - 1))
