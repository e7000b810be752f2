-- What a reader finds at the front of a line's tokens.
use Rattle.std.specs.Prelude.{ℕ, List, [], ◌∷◌, Bool, true, false, ◌&&◌, Option, Some, None, option_map, option_and_then, bytes_eq, if◌then◌else◌}
use Rattle.qsr_lex.specs.Lexemes.{Lexeme}
use Rattle.qsr_lex.specs.Names.{is_name}
use Rattle.qsr_lex.specs.declared.tokens.TokenKind.{TokenKind}
use Rattle.qsr_lex.specs.declared.tokens.TokenKind.TheVariants.{Word, Open, Close, Comma, Colon, Colons, Stop}

-- the two kinds are the same
abbrev pub is_same_kind : TokenKind → TokenKind → Bool
is_same_kind Word Word = true
is_same_kind Open Open = true
is_same_kind Close Close = true
is_same_kind Comma Comma = true
is_same_kind Colon Colon = true
is_same_kind Colons Colons = true
is_same_kind Stop Stop = true
is_same_kind _ _ = false

-- a word at the front, and what stands after it
abbrev pub word_at : List Lexeme → Option (List ℕ × List Lexeme)
word_at [] = None
word_at (x ∷ xs) = if is_same_kind x.kind Word then Some (x.text, xs) else None

-- the token is a word that is a name
abbrev pub is_name_token : Lexeme → Bool
is_name_token x = is_same_kind x.kind Word && is_name x.text

-- a name at the front, and what stands after it
abbrev pub name_at : List Lexeme → Option (List ℕ × List Lexeme)
name_at [] = None
name_at (x ∷ xs) = if is_name_token x then Some (x.text, xs) else None

-- what stands after a token of this kind
abbrev pub after_kind : TokenKind → List Lexeme → Option (List Lexeme)
after_kind kind [] = None
after_kind kind (x ∷ xs) = if is_same_kind x.kind kind then Some xs else None

-- the token is this word
abbrev pub is_word_token : List ℕ → Lexeme → Bool
is_word_token text x = is_same_kind x.kind Word && bytes_eq x.text text

-- what stands after this word
abbrev pub after_word : List ℕ → List Lexeme → Option (List Lexeme)
after_word text [] = None
after_word text (x ∷ xs) = if is_word_token text x then Some xs else None

-- the names in front of a closing bracket, and what stands after it
abbrev pub names_until_close : List Lexeme → Option (List (List ℕ) × List Lexeme)
names_until_close [] = None
names_until_close (x ∷ xs) =
    if is_same_kind x.kind Close then Some ([], xs)
    else (if is_name_token x then option_map (λ found. (x.text ∷ found.0, found.1)) (names_until_close xs) else None)

-- a set at the front: names in brackets, and what stands after them
abbrev pub names_at : List Lexeme → Option (List (List ℕ) × List Lexeme)
names_at xs = option_and_then names_until_close (after_kind Open xs)

-- what is found first goes on into the second
infixl 10 ◌>>=◌
abbrev pub ◌>>=◌ : {A B : Type 0} → Option A → (A → Option B) → Option B
o >>= f = option_and_then f o

-- the value, where no token is left
abbrev pub at_end : {A : Type 0} → A → List Lexeme → Option A
at_end a [] = Some a
at_end a (x ∷ xs) = None

-- nothing stands after what was found
abbrev pub ends_there : Option (List Lexeme) → Bool
ends_there (Some []) = true
ends_there (Some (x ∷ xs)) = false
ends_there None = false

-- `.` alone
abbrev pub is_end_line : List Lexeme → Bool
is_end_line tokens = ends_there (after_kind Stop tokens)
