-- What the bytes of a line outside comments are cut into: blanks, which separate, and tokens.
use Rattle.std.specs.Prelude.{ℕ, zero, suc, List, [], ◌∷◌, ◌++◌, take, Bool, false, ◌&&◌, ◌==◌, if◌then◌else◌}
use Rattle.std.specs.List.{prefix_len}
use Rattle.qsr_lex.specs.Bytes.{is_blank, is_open, is_close, is_comma, is_colon, is_dot, is_word_byte}
use Rattle.qsr_lex.specs.declared.tokens.TokenKind.{TokenKind}
use Rattle.qsr_lex.specs.declared.tokens.TokenKind.TheVariants.{Word, Open, Close, Comma, Colon, Colons, Stop}

-- a colon is next
abbrev pub starts_with_colon : List ℕ → Bool
starts_with_colon [] = false
starts_with_colon (b ∷ bs) = is_colon b

-- a blank is next
abbrev pub starts_with_blank : List ℕ → Bool
starts_with_blank [] = false
starts_with_blank (b ∷ bs) = is_blank b

-- how many bytes after the first one belong to the token at the front: two colons are one token, and a word is a
-- longest run of its bytes
abbrev pub tail_len : List ℕ → ℕ
tail_len [] = 0
tail_len (b ∷ bs) =
    if is_word_byte b then prefix_len is_word_byte bs
    else (if is_colon b && starts_with_colon bs then 1 else 0)

-- what the token at the front is
abbrev pub kind_of : List ℕ → TokenKind
kind_of [] = Word
kind_of (b ∷ bs) =
    if is_open b then Open
    else (if is_close b then Close
    else (if is_comma b then Comma
    else (if is_colon b then (if starts_with_colon bs then Colons else Colon)
    else (if is_dot b && (prefix_len is_word_byte bs == 0) then Stop
    else Word))))

-- a token without its place: what it is, and its bytes
pub record Lexeme : Type 0 where
  pub kind : TokenKind
  pub text : List ℕ

-- the token of this kind with these bytes
abbrev pub lexeme_with : TokenKind → List ℕ → Lexeme
lexeme_with kind text = record { kind = kind; text = text }

-- the token that begins with the first byte; a blank begins none
abbrev pub lexeme_here : List ℕ → List Lexeme
lexeme_here [] = []
lexeme_here (b ∷ bs) =
    if is_blank b then []
    else record { kind = kind_of (b ∷ bs); text = b ∷ take (tail_len (b ∷ bs)) bs } ∷ []

-- the tokens after `skip` bytes that belong to a token before
abbrev pub lexemes_after : ℕ → List ℕ → List Lexeme
lexemes_after skip [] = []
lexemes_after zero (b ∷ bs) = lexeme_here (b ∷ bs) ++ lexemes_after (tail_len (b ∷ bs)) bs
lexemes_after (suc skip) (b ∷ bs) = lexemes_after skip bs

-- the tokens of the bytes, from the left
abbrev pub lexemes : List ℕ → List Lexeme
lexemes bytes = lexemes_after 0 bytes
