-- A line end after printed JSON tokens adds no token.
use Rattle.std.proofs.Common.{◌≡◌, ℕ, Bool, true, false, cond, ◌&&◌, List, [], ◌∷◌, ◌++◌, refl, sym, ap, ap₂, ◌∙◌, append_assoc}
use Rattle.json.specs.Token.{Token, begin_object, end_object, begin_array, end_array, key, string, number, boolean, null, bad}
use Rattle.json.specs.Word.{ends_word, word}
use Rattle.json.specs.Lex.{Lexeme, token, comma, colon, string_token, lex, between, fresh, punctuate, tokens}
use Rattle.json.specs.Print.{escape, quoted, token_text, begins, ends, print_from, print, IsPrintable, ArePrintable}
use Rattle.json.proofs.Printed.Strings.{content-escape, lex-escape}
use Rattle.json.proofs.Printed.Numbers.{lex-number, in_word-ended}
use Rattle.json.proofs.Printed.Tokens.{tokens-print}

abbrev line_end : List ℕ
line_end = 10 ∷ []

abbrev token_lexemes : Token → List Lexeme
token_lexemes begin_object = token begin_object ∷ []
token_lexemes end_object = token end_object ∷ []
token_lexemes begin_array = token begin_array ∷ []
token_lexemes end_array = token end_array ∷ []
token_lexemes (key s) = token (string s) ∷ colon ∷ []
token_lexemes (string s) = token (string s) ∷ []
token_lexemes (number s) = token (number s) ∷ []
token_lexemes (boolean b) = token (boolean b) ∷ []
token_lexemes null = token null ∷ []
token_lexemes bad = []

-- after a value stands a comma, a closing bracket, or the end
value_ends : (ts : List Token) → ends_word (print_from true ts) ≡ true
unfolding print_from
value_ends [] = refl
value_ends (begin_object ∷ ts) = refl
value_ends (end_object ∷ ts) = refl
value_ends (begin_array ∷ ts) = refl
value_ends (end_array ∷ ts) = refl
value_ends (key s ∷ ts) = refl
value_ends (string s ∷ ts) = refl
value_ends (number s ∷ ts) = refl
value_ends (boolean b ∷ ts) = refl
value_ends (null ∷ ts) = refl
value_ends (bad ∷ ts) = refl

value_ends_line : (ts : List Token) → ends_word (print_from true ts ++ line_end) ≡ true
unfolding print_from
value_ends_line [] = refl
value_ends_line (begin_object ∷ ts) = refl
value_ends_line (end_object ∷ ts) = refl
value_ends_line (begin_array ∷ ts) = refl
value_ends_line (end_array ∷ ts) = refl
value_ends_line (key s ∷ ts) = refl
value_ends_line (string s ∷ ts) = refl
value_ends_line (number s ∷ ts) = refl
value_ends_line (boolean b ∷ ts) = refl
value_ends_line (null ∷ ts) = refl
value_ends_line (bad ∷ ts) = refl

lex-quoted : (s r : List ℕ) → lex between (quoted s ++ r) ≡ token (string s) ∷ lex between r
unfolding lex
lex-quoted s r =
    ap (λ l. lex between (34 ∷ l)) (append_assoc (escape s) (34 ∷ []) r)
    ∙ ap₂ (λ o l. token (string_token o) ∷ l) (content-escape s r) (lex-escape s r)

lex-token : (t : Token) (r : List ℕ) → IsPrintable t → (ends t ≡ true → ends_word r ≡ true) → lex between (token_text t ++ r) ≡ token_lexemes t ++ lex between r
unfolding lex word
lex-token begin_object r h ended = refl
lex-token end_object r h ended = refl
lex-token begin_array r h ended = refl
lex-token end_array r h ended = refl
lex-token (key s) r h ended = ap (lex between) (append_assoc (quoted s) (58 ∷ []) r) ∙ lex-quoted s (58 ∷ r)
lex-token (string s) r h ended = lex-quoted s r
lex-token (number s) r h ended = lex-number s r h (ended refl)
lex-token (boolean true) r h ended = ap₂ (λ b l. token (cond b (boolean true) bad) ∷ l) (ended refl) (in_word-ended r (ended refl))
lex-token (boolean false) r h ended = ap₂ (λ b l. token (cond b (boolean false) bad) ∷ l) (ended refl) (in_word-ended r (ended refl))
lex-token null r h ended = ap₂ (λ b l. token (cond b null bad) ∷ l) (ended refl) (in_word-ended r (ended refl))
lex-token bad r h ended = absurd h

lex-separator : (b : Bool) (r : List ℕ) → lex between (cond b (44 ∷ []) [] ++ r) ≡ cond b (comma ∷ []) [] ++ lex between r
unfolding lex
lex-separator true r = refl
lex-separator false r = refl

regroup : (s t p e : List ℕ) → (s ++ (t ++ p)) ++ e ≡ s ++ (t ++ (p ++ e))
regroup s t p e = append_assoc s (t ++ p) e ∙ ap (λ l. s ++ l) (append_assoc t p e)

lex-line : (later : Bool) (ts : List Token) → ArePrintable ts → lex between (print_from later ts ++ line_end) ≡ lex between (print_from later ts)
unfolding lex print_from ArePrintable
lex-line later [] h = refl
lex-line later (t ∷ ts) h =
    let rest = print_from (ends t) ts in
    let front = cond (later && begins t) (44 ∷ []) [] in
    ap (lex between) (regroup front (token_text t) rest line_end)
    ∙ lex-separator (later && begins t) _
    ∙ ap (λ l. cond (later && begins t) (comma ∷ []) [] ++ l)
    (lex-token t (rest ++ line_end) h.0 (λ e. ap (λ b. ends_word (print_from b ts ++ line_end)) e ∙ value_ends_line ts)
    ∙ ap (λ l. token_lexemes t ++ l) (lex-line (ends t) ts h.1)
    ∙ sym (lex-token t rest h.0 (λ e. ap (λ b. ends_word (print_from b ts)) e ∙ value_ends ts)))
    ∙ sym (lex-separator (later && begins t) _)

pub tokens-line : (ts : List Token) → ArePrintable ts → tokens (print ts ++ line_end) ≡ ts
tokens-line ts h = ap (punctuate fresh) (lex-line false ts h) ∙ tokens-print ts h
