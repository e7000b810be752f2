-- The tokens of a text, taken line by line, are the tokens of its lines.
use Rattle.std.proofs.Common.{◌≡◌, ℕ, zero, suc, ◌+◌, ◌-◌, ◌==◌, ◌<◌, ◌≤◌, Bool, true, false, cond, List, [], ◌∷◌, ◌++◌, length, take, drop, refl, sym, ap, ◌∙◌, arith, append_assoc}
use Rattle.std.specs.List.{flat_map}
use Rattle.std.proofs.lemmas.List.{drop-drop, drop_at, take-append-drop, take-append-le}
use Rattle.std.proofs.lemmas.Bool.Decides.{nat_tests}
use Rattle.qsr_lex.specs.Bytes.{is_blank}
use Rattle.qsr_lex.specs.TextLines.{text_lines, outside}
use Rattle.qsr_lex.specs.Lexemes.{Lexeme, lexemes, lexemes_after, tail_len, kind_of}
use Rattle.qsr_lex.specs.Tokens.{tokens_after, tokens_of_lines, tokens_of}
use Rattle.qsr_lex.specs.TokenLines.{TokenLine, add_line, add_lexeme, by_line, lexeme_of, token_lines, token_lines_from}
use Rattle.qsr_lex.specs.declared.tokens.Token.{Token}
use Rattle.qsr_lex.proofs.Scanning.{outside-take}
use Rattle.qsr_lex.proofs.Spans.{concat-text_lines, tail_len-le}

-- the lines come after line n
abbrev pub AreAfter : ℕ → List TokenLine → Type 0
AreAfter n [] = Unit {0}
AreAfter n (l ∷ ls) = n < l.number

AreAfter-add_line : (n m : ℕ) (xs : List Lexeme) (ls : List TokenLine) → n < m → AreAfter n ls → AreAfter n (add_line m xs ls)
AreAfter-add_line n m [] ls h k = k
AreAfter-add_line n m (x ∷ xs) ls h k = h

AreAfter-token_lines : (n m : ℕ) (ls : List (List ℕ)) → n < m → AreAfter n (token_lines_from m ls)
AreAfter-token_lines n m [] h = tt
AreAfter-token_lines n m (l ∷ ls) h =
    AreAfter-add_line n m (lexemes (outside l)) (token_lines_from (m + 1) ls) h (AreAfter-token_lines n (m + 1) ls (omega arith))

same_number : (n : ℕ) → (n == n) ≡ true
same_number n = grind (arith, nat_tests)

other_number : (m n : ℕ) → n < m → (m == n) ≡ false
other_number m n h = grind (arith, nat_tests)

add_lexeme-add_line : (n : ℕ) (x : Lexeme) (ys : List Lexeme) (ls : List TokenLine) → AreAfter n ls → add_lexeme n x (add_line n ys ls) ≡ add_line n (x ∷ ys) ls
add_lexeme-add_line n x [] [] h = refl
add_lexeme-add_line n x [] (l ∷ ls) h =
    ap (λ c. cond c (record { number = n; tokens = x ∷ l.tokens } ∷ ls) (record { number = n; tokens = x ∷ [] } ∷ l ∷ ls)) (other_number l.number n h)
add_lexeme-add_line n x (y ∷ ys) ls h =
    ap (λ c. cond c (record { number = n; tokens = x ∷ y ∷ ys } ∷ ls) (record { number = n; tokens = x ∷ [] } ∷ record { number = n; tokens = y ∷ ys } ∷ ls)) (same_number n)

-- what follows the next byte
pub drop_next : (at b : ℕ) (whole rest : List ℕ) → drop at whole ≡ b ∷ rest → drop (at + 1) whole ≡ rest
drop_next at b whole rest h = sym (drop-drop 1 at whole) ∙ ap (drop 1) h

-- the bytes from the start of a token to its end
pub token_text : (at t b : ℕ) (whole bs more : List ℕ) → drop at whole ≡ b ∷ (bs ++ more) → t ≤ length bs
    → take (at + (1 + t) - at) (drop at whole) ≡ b ∷ take t bs
token_text at t b whole bs more h short =
    let n : at + (1 + t) - at ≡ suc t = omega arith in
    ap (λ k. take k (drop at whole)) n ∙ ap (take (suc t)) h ∙ ap (λ xs. b ∷ xs) (take-append-le t bs more short)

by_line-here : (c : Bool) (whole : List ℕ) (n : ℕ) (t : Token) (y : Lexeme) (ts us : List Token) (ys : List Lexeme) (ls : List TokenLine)
    → t.line ≡ n → lexeme_of whole t ≡ y → by_line whole (ts ++ us) ≡ add_line n ys ls → AreAfter n ls
    → by_line whole ((cond c [] (t ∷ []) ++ ts) ++ us) ≡ add_line n (cond c [] (y ∷ []) ++ ys) ls
by_line-here true whole n t y ts us ys ls same_line text told after = told
by_line-here false whole n t y ts us ys ls same_line text told after =
    ap (λ m. add_lexeme m (lexeme_of whole t) (by_line whole (ts ++ us))) same_line
    ∙ ap (λ x. add_lexeme n x (by_line whole (ts ++ us))) text
    ∙ ap (add_lexeme n y) told
    ∙ add_lexeme-add_line n y ys ls after

by_line-part : (whole : List ℕ) (n at skip : ℕ) (part more : List ℕ) (us : List Token) (ls : List TokenLine)
    → drop at whole ≡ part ++ more → by_line whole us ≡ ls → AreAfter n ls
    → by_line whole (tokens_after n at skip part ++ us) ≡ add_line n (lexemes_after skip part) ls
by_line-part whole n at skip [] more us ls place told after = told
by_line-part whole n at (suc skip) (b ∷ bs) more us ls place told after =
    by_line-part whole n (at + 1) skip bs more us ls (drop_next at b whole (bs ++ more) place) told after
by_line-part whole n at zero (b ∷ bs) more us ls place told after =
    let t = tail_len (b ∷ bs) in
    by_line-here (is_blank b) whole n
    (record { line = n; start = at; end = at + (1 + t); kind = kind_of (b ∷ bs) })
    (record { kind = kind_of (b ∷ bs); text = b ∷ take t bs })
    (tokens_after n (at + 1) t bs) us (lexemes_after t bs) ls refl
    (ap (λ text. record { kind = kind_of (b ∷ bs); text = text }) (token_text at t b whole bs more place (tail_len-le b bs)))
    (by_line-part whole n (at + 1) t bs more us ls (drop_next at b whole (bs ++ more) place) told after)
    after

pub line_parts : (l rest : List ℕ) → l ++ rest ≡ outside l ++ (drop (length (outside l)) l ++ rest)
line_parts l rest =
    ap (λ xs. xs ++ rest) (sym (take-append-drop (length (outside l)) l) ∙ ap (λ xs. xs ++ drop (length (outside l)) l) (outside-take l))
    ∙ append_assoc (outside l) (drop (length (outside l)) l) rest

pub next_line : (at : ℕ) (whole l rest : List ℕ) → drop at whole ≡ l ++ rest → drop (at + length l) whole ≡ rest
next_line at whole l rest place = sym (drop-drop (length l) at whole) ∙ ap (drop (length l)) place ∙ drop_at l rest (length l) refl

by_line-lines : (whole more : List ℕ) (n at : ℕ) (ls : List (List ℕ)) → drop at whole ≡ flat_map (λ l. l) ls ++ more
    → by_line whole (tokens_of_lines n at ls) ≡ token_lines_from n ls
by_line-lines whole more n at [] place = refl
by_line-lines whole more n at (l ∷ ls) place =
    let rest = flat_map (λ k. k) ls ++ more in
    let from_here : drop at whole ≡ l ++ rest = place ∙ append_assoc l (flat_map (λ k. k) ls) more in
    by_line-part whole n at 0 (outside l) (drop (length (outside l)) l ++ rest) (tokens_of_lines (n + 1) (at + length l) ls) (token_lines_from (n + 1) ls)
    (from_here ∙ line_parts l rest) (by_line-lines whole more (n + 1) (at + length l) ls (next_line at whole l rest from_here)) (AreAfter-token_lines n (n + 1) ls (omega arith))

-- the tokens of the front of a text, line by line, are its lines with tokens
pub by_line-tokens_of : (bytes front more : List ℕ) → bytes ≡ front ++ more → by_line bytes (tokens_of front) ≡ token_lines front
by_line-tokens_of bytes front more h =
    by_line-lines bytes more 1 0 (text_lines front) (h ∙ ap (λ xs. xs ++ more) (sym (concat-text_lines front)))
