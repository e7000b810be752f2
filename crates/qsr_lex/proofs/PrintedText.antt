-- Tokens that are printed with one space between are read again.
use Rattle.std.proofs.Common.{◌≡◌, ℕ, suc, ◌+◌, ◌⊎◌, inl, inr, ◌==◌, Bool, true, false, not, ◌&&◌, ◌||◌, cond, nat_le, List, [], ◌∷◌, ◌++◌, length, take, map, Some, None, refl, sym, ap, ◌∙◌, arith, append_assoc}
use Rattle.std.specs.List.{list_all, prefix_len}
use Rattle.std.proofs.lemmas.List.{take_at, append-nil, length-map}
use Rattle.std.proofs.lemmas.Bool.{and_parts}
use Rattle.std.proofs.lemmas.Bool.Decides.{nat_tests}
use Rattle.qsr_lex.specs.Bytes.{is_hash, is_blank, is_mark, is_allowed, is_plain, is_word_byte}
use Rattle.qsr_lex.specs.TextLines.{add_byte, text_lines, outside, is_clean, bad_line_from}
use Rattle.qsr_lex.specs.Lexemes.{lexemes, lexemes_after, tail_len, kind_of, starts_with_colon}
use Rattle.qsr_lex.specs.declared.tokens.TokenKind.{TokenKind}
use Rattle.qsr_lex.specs.declared.tokens.TokenKind.TheVariants.{Word, Open, Close, Comma, Colon, Colons, Stop}
use Rattle.qsr_lex.specs.TokenLines.{token_lines_from, add_line}
use Rattle.qsr_lex.proofs.Scanning.{add_byte-lf}
use Rattle.qsr_lex.proofs.Spans.{length-text_lines}
use Rattle.qsr_lex.proofs.FirstLines.{plain_byte, no_end}
use Rattle.qsr_lex.specs.Printed.{is_mark_text, is_word_char, is_token_text, are_tokens, lexeme_from, IsReadAgain, spaced, printed_line, printed, printed_token_lines}

-- no token goes on here: the text ends, or a blank follows
record Ends (rest : List ℕ) : Type 0 where
  word : prefix_len is_word_byte rest ≡ 0
  colon : starts_with_colon rest ≡ false

-- what is known of a token's text
record IsToken (b : ℕ) (bs : List ℕ) : Type 0 where
  blank : is_blank b ≡ false
  tail : (rest : List ℕ) → Ends rest → tail_len (b ∷ (bs ++ rest)) ≡ length bs
  plain : list_all is_plain (b ∷ bs) ≡ true

no_word : (x y z : Bool) → not (x || y || z) ≡ true → (x ≡ false) × (z ≡ false)
no_word true y z h = cc
no_word false true z h = cc
no_word false false true h = cc
no_word false false false h = (refl, refl)

plain_word : (a x y z : Bool) → (a && not (x || y || z)) ≡ true → (a && not z) ≡ true
plain_word false x y z h = h
plain_word true true y z h = cc
plain_word true false true z h = cc
plain_word true false false z h = h

plain_word_bytes : (bs : List ℕ) → list_all is_word_char bs ≡ true → list_all is_plain bs ≡ true
plain_word_bytes [] h = refl
plain_word_bytes (b ∷ bs) h =
    let parts = and_parts (is_word_char b) (list_all is_word_char bs) h in
    ap (λ c. c && list_all is_plain bs) (plain_word (is_allowed b) (is_blank b) (is_mark b) (is_hash b) parts.0) ∙ plain_word_bytes bs parts.1

-- a word goes on to where its bytes end
pub word_run : (bs rest : List ℕ) → list_all is_word_char bs ≡ true → prefix_len is_word_byte rest ≡ 0 → prefix_len is_word_byte (bs ++ rest) ≡ length bs
word_run [] rest h e = e
word_run (b ∷ bs) rest h e =
    let parts = and_parts (is_word_char b) (list_all is_word_char bs) h in
    let word = (and_parts (is_allowed b) (is_word_byte b) parts.0).1 in
    let further : 1 + length bs ≡ suc (length bs) = omega arith in
    ap (λ c. cond c (1 + prefix_len is_word_byte (bs ++ rest)) 0) word ∙ ap (λ n. 1 + n) (word_run bs rest parts.1 e) ∙ further

IsToken-word : (b : ℕ) (bs : List ℕ) → list_all is_word_char (b ∷ bs) ≡ true → IsToken b bs
IsToken-word b bs h =
    let parts = and_parts (is_word_char b) (list_all is_word_char bs) h in
    let word = (and_parts (is_allowed b) (is_word_byte b) parts.0).1 in
    record {
      blank = (no_word (is_blank b) (is_mark b) (is_hash b) word).0;
      tail = λ rest ends. ap (λ c. cond c (prefix_len is_word_byte (bs ++ rest)) (cond ((b == 58) && starts_with_colon (bs ++ rest)) 1 0)) word ∙ word_run bs rest parts.1 ends.word;
      plain = plain_word_bytes (b ∷ bs) h;
    }

mark_facts : (b : ℕ) → is_mark b ≡ true → (is_blank b ≡ false) × (is_word_byte b ≡ false) × (is_plain b ≡ true)
mark_facts b h = (grind (arith, nat_tests), grind (arith, nat_tests), grind (arith, nat_tests))

and_false : (x : Bool) → (x && false) ≡ false
and_false true = refl
and_false false = refl

IsToken-mark : (b : ℕ) → is_mark b ≡ true → IsToken b []
IsToken-mark b h =
    let facts = mark_facts b h in
    record {
      blank = facts.0;
      tail = λ rest ends.
          ap (λ c. cond c (prefix_len is_word_byte rest) (cond ((b == 58) && starts_with_colon rest) 1 0)) facts.1
          ∙ ap (λ c. cond ((b == 58) && c) 1 0) ends.colon ∙ ap (λ c. cond c 1 0) (and_false (b == 58));
      plain = ap (λ c. c && true) facts.2;
    }

colon_facts : (b : ℕ) → (b == 58) ≡ true → (is_blank b ≡ false) × (is_word_byte b ≡ false) × (is_plain b ≡ true)
colon_facts b h = (grind (arith, nat_tests), grind (arith, nat_tests), grind (arith, nat_tests))

IsToken-colons : (b c : ℕ) → (b == 58) ≡ true → (c == 58) ≡ true → IsToken b (c ∷ [])
IsToken-colons b c h k =
    let first = colon_facts b h in
    let second = colon_facts c k in
    record {
      blank = first.0;
      tail = λ rest ends.
          ap (λ d. cond d (prefix_len is_word_byte (c ∷ rest)) (cond ((b == 58) && (c == 58)) 1 0)) first.1
          ∙ ap (λ d. cond (d && (c == 58)) 1 0) h ∙ ap (λ d. cond d 1 0) k;
      plain = ap (λ d. d && (is_plain c && true)) first.2 ∙ ap (λ d. d && true) second.2;
    }

-- which of the two a token is
mark_token : (b : ℕ) (bs : List ℕ) → is_mark_text (b ∷ bs) ≡ true → IsToken b bs
mark_token b [] h = IsToken-mark b h
mark_token b (c ∷ []) h =
    let parts = and_parts ((b == 58) && (c == 58)) true h in
    let colons = and_parts (b == 58) (c == 58) parts.0 in
    IsToken-colons b c colons.0 colons.1
mark_token b (c ∷ d ∷ ds) h =
    let parts = and_parts ((b == 58) && (c == 58)) (nat_le (length (d ∷ ds)) 0) h in
    absurd (grind (arith, nat_tests, parts.1))

either : (x y : Bool) → (x || y) ≡ true → (x ≡ true) ⊎ (y ≡ true)
either true y h = inl refl
either false y h = inr h

IsToken-from_test : (b : ℕ) (bs : List ℕ) → is_token_text (b ∷ bs) ≡ true → IsToken b bs
IsToken-from_test b bs h =
    elim (either (is_mark_text (b ∷ bs)) (nat_le 1 (length (b ∷ bs)) && list_all is_word_char (b ∷ bs)) h) [
      | inl m ↦ mark_token b bs m
      | inr w ↦ IsToken-word b bs (and_parts (nat_le 1 (length (b ∷ bs))) (list_all is_word_char (b ∷ bs)) w).1
    ]

-- what follows a token doesn't change what it is
more_run : (c : Bool) (m n : ℕ) → (cond c (1 + m) 0 == 0) ≡ (cond c (1 + n) 0 == 0)
more_run true m n = grind (arith, nat_tests)
more_run false m n = refl

same_stop : (bs rest : List ℕ) → Ends rest → (prefix_len is_word_byte (bs ++ rest) == 0) ≡ (prefix_len is_word_byte bs == 0)
same_stop [] rest ends = ap (λ n. n == 0) ends.word
same_stop (b ∷ bs) rest ends = more_run (is_word_byte b) (prefix_len is_word_byte (bs ++ rest)) (prefix_len is_word_byte bs)

same_colon : (bs rest : List ℕ) → Ends rest → starts_with_colon (bs ++ rest) ≡ starts_with_colon bs
same_colon [] rest ends = ends.colon
same_colon (b ∷ bs) rest ends = refl

abbrev pub kind_by : ℕ → Bool → Bool → TokenKind
kind_by b colon stop =
    cond (b == 40) Open (cond (b == 41) Close (cond (b == 44) Comma (cond (b == 58) (cond colon Colons Colon) (cond ((b == 46) && stop) Stop Word))))

kind_of-before : (b : ℕ) (bs rest : List ℕ) → Ends rest → kind_of (b ∷ (bs ++ rest)) ≡ kind_of (b ∷ bs)
kind_of-before b bs rest ends =
    ap (λ c. kind_by b c (prefix_len is_word_byte (bs ++ rest) == 0)) (same_colon bs rest ends)
    ∙ ap (λ c. kind_by b (starts_with_colon bs) c) (same_stop bs rest ends)

lexemes_after-all : (bs rest : List ℕ) → lexemes_after (length bs) (bs ++ rest) ≡ lexemes_after 0 rest
lexemes_after-all [] rest = refl
lexemes_after-all (b ∷ bs) rest = lexemes_after-all bs rest

-- a token, and what stands after it
lexemes-token : (b : ℕ) (bs rest : List ℕ) → IsToken b bs → Ends rest → lexemes_after 0 (b ∷ (bs ++ rest)) ≡ lexeme_from (b ∷ bs) ∷ lexemes_after 0 rest
lexemes-token b bs rest is ends =
    let long = is.tail rest ends in
    ap (λ c. cond c [] (record { kind = kind_of (b ∷ (bs ++ rest)); text = b ∷ take (tail_len (b ∷ (bs ++ rest))) (bs ++ rest) } ∷ []) ++ lexemes_after (tail_len (b ∷ (bs ++ rest))) (bs ++ rest)) is.blank
    ∙ ap (λ n. record { kind = kind_of (b ∷ (bs ++ rest)); text = b ∷ take n (bs ++ rest) } ∷ lexemes_after n (bs ++ rest)) long
    ∙ ap (λ k. record { kind = k; text = b ∷ take (length bs) (bs ++ rest) } ∷ lexemes_after (length bs) (bs ++ rest)) (kind_of-before b bs rest ends)
    ∙ ap (λ text. record { kind = kind_of (b ∷ bs); text = b ∷ text } ∷ lexemes_after (length bs) (bs ++ rest)) (take_at bs rest (length bs) refl)
    ∙ ap (λ xs. lexeme_from (b ∷ bs) ∷ xs) (lexemes_after-all bs rest)

lexemes-first : (w rest : List ℕ) → is_token_text w ≡ true → Ends rest → lexemes_after 0 (w ++ rest) ≡ lexeme_from w ∷ lexemes_after 0 rest
lexemes-first [] rest h ends = cc
lexemes-first (b ∷ bs) rest h ends = lexemes-token b bs rest (IsToken-from_test b bs h) ends

-- the tokens that are printed are those that are read
pub lexemes-spaced : (ws : List (List ℕ)) → list_all is_token_text ws ≡ true → lexemes (spaced ws) ≡ map lexeme_from ws
lexemes-spaced [] h = refl
lexemes-spaced (w ∷ []) h =
    let parts = and_parts (is_token_text w) true h in
    ap (lexemes_after 0) (sym (append-nil w)) ∙ lexemes-first w [] parts.0 (record { word = refl; colon = refl })
lexemes-spaced (w ∷ v ∷ ws) h =
    let parts = and_parts (is_token_text w) (list_all is_token_text (v ∷ ws)) h in
    lexemes-first w (32 ∷ spaced (v ∷ ws)) parts.0 (record { word = refl; colon = refl })
    ∙ ap (λ xs. lexeme_from w ∷ xs) (lexemes-spaced (v ∷ ws) parts.1)

all_append : (p : ℕ → Bool) (xs ys : List ℕ) → list_all p xs ≡ true → list_all p ys ≡ true → list_all p (xs ++ ys) ≡ true
all_append p [] ys h k = k
all_append p (x ∷ xs) ys h k =
    let parts = and_parts (p x) (list_all p xs) h in
    ap (λ c. c && list_all p (xs ++ ys)) parts.0 ∙ all_append p xs ys parts.1 k

plain_token : (w : List ℕ) → is_token_text w ≡ true → list_all is_plain w ≡ true
plain_token [] h = refl
plain_token (b ∷ bs) h = (IsToken-from_test b bs h).plain

plain_spaced : (ws : List (List ℕ)) → are_tokens ws ≡ true → list_all is_plain (spaced ws) ≡ true
plain_spaced [] h = refl
plain_spaced (w ∷ []) h = plain_token w (and_parts (is_token_text w) true h).0
plain_spaced (w ∷ v ∷ ws) h =
    let parts = and_parts (is_token_text w) (are_tokens (v ∷ ws)) h in
    all_append is_plain w (32 ∷ spaced (v ∷ ws)) (plain_token w parts.0) (plain_spaced (v ∷ ws) parts.1)

outside-plain : (bs : List ℕ) → list_all is_plain bs ≡ true → outside (bs ++ 10 ∷ []) ≡ bs
outside-plain [] h = refl
outside-plain (b ∷ bs) h =
    let parts = and_parts (is_plain b) (list_all is_plain bs) h in
    ap (λ c. cond c [] (b ∷ outside (bs ++ 10 ∷ []))) (no_end b (bs ++ 10 ∷ []) parts.0) ∙ ap (λ xs. b ∷ xs) (outside-plain bs parts.1)

allowed_plain : (bs : List ℕ) → list_all is_plain bs ≡ true → list_all is_allowed bs ≡ true
allowed_plain [] h = refl
allowed_plain (b ∷ bs) h =
    let parts = and_parts (is_plain b) (list_all is_plain bs) h in
    ap (λ c. c && list_all is_allowed bs) (plain_byte b parts.0).3 ∙ allowed_plain bs parts.1

text_lines-plain : (bs rest : List ℕ) → list_all is_plain bs ≡ true → text_lines (bs ++ 10 ∷ rest) ≡ (bs ++ 10 ∷ []) ∷ text_lines rest
text_lines-plain [] rest h = add_byte-lf 10 (text_lines rest) refl
text_lines-plain (b ∷ bs) rest h =
    let parts = and_parts (is_plain b) (list_all is_plain bs) h in
    ap (add_byte b) (text_lines-plain bs rest parts.1)
    ∙ ap (λ c. cond c ((b ∷ []) ∷ (bs ++ 10 ∷ []) ∷ text_lines rest) ((b ∷ (bs ++ 10 ∷ [])) ∷ text_lines rest)) (plain_byte b parts.0).0

pub text_lines-printed : (text : List (List (List ℕ))) → list_all are_tokens text ≡ true → text_lines (printed text) ≡ map printed_line text
text_lines-printed [] h = refl
text_lines-printed (ws ∷ text) h =
    let parts = and_parts (are_tokens ws) (list_all are_tokens text) h in
    ap text_lines (append_assoc (spaced ws) (10 ∷ []) (printed text))
    ∙ text_lines-plain (spaced ws) (printed text) (plain_spaced ws parts.0)
    ∙ ap (λ ls. printed_line ws ∷ ls) (text_lines-printed text parts.1)

clean_printed : (ws : List (List ℕ)) → are_tokens ws ≡ true → is_clean (printed_line ws) ≡ true
clean_printed ws h =
    let plain = plain_spaced ws h in
    ap (list_all is_allowed) (outside-plain (spaced ws) plain) ∙ allowed_plain (spaced ws) plain

bad_line-printed : (n : ℕ) (text : List (List (List ℕ))) → list_all are_tokens text ≡ true → bad_line_from n (map printed_line text) ≡ None
bad_line-printed n [] h = refl
bad_line-printed n (ws ∷ text) h =
    let parts = and_parts (are_tokens ws) (list_all are_tokens text) h in
    ap (λ c. cond c (bad_line_from (n + 1) (map printed_line text)) (Some n)) (clean_printed ws parts.0) ∙ bad_line-printed (n + 1) text parts.1

token_lines-printed : (n : ℕ) (text : List (List (List ℕ))) → list_all are_tokens text ≡ true → token_lines_from n (map printed_line text) ≡ printed_token_lines n text
token_lines-printed n [] h = refl
token_lines-printed n (ws ∷ text) h =
    let parts = and_parts (are_tokens ws) (list_all are_tokens text) h in
    ap (λ xs. add_line n (lexemes xs) (token_lines_from (n + 1) (map printed_line text))) (outside-plain (spaced ws) (plain_spaced ws parts.0))
    ∙ ap (λ xs. add_line n xs (token_lines_from (n + 1) (map printed_line text))) (lexemes-spaced ws parts.0)
    ∙ ap (add_line n (map lexeme_from ws)) (token_lines-printed (n + 1) text parts.1)

-- what is printed of tokens is read as these tokens
pub IsReadAgain-from_tokens : (text : List (List (List ℕ))) → list_all are_tokens text ≡ true → IsReadAgain text
IsReadAgain-from_tokens text h =
    let cut = text_lines-printed text h in
    record {
      clean = ap (bad_line_from 1) cut ∙ bad_line-printed 1 text h;
      count = sym (length-text_lines (printed text)) ∙ ap length cut ∙ length-map text printed_line;
      lines = ap (token_lines_from 1) cut ∙ token_lines-printed 1 text h;
    }
