-- The bytes of the tokens are those that stand outside comments, without the blanks.
use Rattle.std.proofs.Common.{◌≡◌, ℕ, zero, suc, ◌+◌, ◌-◌, ◌==◌, Bool, true, false, not, ◌&&◌, ◌||◌, cond, List, [], ◌∷◌, ◌++◌, length, take, drop, refl, sym, ap, ◌∙◌, arith, append_assoc}
use Rattle.std.specs.List.{filter, flat_map, prefix_len}
use Rattle.std.proofs.lemmas.Bool.{and_parts}
use Rattle.std.proofs.lemmas.Bool.Decides.{nat_tests}
use Rattle.std.proofs.lemmas.Grind.{flat_map-append}
use Rattle.std.proofs.lemmas.List.Elements.{filter-append}
use Rattle.qsr_lex.specs.Bytes.{is_blank, is_mark, is_hash, is_word_byte}
use Rattle.qsr_lex.specs.TextLines.{text_lines, outside}
use Rattle.qsr_lex.specs.Lexemes.{tail_len, kind_of, starts_with_colon}
use Rattle.qsr_lex.specs.Tokens.{tokens_after, tokens_of_lines, tokens_of, token_bytes, shown_bytes, is_shown}
use Rattle.qsr_lex.specs.declared.tokens.Token.{Token}
use Rattle.qsr_lex.proofs.Spans.{concat-text_lines, tail_len-le}
use Rattle.qsr_lex.proofs.Grouping.{drop_next, token_text, line_parts, next_line}

-- a blank is a token of its own length
blank_tail : (b : ℕ) (bs : List ℕ) → is_blank b ≡ true → tail_len (b ∷ bs) ≡ 0
blank_tail b bs h =
    let colon : (b == 58) ≡ false = grind (arith, nat_tests) in
    ap (λ c. cond (not (c || is_mark b || is_hash b)) (prefix_len is_word_byte bs) (cond ((b == 58) && starts_with_colon bs) 1 0)) h
    ∙ ap (λ c. cond (c && starts_with_colon bs) 1 0) colon

no_blank : (x y z : Bool) → not (x || y || z) ≡ true → not x ≡ true
no_blank true y z h = cc
no_blank false y z h = refl

-- the bytes of a word are shown
shown_byte : (c : Bool) (b n : ℕ) (bs : List ℕ) → (c ≡ true → is_shown b ≡ true) → take n bs ++ filter is_shown (drop n bs) ≡ filter is_shown bs
    → take (cond c (1 + n) 0) (b ∷ bs) ++ filter is_shown (drop (cond c (1 + n) 0) (b ∷ bs)) ≡ filter is_shown (b ∷ bs)
shown_byte true b n bs shown h =
    let further : 1 + n ≡ suc n = omega arith in
    ap (λ k. take k (b ∷ bs) ++ filter is_shown (drop k (b ∷ bs))) further
    ∙ ap (λ xs. b ∷ xs) h
    ∙ ap (λ c. cond c (b ∷ filter is_shown bs) (filter is_shown bs)) (sym (shown refl))
shown_byte false b n bs shown h = refl

run_shown : (bs : List ℕ) → take (prefix_len is_word_byte bs) bs ++ filter is_shown (drop (prefix_len is_word_byte bs) bs) ≡ filter is_shown bs
run_shown [] = refl
run_shown (b ∷ bs) =
    shown_byte (is_word_byte b) b (prefix_len is_word_byte bs) bs (no_blank (is_blank b) (is_mark b) (is_hash b)) (run_shown bs)

colon_shown : (b : ℕ) → (b == 58) ≡ true → is_shown b ≡ true
colon_shown b h = grind (arith, nat_tests)

second_colon : (c : Bool) (bs : List ℕ) → (c && starts_with_colon bs) ≡ true → take 1 bs ++ filter is_shown (drop 1 bs) ≡ filter is_shown bs
second_colon c [] h = refl
second_colon c (b ∷ bs) h =
    ap (λ d. cond d (b ∷ filter is_shown bs) (filter is_shown bs)) (sym (colon_shown b (and_parts c (b == 58) h).1))

tail_shown : (c d : Bool) (bs : List ℕ) → (d ≡ true → take 1 bs ++ filter is_shown (drop 1 bs) ≡ filter is_shown bs)
    → take (cond c (prefix_len is_word_byte bs) (cond d 1 0)) bs ++ filter is_shown (drop (cond c (prefix_len is_word_byte bs) (cond d 1 0)) bs) ≡ filter is_shown bs
tail_shown true d bs h = run_shown bs
tail_shown false true bs h = h refl
tail_shown false false bs h = refl

token_shown : (b : ℕ) (bs : List ℕ) → take (tail_len (b ∷ bs)) bs ++ filter is_shown (drop (tail_len (b ∷ bs)) bs) ≡ filter is_shown bs
token_shown b bs = tail_shown (is_word_byte b) ((b == 58) && starts_with_colon bs) bs (second_colon (b == 58) bs)

-- the token at the front, and those after it
bytes_here : (c : Bool) (whole : List ℕ) (t : Token) (ts : List Token) (b n : ℕ) (bs : List ℕ) → is_blank b ≡ c
    → take (t.end - t.start) (drop t.start whole) ≡ b ∷ take n bs
    → token_bytes whole ts ≡ filter is_shown (drop n bs) → (c ≡ true → n ≡ 0)
    → take n bs ++ filter is_shown (drop n bs) ≡ filter is_shown bs
    → token_bytes whole (cond c [] (t ∷ []) ++ ts) ≡ filter is_shown (b ∷ bs)
bytes_here true whole t ts b n bs blank text told none shown =
    told ∙ ap (λ k. filter is_shown (drop k bs)) (none refl) ∙ ap (λ c. cond (not c) (b ∷ filter is_shown bs) (filter is_shown bs)) (sym blank)
bytes_here false whole t ts b n bs blank text told none shown =
    ap (λ xs. xs ++ token_bytes whole ts) text ∙ ap (λ xs. b ∷ (take n bs ++ xs)) told ∙ ap (λ xs. b ∷ xs) shown
    ∙ ap (λ c. cond (not c) (b ∷ filter is_shown bs) (filter is_shown bs)) (sym blank)

token_bytes-part : (whole : List ℕ) (n at skip : ℕ) (part more : List ℕ) → drop at whole ≡ part ++ more
    → token_bytes whole (tokens_after n at skip part) ≡ filter is_shown (drop skip part)
token_bytes-part whole n at zero [] more place = refl
token_bytes-part whole n at (suc skip) [] more place = refl
token_bytes-part whole n at (suc skip) (b ∷ bs) more place = token_bytes-part whole n (at + 1) skip bs more (drop_next at b whole (bs ++ more) place)
token_bytes-part whole n at zero (b ∷ bs) more place =
    let t = tail_len (b ∷ bs) in
    bytes_here (is_blank b) whole (record { line = n; start = at; end = at + (1 + t); kind = kind_of (b ∷ bs) }) (tokens_after n (at + 1) t bs) b t bs refl
    (token_text at t b whole bs more place (tail_len-le b bs)) (token_bytes-part whole n (at + 1) t bs more (drop_next at b whole (bs ++ more) place))
    (blank_tail b bs) (token_shown b bs)

token_bytes-lines : (whole more : List ℕ) (n at : ℕ) (ls : List (List ℕ)) → drop at whole ≡ flat_map (λ l. l) ls ++ more
    → token_bytes whole (tokens_of_lines n at ls) ≡ filter is_shown (flat_map outside ls)
token_bytes-lines whole more n at [] place = refl
token_bytes-lines whole more n at (l ∷ ls) place =
    let rest = flat_map (λ k. k) ls ++ more in
    let from_here : drop at whole ≡ l ++ rest = place ∙ append_assoc l (flat_map (λ k. k) ls) more in
    flat_map-append (λ t. take (t.end - t.start) (drop t.start whole)) (tokens_after n at 0 (outside l)) (tokens_of_lines (n + 1) (at + length l) ls)
    ∙ ap (λ xs. xs ++ token_bytes whole (tokens_of_lines (n + 1) (at + length l) ls))
    (token_bytes-part whole n at 0 (outside l) (drop (length (outside l)) l ++ rest) (from_here ∙ line_parts l rest))
    ∙ ap (λ xs. filter is_shown (outside l) ++ xs) (token_bytes-lines whole more (n + 1) (at + length l) ls (next_line at whole l rest from_here))
    ∙ sym (filter-append is_shown (outside l) (flat_map outside ls))

-- no byte of the front of a text is lost
pub token_bytes-tokens_of : (bytes front more : List ℕ) → bytes ≡ front ++ more → token_bytes bytes (tokens_of front) ≡ shown_bytes front
token_bytes-tokens_of bytes front more h =
    token_bytes-lines bytes more 1 0 (text_lines front) (h ∙ ap (λ xs. xs ++ more) (sym (concat-text_lines front)))
