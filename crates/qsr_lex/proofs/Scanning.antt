-- How the lines of a text and the tokens of a line come off its front.
use Rattle.std.proofs.Common.{◌≡◌, ℕ, zero, suc, ◌+◌, ◌<◌, ◌≤◌, Bool, true, false, cond, List, [], ◌∷◌, ◌++◌, length, take, drop, Some, refl, sym, ◌∙◌, ap, arith, append_assoc}
use Rattle.qsr_lex.specs.Bytes.{is_lf}
use Rattle.qsr_lex.specs.TextLines.{add_byte, text_lines, first_line_len, first_line, after_first_line, starts_with_end, outside, is_clean, bad_line_from, IsFirstLine}
use Rattle.qsr_lex.specs.Lexemes.{tail_len}
use Rattle.qsr_lex.specs.Tokens.{token_here, tokens_after, tokens_of_lines}
use Rattle.qsr_lex.specs.declared.tokens.Token.{Token}

-- what stands outside comments is the front of the line
outside_take-byte : (c : Bool) (b : ℕ) (bs xs : List ℕ) → take (length xs) bs ≡ xs → take (length (cond c [] (b ∷ xs))) (b ∷ bs) ≡ cond c [] (b ∷ xs)
outside_take-byte true b bs xs h = refl
outside_take-byte false b bs xs h = ap (λ ys. b ∷ ys) h

pub outside-take : (bs : List ℕ) → take (length (outside bs)) bs ≡ outside bs
outside-take [] = refl
outside-take (b ∷ bs) = outside_take-byte (starts_with_end (b ∷ bs)) b bs (outside bs) (outside-take bs)

length_outside-byte : (c : Bool) (b : ℕ) (bs xs : List ℕ) → length xs ≤ length bs → length (cond c [] (b ∷ xs)) ≤ length (b ∷ bs)
length_outside-byte true b bs xs h = omega arith
length_outside-byte false b bs xs h = omega arith

pub length-outside-le : (bs : List ℕ) → length (outside bs) ≤ length bs
length-outside-le [] = omega arith
length-outside-le (b ∷ bs) = length_outside-byte (starts_with_end (b ∷ bs)) b bs (outside bs) (length-outside-le bs)

-- bytes that belong to a token before are passed over
pub tokens_after-skip : (line at skip : ℕ) (bs : List ℕ) → tokens_after line at skip bs ≡ tokens_after line (at + skip) 0 (drop skip bs)
tokens_after-skip line at zero bs = let e : at ≡ at + 0 = omega arith in ap (λ n. tokens_after line n 0 bs) e
tokens_after-skip line at (suc skip) [] = refl
tokens_after-skip line at (suc skip) (b ∷ bs) =
    let e : at + 1 + skip ≡ at + suc skip = omega arith in
    tokens_after-skip line (at + 1) skip bs ∙ ap (λ n. tokens_after line n 0 (drop skip bs)) e

after_token : (line at t b : ℕ) (bs : List ℕ) → tokens_after line (at + 1 + t) 0 (drop t bs) ≡ tokens_after line (at + (1 + t)) 0 (drop (1 + t) (b ∷ bs))
after_token line at t b bs =
    let further : suc t ≡ 1 + t = omega arith in
    let place : at + 1 + t ≡ at + (1 + t) = omega arith in
    ap (λ n. tokens_after line n 0 (drop t bs)) place ∙ ap (λ n. tokens_after line (at + (1 + t)) 0 (drop n (b ∷ bs))) further

-- the token at the front, and those after it
pub tokens_after-front : (line at : ℕ) (bs : List ℕ) → 0 < length bs → tokens_after line at 0 bs ≡ token_here line at bs ++ tokens_after line (at + (1 + tail_len bs)) 0 (drop (1 + tail_len bs) bs)
tokens_after-front line at [] h = absurd (omega arith)
tokens_after-front line at (b ∷ bs) h =
    ap (λ ts. token_here line at (b ∷ bs) ++ ts) (tokens_after-skip line (at + 1) (tail_len (b ∷ bs)) bs ∙ after_token line at (tail_len (b ∷ bs)) b bs)

-- an LF is a line of its own
pub add_byte-lf : (b : ℕ) (ls : List (List ℕ)) → is_lf b ≡ true → add_byte b ls ≡ (b ∷ []) ∷ ls
add_byte-lf b [] h = refl
add_byte-lf b (l ∷ ls) h = ap (λ c. cond c ((b ∷ []) ∷ l ∷ ls) ((b ∷ l) ∷ ls)) h

-- the first line, and those after it
text_lines-byte : (c : Bool) (b n : ℕ) (bs : List ℕ) → text_lines bs ≡ take n bs ∷ text_lines (drop n bs)
    → cond c ((b ∷ []) ∷ take n bs ∷ text_lines (drop n bs)) ((b ∷ take n bs) ∷ text_lines (drop n bs)) ≡ take (cond c 1 (1 + n)) (b ∷ bs) ∷ text_lines (drop (cond c 1 (1 + n)) (b ∷ bs))
text_lines-byte true b n bs h = ap (λ ls. (b ∷ []) ∷ ls) (sym h)
text_lines-byte false b n bs h = let e : suc n ≡ 1 + n = omega arith in ap (λ k. take k (b ∷ bs) ∷ text_lines (drop k (b ∷ bs))) e

only_line : (c : Bool) (b : ℕ) → (b ∷ []) ∷ [] ≡ take (cond c 1 (1 + 0)) (b ∷ []) ∷ text_lines (drop (cond c 1 (1 + 0)) (b ∷ []))
only_line true b = refl
only_line false b = refl

pub text_lines-front : (bs : List ℕ) → 0 < length bs → text_lines bs ≡ take (first_line_len bs) bs ∷ text_lines (drop (first_line_len bs) bs)
text_lines-front [] h = absurd (omega arith)
text_lines-front (b ∷ []) h = only_line (is_lf b) b
text_lines-front (b ∷ c ∷ cs) h =
    let below = text_lines-front (c ∷ cs) (omega arith) in
    ap (add_byte b) below ∙ text_lines-byte (is_lf b) b (first_line_len (c ∷ cs)) (c ∷ cs) below

-- a line has at least one byte, and no more than there are
line_len-byte : (c : Bool) (b n : ℕ) (bs : List ℕ) → n ≤ length bs → (0 < cond c 1 (1 + n)) × (cond c 1 (1 + n) ≤ length (b ∷ bs))
line_len-byte true b n bs h = (omega arith, omega arith)
line_len-byte false b n bs h = (omega arith, omega arith)

pub first_line_len-le : (bs : List ℕ) → first_line_len bs ≤ length bs
first_line_len-le [] = omega arith
first_line_len-le (b ∷ bs) = (line_len-byte (is_lf b) b (first_line_len bs) bs (first_line_len-le bs)).1

pub first_line_len-pos : (bs : List ℕ) → 0 < length bs → 0 < first_line_len bs
first_line_len-pos [] h = absurd (omega arith)
first_line_len-pos (b ∷ bs) h = (line_len-byte (is_lf b) b (first_line_len bs) bs (first_line_len-le bs)).0

-- the tokens so far, those of the next line, and those of the lines after it
pub tokens-step : (sofar now all : List Token) (n at next : ℕ) (rest part after : List ℕ)
    → sofar ++ tokens_of_lines n at (text_lines rest) ≡ all → 0 < length rest → IsFirstLine rest part after
    → next ≡ at + length (first_line rest)
    → now ≡ sofar ++ tokens_after n at 0 part → now ++ tokens_of_lines (n + 1) next (text_lines after) ≡ all
tokens-step sofar now all n at next rest part after told some is is_next pushed =
    let front : tokens_of_lines n at (text_lines rest) ≡ tokens_after n at 0 part ++ tokens_of_lines (n + 1) next (text_lines after) =
    ap (tokens_of_lines n at) (text_lines-front rest some)
    ∙ ap (λ p. tokens_after n at 0 p ++ tokens_of_lines (n + 1) (at + length (first_line rest)) (text_lines (after_first_line rest))) (sym is.is_part)
    ∙ ap (λ k. tokens_after n at 0 part ++ tokens_of_lines (n + 1) k (text_lines (after_first_line rest))) (sym is_next)
    ∙ ap (λ bs. tokens_after n at 0 part ++ tokens_of_lines (n + 1) next (text_lines bs)) (sym is.is_after) in
    let regrouped = append_assoc sofar (tokens_after n at 0 part) (tokens_of_lines (n + 1) next (text_lines after)) in
    cc (front, regrouped)

-- the next line is clean, so a bad one comes after it
pub bad-step : (n : ℕ) (rest part after : List ℕ) → 0 < length rest → IsFirstLine rest part after
    → bad_line_from n (text_lines rest) ≡ bad_line_from (n + 1) (text_lines after)
bad-step n rest part after some is =
    ap (bad_line_from n) (text_lines-front rest some)
    ∙ ap (λ c. cond c (bad_line_from (n + 1) (text_lines (after_first_line rest))) (Some n)) is.clean
    ∙ ap (λ bs. bad_line_from (n + 1) (text_lines bs)) (sym is.is_after)

-- the next line is bad
pub bad-here : (n : ℕ) (rest : List ℕ) → 0 < length rest → is_clean (first_line rest) ≡ false → bad_line_from n (text_lines rest) ≡ Some n
bad-here n rest some bad =
    ap (bad_line_from n) (text_lines-front rest some)
    ∙ ap (λ c. cond c (bad_line_from (n + 1) (text_lines (after_first_line rest))) (Some n)) bad

-- one line more
pub count-step : (rest part after : List ℕ) → 0 < length rest → IsFirstLine rest part after → length (text_lines rest) ≡ 1 + length (text_lines after)
count-step rest part after some is =
    let further : suc (length (text_lines after)) ≡ 1 + length (text_lines after) = omega arith in
    ap length (text_lines-front rest some) ∙ ap (λ bs. suc (length (text_lines bs))) (sym is.is_after) ∙ further

-- the tokens so far, the one at the front, and those after it
pub line_tokens-step : (sofar now all : List Token) (n at taken : ℕ) (rest after : List ℕ)
    → sofar ++ tokens_after n at 0 rest ≡ all → 0 < length rest
    → taken ≡ 1 + tail_len rest → after ≡ drop taken rest
    → now ≡ sofar ++ token_here n at rest → now ++ tokens_after n (at + taken) 0 after ≡ all
line_tokens-step sofar now all n at taken rest after told some is_taken is_after pushed =
    let front = tokens_after-front n at rest some in
    let regrouped = append_assoc sofar (token_here n at rest) (tokens_after n (at + taken) 0 after) in
    cc (front, regrouped)

-- nothing is left
pub none_left : (rest : List ℕ) → length rest ≡ 0 → rest ≡ []
none_left [] h = refl
none_left (b ∷ bs) h = absurd (omega arith)
