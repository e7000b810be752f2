-- How the next token comes off the front of a part of a line.
use Rattle.std.proofs.Common.{◌≡◌, ℕ, zero, suc, ◌+◌, ◌<◌, Bool, true, false, ◌&&◌, cond, List, [], ◌∷◌, ◌++◌, length, take, drop, refl, sym, ap, ◌∙◌, arith}
use Rattle.std.specs.List.{prefix_len}
use Rattle.std.proofs.lemmas.Bool.Decides.{nat_tests}
use Rattle.qsr_lex.specs.Bytes.{is_blank, is_colon, is_word_byte}
use Rattle.qsr_lex.specs.Lexemes.{lexeme_with, starts_with_blank, starts_with_colon, tail_len, kind_of, lexemes_after, lexemes}

-- bytes that belong to a token before are passed over
lexemes_after-skip : (skip : ℕ) (bs : List ℕ) → lexemes_after skip bs ≡ lexemes (drop skip bs)
lexemes_after-skip zero [] = refl
lexemes_after-skip zero (b ∷ bs) = refl
lexemes_after-skip (suc skip) [] = refl
lexemes_after-skip (suc skip) (b ∷ bs) = lexemes_after-skip skip bs

-- the token at the front, and those after it
pub lexemes-front : (bs : List ℕ) → 0 < length bs → starts_with_blank bs ≡ false → lexemes bs ≡ lexeme_with (kind_of bs) (take (1 + tail_len bs) bs) ∷ lexemes (drop (1 + tail_len bs) bs)
lexemes-front [] h e = absurd (omega arith)
lexemes-front (b ∷ bs) h e =
    let t = tail_len (b ∷ bs) in
    let further : suc t ≡ 1 + t = omega arith in
    ap (λ c. cond c [] (lexeme_with (kind_of (b ∷ bs)) (b ∷ take t bs) ∷ []) ++ lexemes_after t bs) e
    ∙ ap (λ xs. lexeme_with (kind_of (b ∷ bs)) (b ∷ take t bs) ∷ xs) (lexemes_after-skip t bs)
    ∙ ap (λ n. lexeme_with (kind_of (b ∷ bs)) (take n (b ∷ bs)) ∷ lexemes (drop n (b ∷ bs))) further

blank_facts : (b : ℕ) → is_blank b ≡ true → (is_word_byte b ≡ false) × (is_colon b ≡ false)
blank_facts b h = (grind (arith, nat_tests), grind (arith, nat_tests))

lexemes-blank : (b : ℕ) (bs : List ℕ) → is_blank b ≡ true → lexemes bs ≡ lexemes (b ∷ bs)
lexemes-blank b bs h =
    let facts = blank_facts b h in
    let none : tail_len (b ∷ bs) ≡ 0 =
    ap (λ c. cond c (prefix_len is_word_byte bs) (cond (is_colon b && starts_with_colon bs) 1 0)) facts.0 ∙ ap (λ c. cond (c && starts_with_colon bs) 1 0) facts.1 in
    sym (ap (λ c. cond c [] (lexeme_with (kind_of (b ∷ bs)) (b ∷ take (tail_len (b ∷ bs)) bs) ∷ []) ++ lexemes_after (tail_len (b ∷ bs)) bs) h
    ∙ ap (λ n. lexemes_after n bs) none)

lexemes-byte : (b : ℕ) (bs : List ℕ) (c : Bool) → is_blank b ≡ c → lexemes (drop (prefix_len is_blank bs) bs) ≡ lexemes bs
    → lexemes (drop (cond c (1 + prefix_len is_blank bs) 0) (b ∷ bs)) ≡ lexemes (b ∷ bs)
lexemes-byte b bs true h is =
    let further : 1 + prefix_len is_blank bs ≡ suc (prefix_len is_blank bs) = omega arith in
    ap (λ n. lexemes (drop n (b ∷ bs))) further ∙ is ∙ lexemes-blank b bs h
lexemes-byte b bs false h is = refl

-- blanks at the front are passed over
pub lexemes-after_blanks : (bs : List ℕ) → lexemes (drop (prefix_len is_blank bs) bs) ≡ lexemes bs
lexemes-after_blanks [] = refl
lexemes-after_blanks (b ∷ bs) = lexemes-byte b bs (is_blank b) refl (lexemes-after_blanks bs)

no_blank : (b : ℕ) (bs : List ℕ) (c : Bool) → is_blank b ≡ c → starts_with_blank (drop (prefix_len is_blank bs) bs) ≡ false
    → starts_with_blank (drop (cond c (1 + prefix_len is_blank bs) 0) (b ∷ bs)) ≡ false
no_blank b bs true h is =
    let further : 1 + prefix_len is_blank bs ≡ suc (prefix_len is_blank bs) = omega arith in
    ap (λ n. starts_with_blank (drop n (b ∷ bs))) further ∙ is
no_blank b bs false h is = h

-- and no blank stands after them
pub starts_with_blank-after_blanks : (bs : List ℕ) → starts_with_blank (drop (prefix_len is_blank bs) bs) ≡ false
starts_with_blank-after_blanks [] = refl
starts_with_blank-after_blanks (b ∷ bs) = no_blank b bs (is_blank b) refl (starts_with_blank-after_blanks bs)
