-- Names and sets of names that are printed are read again.
use Rattle.std.proofs.Common.{◌≡◌, ℕ, zero, suc, ◌<◌, ◌==◌, Bool, true, false, not, ◌&&◌, ◌||◌, cond, nat_le, get_or, List, [], ◌∷◌, ◌++◌, length, map, Some, None, option_map, refl, sym, ap, ◌∙◌, arith}
use Rattle.std.specs.List.{list_all, prefix_len}
use Rattle.std.proofs.lemmas.List.{append-nil}
use Rattle.std.proofs.lemmas.Bool.{and_parts}
use Rattle.std.specs.Str.{IsAscii}
use Rattle.std.proofs.lemmas.Bool.Decides.{nat_tests}
use Rattle.qsr_lex.specs.Bytes.{is_allowed, is_word_byte}
use Rattle.qsr_lex.specs.Lexemes.{kind_of, starts_with_colon}
use Rattle.qsr_lex.specs.Names.{is_name, is_name_byte, starts_with_digit, is_end_mark}
use Rattle.qsr_lex.specs.LineTokens.{is_same_kind, is_name_token, names_until_close}
use Rattle.qsr_lex.specs.Printed.{is_mark_text, is_word_char, is_token_text, lexeme_from, IsPrintedName, IsPrintedSet}
use Rattle.qsr_lex.specs.declared.tokens.TokenKind.TheVariants.{Word, Open, Close, Comma, Colon, Colons, Stop}
use Rattle.qsr_lex.proofs.PrintedText.{word_run}

-- a name's parts
pub record IsNameText (w : List ℕ) : Type 0 where
  pub some : nat_le 1 (length w) ≡ true
  pub word : list_all is_word_char w ≡ true
  pub no_stop : is_end_mark w ≡ false

name_chars : (w : List ℕ) → list_all is_name_byte w ≡ true → list_all is_word_char w ≡ true
name_chars [] h = refl
name_chars (b ∷ bs) h =
    let parts = and_parts (is_name_byte b) (list_all is_name_byte bs) h in
    ap (λ c. c && list_all is_word_char bs) (and_parts (is_word_char b) (not (b == 34 || b == 92)) parts.0).0 ∙ name_chars bs parts.1

false_from_not : (c : Bool) → not c ≡ true → c ≡ false
false_from_not true h = cc
false_from_not false h = refl

pub IsNameText-from_test : (w : List ℕ) → is_name w ≡ true → IsNameText w
IsNameText-from_test w h =
    let outer = and_parts (nat_le 1 (length w) && nat_le (length w) 64 && list_all is_name_byte w && not (starts_with_digit w)) (not (is_end_mark w)) h in
    let digit = and_parts (nat_le 1 (length w) && nat_le (length w) 64 && list_all is_name_byte w) (not (starts_with_digit w)) outer.0 in
    let chars = and_parts (nat_le 1 (length w) && nat_le (length w) 64) (list_all is_name_byte w) digit.0 in
    record {
      some = (and_parts (nat_le 1 (length w)) (nat_le (length w) 64) chars.0).0;
      word = name_chars w chars.1;
      no_stop = false_from_not (is_end_mark w) outer.1;
    }

-- a name is ASCII
ascii_byte : (b : ℕ) → is_word_char b ≡ true → b < 128
ascii_byte b h = let allowed = (and_parts (is_allowed b) (is_word_byte b) h).0 in grind (arith, nat_tests, allowed)

ascii_at : (b : ℕ) (bs : List ℕ) → is_word_char b ≡ true → IsAscii bs → (i : ℕ) → get_or (b ∷ bs) i 0 < 128
ascii_at b bs h below zero = ascii_byte b h
ascii_at b bs h below (suc i) = below i

IsAscii-word : (w : List ℕ) → list_all is_word_char w ≡ true → IsAscii w
IsAscii-word [] h = λ i. omega arith
IsAscii-word (b ∷ bs) h = λ i. ascii_at b bs (and_parts (is_word_char b) (list_all is_word_char bs) h).0 (IsAscii-word bs (and_parts (is_word_char b) (list_all is_word_char bs) h).1) i

pub IsAscii-name : (w : List ℕ) → is_name w ≡ true → IsAscii w
IsAscii-name w h = IsAscii-word w (IsNameText-from_test w h).word

-- a word is a token
or_true : (x y : Bool) → y ≡ true → (x || y) ≡ true
or_true true y h = refl
or_true false y h = h

pub word_is_token : (w : List ℕ) → nat_le 1 (length w) ≡ true → list_all is_word_char w ≡ true → is_token_text w ≡ true
word_is_token w some word = or_true (is_mark_text w) (nat_le 1 (length w) && list_all is_word_char w) (ap (λ c. c && list_all is_word_char w) some ∙ word)

-- its kind is that of a word, unless it is a point alone
no_mark : (b : ℕ) → is_word_byte b ≡ true → ((b == 40) ≡ false) × ((b == 41) ≡ false) × ((b == 44) ≡ false) × ((b == 58) ≡ false)
no_mark b h = (grind (arith, nat_tests), grind (arith, nat_tests), grind (arith, nat_tests), grind (arith, nat_tests))

zero_test : (n : ℕ) → (n == 0) ≡ nat_le n 0
zero_test n = grind (arith, nat_tests)

word_kind : (b : ℕ) (bs : List ℕ) → list_all is_word_char (b ∷ bs) ≡ true → is_end_mark (b ∷ bs) ≡ false → kind_of (b ∷ bs) ≡ Word
word_kind b bs h no_stop =
    let parts = and_parts (is_word_char b) (list_all is_word_char bs) h in
    let facts = no_mark b (and_parts (is_allowed b) (is_word_byte b) parts.0).1 in
    let colon = starts_with_colon bs in
    let run : prefix_len is_word_byte bs ≡ length bs = ap (prefix_len is_word_byte) (sym (append-nil bs)) ∙ word_run bs [] parts.1 refl in
    let stop : ((b == 46) && (prefix_len is_word_byte bs == 0)) ≡ false =
    ap (λ n. (b == 46) && (n == 0)) run ∙ ap (λ c. (b == 46) && c) (zero_test (length bs)) ∙ no_stop in
    let last = cond ((b == 46) && (prefix_len is_word_byte bs == 0)) Stop Word in
    ap (λ c. cond c Open (cond (b == 41) Close (cond (b == 44) Comma (cond (b == 58) (cond colon Colons Colon) last)))) facts.0
    ∙ ap (λ c. cond c Close (cond (b == 44) Comma (cond (b == 58) (cond colon Colons Colon) last))) facts.1
    ∙ ap (λ c. cond c Comma (cond (b == 58) (cond colon Colons Colon) last)) facts.2
    ∙ ap (λ c. cond c (cond colon Colons Colon) last) facts.3
    ∙ ap (λ c. cond c Stop Word) stop

pub kind_of-word : (w : List ℕ) → list_all is_word_char w ≡ true → is_end_mark w ≡ false → kind_of w ≡ Word
kind_of-word [] h no_stop = refl
kind_of-word (b ∷ bs) h no_stop = word_kind b bs h no_stop

-- a printed name is one token, and a name
pub IsPrintedName-from_test : (w : List ℕ) → is_name w ≡ true → IsPrintedName w
IsPrintedName-from_test w h =
    let is = IsNameText-from_test w h in
    record {
      token = word_is_token w is.some is.word;
      word = ap (λ k. is_same_kind k Word && is_name w) (kind_of-word w is.word is.no_stop) ∙ h;
    }

-- a printed set of names is read as these names
names_until_close-printed : (names rest : List (List ℕ)) → list_all is_name names ≡ true
    → names_until_close (map lexeme_from (names ++ (41 ∷ []) ∷ rest)) ≡ Some (names, map lexeme_from rest)
names_until_close-printed [] rest h = refl
names_until_close-printed (w ∷ names) rest h =
    let parts = and_parts (is_name w) (list_all is_name names) h in
    let is = IsNameText-from_test w parts.0 in
    let below = names_until_close (map lexeme_from (names ++ (41 ∷ []) ∷ rest)) in
    ap (λ k. cond (is_same_kind k Close) (Some ([], map lexeme_from (names ++ (41 ∷ []) ∷ rest)))
    (cond (is_name_token (lexeme_from w)) (option_map (λ found. (w ∷ found.0, found.1)) below) None)) (kind_of-word w is.word is.no_stop)
    ∙ ap (λ c. cond c (option_map (λ found. (w ∷ found.0, found.1)) below) None) (IsPrintedName-from_test w parts.0).word
    ∙ ap (option_map (λ found. (w ∷ found.0, found.1))) (names_until_close-printed names rest parts.1)

pub IsPrintedSet-from_tests : (names rest : List (List ℕ)) → list_all is_name names ≡ true → IsPrintedSet names rest
IsPrintedSet-from_tests names rest h = record { read = names_until_close-printed names rest h }
