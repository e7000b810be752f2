-- Tokens stand one after the other, and the lines are as many as their ends.
use Rattle.std.proofs.Common.{◌≡◌, ℕ, zero, suc, ◌+◌, ◌==◌, ◌&&◌, ◌<◌, ◌≤◌, Bool, true, false, not, cond, List, [], ◌∷◌, ◌++◌, length, subst, refl, sym, ap, ◌∙◌, arith}
use Rattle.std.proofs.lemmas.List.Sums.{prefix_len-le-length, sum_by-cons}
use Rattle.std.proofs.lemmas.List.{length-append}
use Rattle.std.specs.List.{prefix_len, flat_map}
use Rattle.qsr_lex.specs.Bytes.{is_lf, is_blank, is_word_byte}
use Rattle.qsr_lex.specs.TextLines.{add_byte, text_lines, outside, line_count}
use Rattle.qsr_lex.specs.Lexemes.{tail_len, kind_of, starts_with_colon}
use Rattle.qsr_lex.specs.Tokens.{tokens_after, tokens_of_lines, AreApart, tokens_of}
use Rattle.qsr_lex.specs.declared.tokens.Token.{Token}
use Rattle.qsr_lex.proofs.Scanning.{length-outside-le}

-- a token has no more bytes than there are
tail_len-byte : (c d : Bool) (n m : ℕ) → n ≤ m → (d ≡ true → 1 ≤ m) → cond c n (cond d 1 0) ≤ m
tail_len-byte true d n m h k = h
tail_len-byte false true n m h k = k refl
tail_len-byte false false n m h k = omega arith

two_colons : (c : Bool) (bs : List ℕ) → (c && starts_with_colon bs) ≡ true → 1 ≤ length bs
two_colons true (b ∷ bs) h = omega arith
two_colons true [] h = cc
two_colons false bs h = cc

pub tail_len-le : (b : ℕ) (bs : List ℕ) → tail_len (b ∷ bs) ≤ length bs
tail_len-le b bs = tail_len-byte (is_word_byte b) ((b == 58) && starts_with_colon bs) (prefix_len is_word_byte bs) (length bs) (prefix_len-le-length is_word_byte bs) (two_colons (b == 58) bs)

-- what stands apart after an offset stands after an earlier one
pub AreApart-earlier : (from from' to : ℕ) (ts : List Token) → from ≤ from' → AreApart from' ts to → AreApart from ts to
AreApart-earlier from from' to [] h a = tt
AreApart-earlier from from' to (t ∷ ts) h a = (omega arith, a.1, a.2, a.3)

-- what stands apart up to an offset, and what stands apart after it
pub AreApart-append : (from mid to : ℕ) (ts us : List Token) → from ≤ mid → mid ≤ to → AreApart from ts mid → AreApart mid us to → AreApart from (ts ++ us) to
AreApart-append from mid to [] us h k a b = AreApart-earlier from mid to us h b
AreApart-append from mid to (t ∷ ts) us h k a b = (a.0, a.1, omega (arith, a.2), AreApart-append t.end mid to ts us a.2 k a.3 b)

-- what stands apart up to an offset stands apart up to a later one
pub AreApart-later : (from mid to : ℕ) (ts : List Token) → mid ≤ to → AreApart from ts mid → AreApart from ts to
AreApart-later from mid to [] k a = tt
AreApart-later from mid to (t ∷ ts) k a = (a.0, a.1, omega (arith, a.2), AreApart-later t.end mid to ts k a.3)

AreApart-here : (c : Bool) (from at to k : ℕ) (t : Token) (us : List Token) → t.start ≡ at → t.end ≡ at + (1 + k) → from ≤ at → at + (1 + k) ≤ to
    → AreApart (at + (1 + k)) us to → AreApart from (cond c [] (t ∷ []) ++ us) to
AreApart-here true from at to k t us s e h fits a = AreApart-earlier from (at + (1 + k)) to us (omega arith) a
AreApart-here false from at to k t us s e h fits a = (omega arith, omega arith, omega arith, subst (λ m. AreApart m us to) (sym e) a)

-- the tokens of a part of a line stand apart
pub AreApart-part : (n from at skip to : ℕ) (part : List ℕ) → from ≤ at + skip → skip ≤ length part → at + length part ≡ to → AreApart from (tokens_after n at skip part) to
AreApart-part n from at skip to [] h within is_end = tt
AreApart-part n from at (suc skip) to (b ∷ bs) h within is_end = AreApart-part n from (at + 1) skip to bs (omega arith) (omega arith) (omega arith)
AreApart-part n from at zero to (b ∷ bs) h within is_end =
    let t = tail_len (b ∷ bs) in
    let short = tail_len-le b bs in
    AreApart-here (is_blank b) from at to t (record { line = n; start = at; end = at + (1 + t); kind = kind_of (b ∷ bs) }) (tokens_after n (at + 1) t bs)
    refl refl (omega arith) (omega arith) (AreApart-part n (at + (1 + t)) (at + 1) t to bs (omega arith) short (omega arith))

-- the tokens of lines stand apart
pub AreApart-lines : (n at to : ℕ) (ls : List (List ℕ)) → at + length (flat_map (λ l. l) ls) ≡ to → AreApart at (tokens_of_lines n at ls) to
AreApart-lines n at to [] h = tt
AreApart-lines n at to (l ∷ ls) h =
    let whole = length-append l (flat_map (λ k. k) ls) in
    let inside = length-outside-le l in
    AreApart-append at (at + length (outside l)) to (tokens_after n at 0 (outside l)) (tokens_of_lines (n + 1) (at + length l) ls)
    (omega arith) (omega arith) (AreApart-part n at at 0 (at + length (outside l)) (outside l) (omega arith) (omega arith) refl)
    (AreApart-earlier (at + length (outside l)) (at + length l) to (tokens_of_lines (n + 1) (at + length l) ls) (omega arith)
    (AreApart-lines (n + 1) (at + length l) to ls (omega arith)))

-- the lines, one after the other, are the text
concat_add_byte : (b : ℕ) (ls : List (List ℕ)) → flat_map (λ l. l) (add_byte b ls) ≡ b ∷ flat_map (λ l. l) ls
concat_add_byte b [] = refl
concat_add_byte b (l ∷ ls) = by (is_lf b)
  where
    by : (c : Bool) → flat_map (λ k. k) (cond c ((b ∷ []) ∷ l ∷ ls) ((b ∷ l) ∷ ls)) ≡ b ∷ flat_map (λ k. k) (l ∷ ls)
    by true = refl
    by false = refl

pub concat-text_lines : (bs : List ℕ) → flat_map (λ l. l) (text_lines bs) ≡ bs
concat-text_lines [] = refl
concat-text_lines (b ∷ bs) = concat_add_byte b (text_lines bs) ∙ ap (λ xs. b ∷ xs) (concat-text_lines bs)

pub AreApart-tokens_of : (bs : List ℕ) → AreApart 0 (tokens_of bs) (length bs)
AreApart-tokens_of bs = AreApart-lines 1 0 (length bs) (text_lines bs) (let e = ap length (concat-text_lines bs) in omega arith)

-- a text's lines are as many as its LFs, and one more where bytes follow the last
length_add_byte : (c : Bool) (b : ℕ) (l : List ℕ) (ls : List (List ℕ)) → length (cond c ((b ∷ []) ∷ l ∷ ls) ((b ∷ l) ∷ ls)) ≡ cond c 1 0 + length (l ∷ ls)
length_add_byte true b l ls = omega arith
length_add_byte false b l ls = omega arith

length_from_lines : (b : ℕ) (ls : List (List ℕ)) → 0 < length ls → length (add_byte b ls) ≡ cond (is_lf b) 1 0 + length ls
length_from_lines b [] h = absurd (omega arith)
length_from_lines b (l ∷ ls) h = length_add_byte (is_lf b) b l ls

last_line : (c : Bool) → 1 ≡ 0 + cond c 1 0 + cond (not c) 1 0
last_line true = refl
last_line false = refl

some_lines : (b : ℕ) (ls : List (List ℕ)) → 0 < length (add_byte b ls)
some_lines b [] = omega arith
some_lines b (l ∷ ls) = let e = length_add_byte (is_lf b) b l ls in omega (arith, e)

pub length-text_lines : (bs : List ℕ) → length (text_lines bs) ≡ line_count bs
length-text_lines [] = refl
length-text_lines (b ∷ []) = last_line (is_lf b)
length-text_lines (b ∷ c ∷ bs) =
    let first = length_from_lines b (text_lines (c ∷ bs)) (some_lines c (text_lines bs)) in
    let below = length-text_lines (c ∷ bs) in
    let counted = sum_by-cons (λ x. cond (is_lf x) 1 0) b (c ∷ bs) in
    omega (arith, first, below, counted)
