-- The lines before the first one with a byte that isn't allowed.
use Rattle.std.proofs.Common.{◌≡◌, ℕ, zero, suc, ◌+◌, Bool, true, false, cond, List, [], ◌∷◌, length, take, Some, None, refl, sym, ap, ◌∙◌}
use Rattle.std.specs.List.{flat_map}
use Rattle.qsr_lex.specs.Bytes.{is_lf}
use Rattle.qsr_lex.specs.TextLines.{add_byte, text_lines, is_clean, clean_front, readable_text, bad_line, bad_line_from}
use Rattle.qsr_lex.proofs.Scanning.{add_byte-lf}
use Rattle.qsr_lex.proofs.Spans.{concat-text_lines}

abbrev concat : List (List ℕ) → List ℕ
concat ls = flat_map (λ l. l) ls

-- the first lines of a text are a text with those lines
front_lines : (b k : ℕ) (bs l : List ℕ) (ls : List (List ℕ)) → text_lines bs ≡ l ∷ ls
    → ((m : ℕ) → text_lines (concat (take m (text_lines bs))) ≡ take m (text_lines bs))
    → (c : Bool) → is_lf b ≡ c
    → text_lines (concat (take (suc k) (cond c ((b ∷ []) ∷ l ∷ ls) ((b ∷ l) ∷ ls)))) ≡ take (suc k) (cond c ((b ∷ []) ∷ l ∷ ls) ((b ∷ l) ∷ ls))
front_lines b k bs l ls e below true is =
    let inner = ap (λ xs. text_lines (concat (take k xs))) (sym e) ∙ below k ∙ ap (take k) e in
    ap (add_byte b) inner ∙ add_byte-lf b (take k (l ∷ ls)) is
front_lines b k bs l ls e below false is =
    let inner = ap (λ xs. text_lines (concat (take (suc k) xs))) (sym e) ∙ below (suc k) ∙ ap (take (suc k)) e in
    ap (add_byte b) inner ∙ ap (λ c. cond c ((b ∷ []) ∷ l ∷ take k ls) ((b ∷ l) ∷ take k ls)) is

add_byte-front : (b k : ℕ) (bs : List ℕ) (ls : List (List ℕ)) → text_lines bs ≡ ls
    → ((m : ℕ) → text_lines (concat (take m (text_lines bs))) ≡ take m (text_lines bs))
    → text_lines (concat (take (suc k) (add_byte b ls))) ≡ take (suc k) (add_byte b ls)
add_byte-front b zero bs [] e below = refl
add_byte-front b (suc k) bs [] e below = refl
add_byte-front b k bs (l ∷ ls) e below = front_lines b k bs l ls e below (is_lf b) refl

pub text_lines-take : (bs : List ℕ) (k : ℕ) → text_lines (concat (take k (text_lines bs))) ≡ take k (text_lines bs)
text_lines-take bs zero = refl
text_lines-take [] (suc k) = refl
text_lines-take (b ∷ bs) (suc k) = add_byte-front b k bs (text_lines bs) refl (text_lines-take bs)

-- the clean lines are the first so many lines
clean_take : (c : Bool) (l : List ℕ) (ls : List (List ℕ)) → clean_front ls ≡ take (length (clean_front ls)) ls
    → cond c (l ∷ clean_front ls) [] ≡ take (length (cond c (l ∷ clean_front ls) [])) (l ∷ ls)
clean_take true l ls h = ap (λ xs. l ∷ xs) h
clean_take false l ls h = refl

pub clean_front-take : (ls : List (List ℕ)) → clean_front ls ≡ take (length (clean_front ls)) ls
clean_front-take [] = refl
clean_front-take (l ∷ ls) = clean_take (is_clean l) l ls (clean_front-take ls)

-- the readable text has the clean lines
pub text_lines-readable : (bs : List ℕ) → text_lines (readable_text bs) ≡ clean_front (text_lines bs)
text_lines-readable bs =
    let is_take = clean_front-take (text_lines bs) in
    ap (λ ls. text_lines (concat ls)) is_take ∙ text_lines-take bs (length (clean_front (text_lines bs))) ∙ sym is_take

-- no clean line is bad
no_bad : (c : Bool) (l : List ℕ) (ls : List (List ℕ)) (n : ℕ) → is_clean l ≡ c → bad_line_from (n + 1) (clean_front ls) ≡ None
    → bad_line_from n (cond c (l ∷ clean_front ls) []) ≡ None
no_bad true l ls n is h = ap (λ c. cond c (bad_line_from (n + 1) (clean_front ls)) (Some n)) is ∙ h
no_bad false l ls n is h = refl

bad_line-clean_front : (n : ℕ) (ls : List (List ℕ)) → bad_line_from n (clean_front ls) ≡ None
bad_line-clean_front n [] = refl
bad_line-clean_front n (l ∷ ls) = no_bad (is_clean l) l ls n refl (bad_line-clean_front (n + 1) ls)

pub bad_line-readable : (bs : List ℕ) → bad_line (readable_text bs) ≡ None
bad_line-readable bs = ap (bad_line_from 1) (text_lines-readable bs) ∙ bad_line-clean_front 1 (text_lines bs)

-- where no line is bad, all are clean
all_clean : (c : Bool) (l : List ℕ) (ls : List (List ℕ)) (n : ℕ) → cond c (bad_line_from (n + 1) ls) (Some n) ≡ None
    → (bad_line_from (n + 1) ls ≡ None → clean_front ls ≡ ls) → cond c (l ∷ clean_front ls) [] ≡ l ∷ ls
all_clean true l ls n h below = ap (λ xs. l ∷ xs) (below h)
all_clean false l ls n h below = cc

clean_front-all : (n : ℕ) (ls : List (List ℕ)) → bad_line_from n ls ≡ None → clean_front ls ≡ ls
clean_front-all n [] h = refl
clean_front-all n (l ∷ ls) h = all_clean (is_clean l) l ls n h (clean_front-all (n + 1) ls)

pub readable_text-all : (bs : List ℕ) → bad_line bs ≡ None → readable_text bs ≡ bs
readable_text-all bs h = ap concat (clean_front-all 1 (text_lines bs) h) ∙ concat-text_lines bs
