-- The canonical text of a table as lines of tokens with one space between.
use Rattle.std.proofs.Common.{◌≡◌, ℕ, zero, suc, List, [], ◌∷◌, ◌++◌, codes, refl, sym, ap, ◌∙◌, append_assoc, append-nil}
use Rattle.qsr_lex.specs.Printed.{spaced, printed_line, printed, text_below, word_text}
use Rattle.calculus_table.specs.Algebra.{converse_at, entry_at}
use Rattle.calculus_table.specs.Calculus.{NamedAlgebra}
use Rattle.named_sets.specs.Written.{set_tokens}
use Rattle.qsr_lex.proofs.WrittenTexts.{spaces, spaces-append, spaced-more, spaced-close}
use Rattle.named_sets.proofs.WrittenSets.{set_text-spaced}
use Rattle.calculus_load.specs.TableText.{base_name, names_text, identity_text, converse_text, entry_text, row_text, table_text}

-- f 0, .., f (n - 1)
unfoldable pub listed : {A : Type 0} → ℕ → (ℕ → A) → List A
listed zero f = []
listed (suc n) f = listed n f ++ (f n ∷ [])

abbrev pub names_tokens_of : NamedAlgebra → List (List ℕ)
names_tokens_of c = codes "names" ∷ codes "(" ∷ (listed c.algebra.size (base_name c) ++ (codes ")" ∷ []))

abbrev pub identity_tokens_of : NamedAlgebra → List (List ℕ)
identity_tokens_of c = codes "identity" ∷ base_name c c.algebra.identity ∷ []

abbrev pub converse_tokens_of : NamedAlgebra → ℕ → List (List ℕ)
converse_tokens_of c r = base_name c r ∷ codes "::" ∷ base_name c (converse_at c.algebra r) ∷ []

abbrev pub entry_tokens_of : NamedAlgebra → ℕ → ℕ → List (List ℕ)
entry_tokens_of c r s = base_name c r ∷ codes ":" ∷ base_name c s ∷ codes "::" ∷ set_tokens c (entry_at c.algebra r s)

unfoldable pub row_lines : NamedAlgebra → ℕ → List (List (List ℕ))
row_lines c zero = []
row_lines c (suc r) = row_lines c r ++ listed c.algebra.size (entry_tokens_of c r)

abbrev pub end_lines : List (List (List ℕ))
end_lines = (codes "." ∷ []) ∷ []

abbrev pub table_lines : NamedAlgebra → List (List (List ℕ))
table_lines c =
    names_tokens_of c ∷ identity_tokens_of c ∷ (listed c.algebra.size (converse_tokens_of c) ++ (row_lines c c.algebra.size ++ end_lines))

printed-append : (xs ys : List (List (List ℕ))) → printed (xs ++ ys) ≡ printed xs ++ printed ys
printed-append [] ys = refl
printed-append (x ∷ xs) ys = ap (λ t. printed_line x ++ t) (printed-append xs ys) ∙ sym (append_assoc (printed_line x) (printed xs) (printed ys))

names-spaces : (c : NamedAlgebra) (n : ℕ) → text_below n (word_text c.names) ≡ spaces (listed n (base_name c))
unfolding text_below listed
names-spaces c zero = refl
names-spaces c (suc n) =
    ap (λ t. t ++ word_text c.names n) (names-spaces c n) ∙ ap (λ t. spaces (listed n (base_name c)) ++ t) (sym (append-nil (word_text c.names n)))
    ∙ sym (spaces-append (listed n (base_name c)) (base_name c n ∷ []))

lines-printed : (n : ℕ) (text : ℕ → List ℕ) (words : ℕ → List (List ℕ)) → ((k : ℕ) → text k ≡ printed_line (words k)) → text_below n text ≡ printed (listed n words)
unfolding text_below listed
lines-printed zero text words h = refl
lines-printed (suc n) text words h =
    ap (λ t. t ++ text n) (lines-printed n text words h) ∙ ap (λ t. printed (listed n words) ++ t) (h n ∙ sym (append-nil (printed_line (words n))))
    ∙ sym (printed-append (listed n words) (words n ∷ []))

names-line : (c : NamedAlgebra) → names_text c ≡ printed_line (names_tokens_of c)
names-line c =
    let ws = listed c.algebra.size (base_name c) in
    ap (λ t. codes "names ( " ++ t ++ codes ")\n") (names-spaces c c.algebra.size)
    ∙ ap (λ t. codes "names ( " ++ t) (sym (append_assoc (spaces ws) (codes ")") (codes "\n")))
    ∙ ap (λ t. codes "names ( " ++ (t ++ codes "\n")) (sym (spaced-close ws))
    ∙ ap (λ t. codes "names " ++ (t ++ codes "\n")) (sym (spaced-more (codes "(") ws (codes ")")))

converse-line : (c : NamedAlgebra) (r : ℕ) → converse_text c r ≡ printed_line (converse_tokens_of c r)
converse-line c r = simp append_assoc

last : (x y t : List ℕ) → (x ++ codes " : " ++ y ++ codes " :: ") ++ (t ++ codes "\n") ≡ (x ++ 32 ∷ (codes ": " ++ (y ++ 32 ∷ (codes ":: " ++ t)))) ++ codes "\n"
last x y t = simp append_assoc

entry-line : (c : NamedAlgebra) (r s : ℕ) → entry_text c r s ≡ printed_line (entry_tokens_of c r s)
entry-line c r s =
    let a = entry_at c.algebra r s in
    ap (λ t. (base_name c r ++ codes " : " ++ base_name c s ++ codes " :: ") ++ (t ++ codes "\n")) (set_text-spaced c a)
    ∙ last (base_name c r) (base_name c s) (spaced (set_tokens c a))

rows-printed : (c : NamedAlgebra) (n : ℕ) → text_below n (row_text c) ≡ printed (row_lines c n)
unfolding text_below row_lines
rows-printed c zero = refl
rows-printed c (suc n) =
    ap (λ t. t ++ row_text c n) (rows-printed c n)
    ∙ ap (λ t. printed (row_lines c n) ++ t) (lines-printed c.algebra.size (entry_text c n) (entry_tokens_of c n) (entry-line c n))
    ∙ sym (printed-append (row_lines c n) (listed c.algebra.size (entry_tokens_of c n)))

all : (a b c d : List ℕ) → a ++ b ++ c ++ d ++ codes ".\n" ≡ a ++ (b ++ (c ++ (d ++ codes ".\n")))
all a b c d = simp append_assoc

pub table_text-printed : (c : NamedAlgebra) → table_text c ≡ printed (table_lines c)
table_text-printed c =
    let n = c.algebra.size in
    let names = printed_line (names_tokens_of c) in
    let id = identity_text c in
    let cs = printed (listed n (converse_tokens_of c)) in
    let rs = printed (row_lines c n) in
    ap (λ t. t ++ id ++ text_below n (converse_text c) ++ text_below n (row_text c) ++ codes ".\n") (names-line c)
    ∙ ap (λ t. names ++ id ++ t ++ text_below n (row_text c) ++ codes ".\n") (lines-printed n (converse_text c) (converse_tokens_of c) (converse-line c))
    ∙ ap (λ t. names ++ id ++ cs ++ t ++ codes ".\n") (rows-printed c n)
    ∙ all names id cs rs
    ∙ ap (λ t. names ++ (id ++ (cs ++ t))) (sym (printed-append (row_lines c n) end_lines))
    ∙ ap (λ t. names ++ (id ++ t)) (sym (printed-append (listed n (converse_tokens_of c)) (row_lines c n ++ end_lines)))
