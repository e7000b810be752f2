-- The canonical text of a calculus is read as that calculus.
use Rattle.std.proofs.Common.{◌≡◌, ℕ, zero, suc, ◌+◌, ◌*◌, ◌<◌, ◌≤◌, Bool, true, false, cond, ◌&&◌, List, [], ◌∷◌, ◌++◌, codes, length, map, set, replicate, get_or, Option, Some, None, is_some, option_map, slice_set, Result, Ok, Err, refl, sym, ap, ◌∙◌, subst, arith}
use Rattle.std.specs.List.{list_all}
use Rattle.std.proofs.lemmas.Nat.{mul-add-lt}
use Rattle.qsr_lex.specs.Lexemes.{Lexeme}
use Rattle.qsr_lex.specs.Names.{is_name}
use Rattle.qsr_lex.specs.LineTokens.{name_at, after_kind, is_name_token, is_same_kind, ◌>>=◌, at_end, ends_there, is_end_line}
use Rattle.qsr_lex.specs.TokenLines.{TokenLine, add_line}
use Rattle.qsr_lex.specs.Printed.{is_token_text, are_tokens, lexeme_from, printed_token_lines}
use Rattle.line_files.specs.declared.lines.TextEnd.{TextEnd}
use Rattle.line_files.specs.declared.lines.TextEnd.TheVariants.{Whole}
use Rattle.line_files.proofs.FileTexts.{file_text-printed}
use Rattle.qsr_lex.specs.declared.tokens.TokenKind.TheVariants.{Colon, Colons, Stop}
use Rattle.qsr_lex.proofs.PrintedNames.{IsNameText-from_test, kind_of-word, IsPrintedName-from_test, IsPrintedSet-from_tests}
use Rattle.calculus_table.specs.Algebra.{converse_at, entry_at}
use Rattle.calculus_table.specs.Calculus.{NamedAlgebra}
use Rattle.calculus_load.specs.Given.{Given, value_of, first_missing, first_missing_from, complete}
use Rattle.calculus_table.specs.Names.{place_of}
use Rattle.named_sets.specs.Named.{set_of, set_at}
use Rattle.named_sets.specs.Written.{members}
use Rattle.named_sets.proofs.ReadSets.{set_of-members}
use Rattle.named_sets.proofs.WrittenSets.{members-names, closed-tokens}
use Rattle.calculus_load.specs.Names.{allowed_names}
use Rattle.calculus_load.specs.Statements.{some_names, names_line, converse_line, after_colons, entry_line, after_colon, or_else, statement_line}
use Rattle.calculus_load.specs.TableFile.{or_syntax, or_unknown, with_statement, statement_of_line, given_at_end, statements, nothing_given, names_of_line, identity_of_line, from_identity, from_names, given_by, table_of}
use Rattle.calculus_load.specs.TableText.{table_text}
use Rattle.calculus_load.specs.TableText as texts
use Rattle.calculus_load.specs.declared.statement.Statement.TheVariants.{Converse, Entry}
use Rattle.calculus_load.specs.declared.fault.LoadFault.{LoadFault}
use Rattle.calculus_load.specs.declared.fault.LoadFault.TheVariants.{Twice}
use Rattle.calculus_load.proofs.Faults.{◌then◌, complete-given}
use Rattle.calculus_load.proofs.PrintedTable.{listed, names_tokens_of, identity_tokens_of, converse_tokens_of, entry_tokens_of, row_lines, end_lines, table_lines, table_text-printed}
use Rattle.calculus_load.proofs.NamesAgain.{HasNames, size-is, base_name-is_name, listed-names, place_of-name, allowed_names-again}

-- ---- each text is one token
step : (a b d : Bool) → a && b ≡ true → (b ≡ true → d ≡ true) → a && d ≡ true
step true b d h k = k h
step false b d h k = h

all-append : {A : Type 0} (test : A → Bool) (xs ys : List A) → list_all test xs ≡ true → list_all test ys ≡ true → list_all test (xs ++ ys) ≡ true
all-append test [] ys h k = k
all-append test (x ∷ xs) ys h k = step (test x) (list_all test xs) (list_all test (xs ++ ys)) h (λ rest. all-append test xs ys rest k)

all-listed : {A : Type 0} (test : A → Bool) (n : ℕ) (f : ℕ → A) → ((k : ℕ) → k < n → test (f k) ≡ true) → list_all test (listed n f) ≡ true
unfolding listed
all-listed test zero f h = refl
all-listed test (suc n) f h = all-append test (listed n f) (f n ∷ []) (all-listed test n f (λ k b. h k (omega arith))) (ap (λ b. b && true) (h n (omega arith)))

name-token : (c : NamedAlgebra) (r : ℕ) → HasNames c → r < c.algebra.size → is_token_text (texts.base_name c r) ≡ true
name-token c r h below = (IsPrintedName-from_test (texts.base_name c r) (base_name-is_name c r h below)).token

both : (a b : Bool) → a ≡ true → b ≡ true → a && b ≡ true
both a b h k = ap (λ x. x && b) h ∙ k

converse-tokens : (c : NamedAlgebra) (r : ℕ) → HasNames c → r < c.algebra.size → are_tokens (converse_tokens_of c r) ≡ true
converse-tokens c r h below =
    both (is_token_text (texts.base_name c r)) (is_token_text (texts.base_name c (converse_at c.algebra r)) && true) (name-token c r h below)
    (ap (λ b. b && true) (name-token c (converse_at c.algebra r) h (h.lawful.lawful.table.converse_below r below)))

entry-tokens : (c : NamedAlgebra) (r s : ℕ) → HasNames c → r < c.algebra.size → s < c.algebra.size → are_tokens (entry_tokens_of c r s) ≡ true
entry-tokens c r s h b1 b2 =
    let ms = members c (entry_at c.algebra r s) in
    both (is_token_text (texts.base_name c r)) (is_token_text (texts.base_name c s) && list_all is_token_text (ms ++ (codes ")" ∷ []))) (name-token c r h b1)
    (both (is_token_text (texts.base_name c s)) (list_all is_token_text (ms ++ (codes ")" ∷ []))) (name-token c s h b2)
    (closed-tokens ms (members-names c.names (entry_at c.algebra r s) c.algebra.size h.names (omega (arith, size-is c h)))))

row-tokens : (c : NamedAlgebra) (r : ℕ) → HasNames c → r ≤ c.algebra.size → list_all are_tokens (row_lines c r) ≡ true
unfolding row_lines
row-tokens c zero h small = refl
row-tokens c (suc r) h small =
    all-append are_tokens (row_lines c r) (listed c.algebra.size (entry_tokens_of c r)) (row-tokens c r h (omega arith))
    (all-listed are_tokens c.algebra.size (entry_tokens_of c r) (λ s b. entry-tokens c r s h (omega arith) b))

table-tokens : (c : NamedAlgebra) → HasNames c → list_all are_tokens (table_lines c) ≡ true
table-tokens c h =
    let n = c.algebra.size in
    both (list_all is_token_text (listed n (texts.base_name c) ++ (codes ")" ∷ []))) (are_tokens (identity_tokens_of c) && list_all are_tokens (listed n (converse_tokens_of c) ++ (row_lines c n ++ end_lines)))
    (all-append is_token_text (listed n (texts.base_name c)) (codes ")" ∷ []) (all-listed is_token_text n (texts.base_name c) (λ k b. name-token c k h b)) refl)
    (both (are_tokens (identity_tokens_of c)) (list_all are_tokens (listed n (converse_tokens_of c) ++ (row_lines c n ++ end_lines)))
    (ap (λ b. b && true) (name-token c c.algebra.identity h h.lawful.lawful.table.identity_below))
    (all-append are_tokens (listed n (converse_tokens_of c)) (row_lines c n ++ end_lines)
    (all-listed are_tokens n (converse_tokens_of c) (λ r b. converse-tokens c r h b))
    (all-append are_tokens (row_lines c n) end_lines (row-tokens c n h (omega arith)) refl)))

-- ---- the lines that are read
add_line-append : (m : ℕ) (ws : List Lexeme) (rest ys : List TokenLine) → add_line m ws rest ++ ys ≡ add_line m ws (rest ++ ys)
add_line-append m [] rest ys = refl
add_line-append m (x ∷ xs) rest ys = refl

token_lines-append : (m : ℕ) (xs ys : List (List (List ℕ))) → printed_token_lines m (xs ++ ys) ≡ printed_token_lines m xs ++ printed_token_lines (m + length xs) ys
token_lines-append m [] ys = ap (λ k. printed_token_lines k ys) (omega arith)
token_lines-append m (x ∷ xs) ys =
    ap (add_line m (map lexeme_from x)) (token_lines-append (m + 1) xs ys ∙ ap (λ k. printed_token_lines (m + 1) xs ++ printed_token_lines k ys) (omega arith))
    ∙ sym (add_line-append m (map lexeme_from x) (printed_token_lines (m + 1) xs) (printed_token_lines (m + length (x ∷ xs)) ys))

-- lines that are no end lines, and what they give one after another
abbrev Reads : List TokenLine → Given → Given → Type 0
Reads [] g h = g ≡ h
Reads (l ∷ ls) g h = (m : Given) × (is_end_line l.tokens ≡ false) × (statement_of_line l.number l.tokens g ≡ Ok m) × Reads ls m h

reads-append : (xs ys : List TokenLine) (g h k : Given) → Reads xs g h → Reads ys h k → Reads (xs ++ ys) g k
reads-append [] ys g h k e r = subst (λ x. Reads ys x k) (sym e) r
reads-append (l ∷ ls) ys g h k e r = (e.0, e.1, e.2, reads-append ls ys e.0 h k e.3 r)

statements-reads : (end : TextEnd) (xs ys : List TokenLine) (g h : Given) → Reads xs g h → statements end (xs ++ ys) g ≡ statements end ys h
statements-reads end [] ys g h e = ap (statements end ys) e
statements-reads end (l ∷ ls) ys g h e =
    ap (λ b. cond b (given_at_end end (ls ++ ys) g) (statement_of_line l.number l.tokens g then λ m. statements end (ls ++ ys) m)) e.1
    ∙ ap (λ r. r then λ m. statements end (ls ++ ys) m) e.2
    ∙ statements-reads end ls ys e.0 h e.3

-- ---- lists of which a front was given
abbrev front : List ℕ → ℕ → List (Option ℕ)
front [] k = []
front (x ∷ xs) zero = None ∷ front xs zero
front (x ∷ xs) (suc k) = Some x ∷ front xs k

front-none : (xs : List ℕ) → replicate (length xs) None ≡ front xs 0
front-none [] = refl
front-none (x ∷ xs) = ap (λ ys. None ∷ ys) (front-none xs)

front-open : (xs : List ℕ) (k : ℕ) → get_or (front xs k) k None ≡ None
front-open [] k = refl
front-open (x ∷ xs) zero = refl
front-open (x ∷ xs) (suc k) = front-open xs k

front-next : (xs : List ℕ) (k : ℕ) → k < length xs → set (front xs k) k (Some (get_or xs k 0)) ≡ front xs (suc k)
front-next [] k h = absurd (omega arith)
front-next (x ∷ xs) zero h = refl
front-next (x ∷ xs) (suc k) h = ap (λ ys. Some x ∷ ys) (front-next xs k (omega arith))

front-all : (xs : List ℕ) → front xs (length xs) ≡ map (λ x. Some x) xs
front-all [] = refl
front-all (x ∷ xs) = ap (λ ys. Some x ∷ ys) (front-all xs)

none-missing : (xs : List ℕ) (k : ℕ) → first_missing_from k (map (λ x. Some x) xs) ≡ None
none-missing [] k = refl
none-missing (x ∷ xs) k = none-missing xs (k + 1)

values-given : (xs : List ℕ) → map value_of (map (λ x. Some x) xs) ≡ xs
values-given [] = refl
values-given (x ∷ xs) = ap (λ ys. x ∷ ys) (values-given xs)

-- the names and the identity, the first k converses and the first e compositions
abbrev upto : NamedAlgebra → ℕ → ℕ → Given
upto c k e = record { names = c.names; identity = c.algebra.identity; converses = front c.algebra.converses k; entries = front c.algebra.table e }

-- ---- the lines of converses and compositions
abbrev lex : List ℕ → Lexeme
lex w = lexeme_from w

word-of : (c : NamedAlgebra) (r : ℕ) → HasNames c → r < c.algebra.size → is_name_token (lex (texts.base_name c r)) ≡ true
word-of c r h below = (IsPrintedName-from_test (texts.base_name c r) (base_name-is_name c r h below)).word

name-read : (x : Lexeme) (xs : List Lexeme) → is_name_token x ≡ true → name_at (x ∷ xs) ≡ Some (x.text, xs)
name-read x xs h = ap (λ b. cond b (Some (x.text, xs)) None) h

no-end : (c : NamedAlgebra) (r : ℕ) (xs : List Lexeme) → HasNames c → r < c.algebra.size → is_end_line (lex (texts.base_name c r) ∷ xs) ≡ false
no-end c r xs h below =
    let is = IsNameText-from_test (texts.base_name c r) (base_name-is_name c r h below) in
    ap (λ k. ends_there (cond (is_same_kind k Stop) (Some xs) None)) (kind_of-word (texts.base_name c r) is.word is.no_stop)

converse-form : (c : NamedAlgebra) (r s : ℕ) → HasNames c → r < c.algebra.size → s < c.algebra.size
    → statement_line c.names (lex (texts.base_name c r) ∷ lex (codes "::") ∷ lex (texts.base_name c s) ∷ []) ≡ Some (Converse (Some r) (Some s))
converse-form c r s h b1 b2 =
    let x = lex (texts.base_name c r) in
    let y = lex (texts.base_name c s) in
    let rest = lex (codes "::") ∷ y ∷ [] in
    let line : converse_line c.names (x ∷ rest) ≡ Some (Converse (Some r) (Some s)) =
    ap (λ o. o >>= λ first. after_kind Colons first.1 >>= after_colons c.names (place_of first.0 c.names)) (name-read x rest (word-of c r h b1))
    ∙ ap (λ o. o >>= λ second. at_end (Converse (place_of (texts.base_name c r) c.names) (place_of second.0 c.names)) second.1) (name-read y [] (word-of c s h b2))
    ∙ ap (λ o. Some (Converse o (place_of (texts.base_name c s) c.names))) (place_of-name c r h b1)
    ∙ ap (λ o. Some (Converse (Some r) o)) (place_of-name c s h b2) in
    ap (λ o. or_else o (entry_line c.names (x ∷ rest))) line

entry-form : (c : NamedAlgebra) (r s : ℕ) → HasNames c → r < c.algebra.size → s < c.algebra.size
    → statement_line c.names (map lexeme_from (entry_tokens_of c r s)) ≡ Some (Entry (Some r) (Some s) (Some (entry_at c.algebra r s)))
entry-form c r s h b1 b2 =
    let a = entry_at c.algebra r s in
    let ms = members c a in
    let x = lex (texts.base_name c r) in
    let y = lex (texts.base_name c s) in
    let inner = map lexeme_from (codes "(" ∷ (ms ++ (codes ")" ∷ []))) in
    let more = lex (codes "::") ∷ inner in
    let rest = lex (codes ":") ∷ y ∷ more in
    let is_names : list_all is_name ms ≡ true = members-names c.names a c.algebra.size h.names (omega (arith, size-is c h)) in
    let no : converse_line c.names (x ∷ rest) ≡ None =
    ap (λ o. o >>= λ first. after_kind Colons first.1 >>= after_colons c.names (place_of first.0 c.names)) (name-read x rest (word-of c r h b1)) in
    let line : entry_line c.names (x ∷ rest) ≡ Some (Entry (Some r) (Some s) (Some a)) =
    ap (λ o. o >>= λ first. after_kind Colon first.1 >>= after_colon c.names (place_of first.0 c.names)) (name-read x rest (word-of c r h b1))
    ∙ ap (λ o. o >>= λ second. after_kind Colons second.1 >>= λ rest. set_at c.names rest >>= λ found.
    at_end (Entry (place_of (texts.base_name c r) c.names) (place_of second.0 c.names) found.0) found.1) (name-read y more (word-of c s h b2))
    ∙ ap (λ (o : Option (Option ℕ × List Lexeme)). o >>= λ found. at_end (Entry (place_of (texts.base_name c r) c.names) (place_of (texts.base_name c s) c.names) found.0) found.1)
    (ap (option_map (λ (found : List (List ℕ) × List Lexeme). (set_of c.names found.0, found.1))) (IsPrintedSet-from_tests ms [] is_names).read)
    ∙ ap (λ o. Some (Entry o (place_of (texts.base_name c s) c.names) (set_of c.names ms))) (place_of-name c r h b1)
    ∙ ap (λ o. Some (Entry (Some r) o (set_of c.names ms))) (place_of-name c s h b2)
    ∙ ap (λ o. Some (Entry (Some r) (Some s) o)) (set_of-members c.names c.algebra a h.lawful.distinct (size-is c h) (h.lawful.lawful.table.entry_within r s b1 b2)) in
    ap (λ o. or_else o (entry_line c.names (x ∷ rest))) no ∙ line

converse-given : (c : NamedAlgebra) (m r : ℕ) → HasNames c → r < c.algebra.size → statement_of_line m (map lexeme_from (converse_tokens_of c r)) (upto c r 0) ≡ Ok (upto c (suc r) 0)
converse-given c m r h below =
    let t = h.lawful.lawful.table in
    let j = converse_at c.algebra r in
    let g = upto c r 0 in
    let with : List (Option ℕ) → Given = λ x. record g { converses = x } in
    ap (λ o. or_syntax m o then λ s. with_statement m s g) (converse-form c r j h below (t.converse_below r below))
    ∙ ap (λ o. cond (is_some o) (Err (Twice m)) (Ok (with (slice_set g.converses r (Some j))))) (front-open c.algebra.converses r)
    ∙ ap (λ x. Ok (with x)) (front-next c.algebra.converses r (omega (arith, t.converses_length)))

converse-reads : (c : NamedAlgebra) (m k : ℕ) → HasNames c → k ≤ c.algebra.size → Reads (printed_token_lines m (listed k (converse_tokens_of c))) (upto c 0 0) (upto c k 0)
unfolding listed
converse-reads c m zero h small = refl
converse-reads c m (suc k) h small =
    let xs = listed k (converse_tokens_of c) in
    subst (λ ls. Reads ls (upto c 0 0) (upto c (suc k) 0)) (sym (token_lines-append m xs (converse_tokens_of c k ∷ [])))
    (reads-append (printed_token_lines m xs) (printed_token_lines (m + length xs) (converse_tokens_of c k ∷ [])) (upto c 0 0) (upto c k 0) (upto c (suc k) 0)
    (converse-reads c m k h (omega arith))
    (upto c (suc k) 0, no-end c k (lex (codes "::") ∷ lex (texts.base_name c (converse_at c.algebra k)) ∷ []) h (omega arith), converse-given c (m + length xs) k h (omega arith), refl))

entry-given : (c : NamedAlgebra) (m r s : ℕ) → HasNames c → r < c.algebra.size → s < c.algebra.size
    → statement_of_line m (map lexeme_from (entry_tokens_of c r s)) (upto c c.algebra.size (r * c.algebra.size + s)) ≡ Ok (upto c c.algebra.size (suc (r * c.algebra.size + s)))
entry-given c m r s h b1 b2 =
    let t = h.lawful.lawful.table in
    let n = c.algebra.size in
    let k = r * n + s in
    let g = upto c n k in
    let with : List (Option ℕ) → Given = λ x. record g { entries = x } in
    let place : ℕ → Result Given LoadFault = λ q. cond (is_some (get_or g.entries (r * q + s) None)) (Err (Twice m)) (Ok (with (slice_set g.entries (r * q + s) (Some (entry_at c.algebra r s))))) in
    ap (λ o. or_syntax m o then λ s. with_statement m s g) (entry-form c r s h b1 b2)
    ∙ ap place (size-is c h)
    ∙ ap (λ o. cond (is_some o) (Err (Twice m)) (Ok (with (slice_set g.entries k (Some (entry_at c.algebra r s)))))) (front-open c.algebra.table k)
    ∙ ap (λ x. Ok (with x)) (front-next c.algebra.table k (subst (λ q. k < q) (sym t.table_length) (mul-add-lt r n s n b1 b2)))

row-reads : (c : NamedAlgebra) (m r s : ℕ) → HasNames c → r < c.algebra.size → s ≤ c.algebra.size
    → Reads (printed_token_lines m (listed s (entry_tokens_of c r))) (upto c c.algebra.size (r * c.algebra.size)) (upto c c.algebra.size (r * c.algebra.size + s))
unfolding listed
row-reads c m r zero h b1 small = ap (upto c c.algebra.size) (omega arith)
row-reads c m r (suc s) h b1 small =
    let n = c.algebra.size in
    let xs = listed s (entry_tokens_of c r) in
    subst (λ ls. Reads ls (upto c n (r * n)) (upto c n (r * n + suc s))) (sym (token_lines-append m xs (entry_tokens_of c r s ∷ [])))
    (reads-append (printed_token_lines m xs) (printed_token_lines (m + length xs) (entry_tokens_of c r s ∷ [])) (upto c n (r * n)) (upto c n (r * n + s)) (upto c n (r * n + suc s))
    (row-reads c m r s h b1 (omega arith))
    (upto c n (suc (r * n + s)), no-end c r (map lexeme_from (codes ":" ∷ texts.base_name c s ∷ codes "::" ∷ codes "(" ∷ (members c (entry_at c.algebra r s) ++ (codes ")" ∷ [])))) h b1, entry-given c (m + length xs) r s h b1 (omega arith), ap (upto c n) (omega arith)))

rows-read : (c : NamedAlgebra) (m r : ℕ) → HasNames c → r ≤ c.algebra.size → Reads (printed_token_lines m (row_lines c r)) (upto c c.algebra.size 0) (upto c c.algebra.size (r * c.algebra.size))
unfolding row_lines
rows-read c m zero h small = ap (upto c c.algebra.size) (omega arith)
rows-read c m (suc r) h small =
    let n = c.algebra.size in
    let xs = row_lines c r in
    let ys = listed n (entry_tokens_of c r) in
    subst (λ ls. Reads ls (upto c n 0) (upto c n (suc r * n))) (sym (token_lines-append m xs ys))
    (reads-append (printed_token_lines m xs) (printed_token_lines (m + length xs) ys) (upto c n 0) (upto c n (r * n)) (upto c n (suc r * n))
    (rows-read c m r h (omega arith))
    (subst (λ e. Reads (printed_token_lines (m + length xs) ys) (upto c n (r * n)) (upto c n e)) (grind arith) (row-reads c (m + length xs) r n h (omega arith) (omega arith))))

-- ---- the whole
statements-again : (c : NamedAlgebra) (lines m : ℕ) → HasNames c
    → statements (Whole lines) (printed_token_lines m (listed c.algebra.size (converse_tokens_of c) ++ (row_lines c c.algebra.size ++ end_lines))) (upto c 0 0)
    ≡ Ok (upto c c.algebra.size (c.algebra.size * c.algebra.size))
statements-again c lines m h =
    let end : TextEnd = Whole lines in
    let n = c.algebra.size in
    let xs = listed n (converse_tokens_of c) in
    let ys = row_lines c n in
    let k = m + length xs in
    ap (λ ls. statements end ls (upto c 0 0)) (token_lines-append m xs (ys ++ end_lines))
    ∙ statements-reads end (printed_token_lines m xs) (printed_token_lines k (ys ++ end_lines)) (upto c 0 0) (upto c n 0) (converse-reads c m n h (omega arith))
    ∙ ap (λ ls. statements end ls (upto c n 0)) (token_lines-append k ys end_lines)
    ∙ statements-reads end (printed_token_lines k ys) (printed_token_lines (k + length ys) end_lines) (upto c n 0) (upto c n (n * n)) (rows-read c k n h (omega arith))

some-names : (names : List (List ℕ)) → 0 < length names → some_names names ≡ Some names
some-names [] h = absurd (omega arith)
some-names (x ∷ xs) h = refl

names-again : (c : NamedAlgebra) (line : ℕ) → HasNames c → names_of_line line (map lexeme_from (names_tokens_of c)) ≡ Ok c.names
names-again c line h =
    let ns = listed c.algebra.size (texts.base_name c) in
    let same = listed-names c h in
    let form : names_line (map lexeme_from (codes "names" ∷ codes "(" ∷ (c.names ++ (codes ")" ∷ [])))) ≡ Some c.names =
    ap (λ o. o >>= λ found. at_end found.0 found.1 >>= some_names) (IsPrintedSet-from_tests c.names [] h.names).read
    ∙ some-names c.names (omega (arith, size-is c h, h.lawful.lawful.table.some)) in
    ap (λ xs. names_of_line line (map lexeme_from (codes "names" ∷ codes "(" ∷ (xs ++ (codes ")" ∷ []))))) same
    ∙ ap (λ o. or_syntax line o then allowed_names line) form
    ∙ allowed_names-again c line h

identity-again : (c : NamedAlgebra) (line : ℕ) → HasNames c → identity_of_line c.names line (map lexeme_from (identity_tokens_of c)) ≡ Ok c.algebra.identity
identity-again c line h =
    let x = lex (texts.base_name c c.algebra.identity) in
    let below = h.lawful.lawful.table.identity_below in
    ap (λ o. or_syntax line (o >>= λ found. at_end found.0 found.1) then λ name. or_unknown line (place_of name c.names)) (name-read x [] (word-of c c.algebra.identity h below))
    ∙ ap (or_unknown line) (place_of-name c c.algebra.identity h below)

nothing-upto : (c : NamedAlgebra) → HasNames c → nothing_given c.names c.algebra.identity ≡ upto c 0 0
nothing-upto c h =
    let t = h.lawful.lawful.table in
    let converses : List (Option ℕ) → Given = λ x. record { names = c.names; identity = c.algebra.identity; converses = x; entries = replicate (length c.names * length c.names) None } in
    let entries : List (Option ℕ) → Given = λ x. record { names = c.names; identity = c.algebra.identity; converses = front c.algebra.converses 0; entries = x } in
    ap converses (ap (λ n. replicate n None) (size-is c h ∙ sym t.converses_length) ∙ front-none c.algebra.converses)
    ∙ ap entries (ap (λ n. replicate (n * n) None) (size-is c h) ∙ ap (λ n. replicate n None) (sym t.table_length) ∙ front-none c.algebra.table)

lines-read : (c : NamedAlgebra) (lines : ℕ) → HasNames c → from_names (Whole lines) (printed_token_lines 1 (table_lines c)) ≡ Ok (upto c c.algebra.size (c.algebra.size * c.algebra.size))
lines-read c lines h =
    let end : TextEnd = Whole lines in
    let n = c.algebra.size in
    let rest = listed n (converse_tokens_of c) ++ (row_lines c n ++ end_lines) in
    ap (λ r. r then from_identity end (printed_token_lines 2 (identity_tokens_of c ∷ rest))) (names-again c 1 h)
    ∙ ap (λ r. r then λ id. statements end (printed_token_lines 3 rest) (nothing_given c.names id)) (identity-again c 2 h)
    ∙ ap (statements end (printed_token_lines 3 rest)) (nothing-upto c h)
    ∙ statements-again c lines 3 h

complete-again : (c : NamedAlgebra) → HasNames c → complete (upto c c.algebra.size (c.algebra.size * c.algebra.size)) ≡ Ok c
complete-again c h =
    let t = h.lawful.lawful.table in
    let n = c.algebra.size in
    let g = upto c n (n * n) in
    let converses : g.converses ≡ map (λ x. Some x) c.algebra.converses = ap (front c.algebra.converses) (sym t.converses_length) ∙ front-all c.algebra.converses in
    let entries : g.entries ≡ map (λ x. Some x) c.algebra.table = ap (front c.algebra.table) (sym t.table_length) ∙ front-all c.algebra.table in
    let with_converses : List ℕ → NamedAlgebra = λ x. record { names = c.names; algebra = record { size = length c.names; identity = c.algebra.identity; converses = x; table = map value_of g.entries } } in
    let with_table : List ℕ → NamedAlgebra = λ x. record { names = c.names; algebra = record { size = length c.names; identity = c.algebra.identity; converses = c.algebra.converses; table = x } } in
    let with_size : ℕ → NamedAlgebra = λ x. record { names = c.names; algebra = record { size = x; identity = c.algebra.identity; converses = c.algebra.converses; table = c.algebra.table } } in
    complete-given g (ap first_missing converses ∙ none-missing c.algebra.converses 0) (ap first_missing entries ∙ none-missing c.algebra.table 0)
    ∙ ap (λ x. Ok (with_converses x)) (ap (map value_of) converses ∙ values-given c.algebra.converses)
    ∙ ap (λ x. Ok (with_table x)) (ap (map value_of) entries ∙ values-given c.algebra.table)
    ∙ ap (λ x. Ok (with_size x)) (size-is c h)

pub text-again : (c : NamedAlgebra) → HasNames c → table_of (table_text c) ≡ Ok c
text-again c h =
    let text = table_lines c in
    ap table_of (table_text-printed c)
    ∙ ap (λ t. given_by t then complete) (file_text-printed text (table-tokens c h))
    ∙ ap (λ r. r then complete) (lines-read c (length text) h)
    ∙ complete-again c h
